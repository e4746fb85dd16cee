use Rattle.std.proofs.Common.{[], refl}
use Rattle.ctl_world.proofs.SoundPlaces.{nothing_valid}
use Rattle.ctl_world.proofs.laws.what_is_known_first_is_sound.Goals as goal

pub returns : goal.returns
returns c = λ conf valid. record { valid = nothing_valid conf [] valid 0; hosts = refl; neighbours = refl }
