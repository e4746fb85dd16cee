-- What a controller knows that isn't spent.
use Rattle.std.proofs.Common.{◌≡◌, Bool, true, false, Some, refl, subst}
use Rattle.std.proofs.lemmas.Option.{same_Some}
use Rattle.ctl_world.specs.World.{IsSound, World}
use Rattle.ctl_core.specs.declared.known.Known.{Known}
use Rattle.ctl_core.specs.Known.{HasSettled}
use Rattle.ctl_core.specs.Story.{unless_spent}

pub kept_sound : (spent : Bool) (k : Known) (w : World) → (spent ≡ false → HasSettled k) → unless_spent spent k.world ≡ Some w → IsSound w
kept_sound true k w settled is = absurd cc
kept_sound false k w settled is = subst IsSound (same_Some k.world w is) (settled refl).sound
