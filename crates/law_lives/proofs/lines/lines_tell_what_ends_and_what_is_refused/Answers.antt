use Rattle.std.proofs.Common.{[], refl}
use Rattle.ctl_world.specs.World.{first}
use Rattle.law_lives.proofs.Lined.{have_lines}
use Rattle.law_lives.proofs.lines.lines_tell_what_ends_and_what_is_refused.Goals as goal

pub returns : goal.returns
returns c = λ conf story. have_lines [] (first conf) story (λ n. refl)
