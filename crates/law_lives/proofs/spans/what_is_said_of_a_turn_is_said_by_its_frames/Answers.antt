use Rattle.ctl_world.specs.World.{first}
use Rattle.law_lives.proofs.Framed.{turns_framed}
use Rattle.law_lives.proofs.spans.what_is_said_of_a_turn_is_said_by_its_frames.Goals as goal

pub returns : goal.returns
returns c = λ conf story. turns_framed (first conf) story
