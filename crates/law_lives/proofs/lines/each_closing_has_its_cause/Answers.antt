use Rattle.std.proofs.Common.{[], refl}
use Rattle.ctl_world.specs.World.{first}
use Rattle.law_lives.proofs.Caused.{frame_caused}
use Rattle.law_lives.proofs.Ears.{have_causes, no_ears}
use Rattle.law_lives.proofs.lines.each_closing_has_its_cause.Goals as goal

pub returns : goal.returns
returns c = record {
  turns = λ conf story. have_causes [] (first conf) story (no_ears (first conf) refl refl);
  frames = λ heard number w at. frame_caused heard number w at;
}
