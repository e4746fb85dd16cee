use Rattle.std.proofs.Common.{refl}
use Rattle.of_wire.specs.Parts.{number}
use Rattle.of13_codec.specs.Messages.{port_bytes, port_stats_bytes, written}
use Rattle.law_frames.proofs.worked.frame_of_a_change.Goals as goal

pub returns : goal.returns
unfolding number port_bytes port_stats_bytes written
returns c = refl
