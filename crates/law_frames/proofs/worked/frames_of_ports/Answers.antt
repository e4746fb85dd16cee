use Rattle.std.proofs.Common.{refl}
use Rattle.of_wire.specs.Parts.{number}
use Rattle.of13_codec.specs.Messages.{port_bytes, port_stats_bytes, written}
use Rattle.law_frames.proofs.worked.frames_of_ports.Goals as goal

pub returns : goal.returns
unfolding number port_bytes port_stats_bytes written
returns c = record { status = refl; desc_request = refl; desc_reply = refl; stats_request = refl; stats_reply = refl }
