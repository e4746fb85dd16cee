use Rattle.std.proofs.Common.{refl}
use Rattle.of_wire.specs.Parts.{number}
use Rattle.of13_codec.specs.Messages.{port_bytes, port_stats_bytes, written}
use Rattle.law_frames.proofs.worked.frames_of_connections.Goals as goal

pub returns : goal.returns
unfolding number port_bytes port_stats_bytes written
returns c = record { hello = refl; error = refl; echo_request = refl; echo_reply = refl; features_request = refl; features = refl; barrier_request = refl; barrier_reply = refl }
