use Rattle.pkt_view.proofs.MadeFrames.{frame_is_read, tags_are_read, untagged_is_read}
use Rattle.pkt_view.proofs.laws.a_frame_is_read_as_its_parts_are_spelled.Goals as goal

pub returns : goal.returns
returns c = record { parts = frame_is_read; tags = tags_are_read; untagged = untagged_is_read }
