use Rattle.of13_codec.proofs.DecodeLaws.{decode_complete}
use Rattle.law_frames.proofs.Decoded.{spelled_of, told_of, refused_of}
use Rattle.law_frames.proofs.frames.a_frame_is_decoded_as_it_is_spelled.Goals as goal

pub returns : goal.returns
returns c = record {
  message = λ frame bytes m xid. (spelled_of frame bytes m xid, decode_complete m xid frame);
  refusal = λ frame bytes why. (told_of frame bytes why, refused_of frame bytes why);
}
