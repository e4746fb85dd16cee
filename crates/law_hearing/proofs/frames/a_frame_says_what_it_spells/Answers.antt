use Rattle.law_hearing.proofs.SaidFrames.{said, nothing_said}
use Rattle.law_hearing.proofs.frames.a_frame_says_what_it_spells.Goals as goal

pub returns : goal.returns
returns c = let spelled = c.a_frame_is_decoded_as_it_is_spelled.ensures.message in record {
  message = λ frame bytes. said frame (spelled frame bytes);
  nothing = λ frame bytes. nothing_said frame (spelled frame bytes);
}
