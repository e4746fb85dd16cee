use Rattle.law_texts.proofs.PartLaws.{end_found, end_read}
use Rattle.law_texts.proofs.lines.a_line_ends_behind_spaces_and_a_comment.Goals as goal

pub returns : goal.returns
returns c = λ rest. (end_found rest, end_read rest)
