use Rattle.law_texts.proofs.LineLaws.{lines_found, lines_cut}
use Rattle.law_texts.proofs.lines.line_feeds_end_lines.Goals as goal

pub returns : goal.returns
returns c = λ text found. (lines_found text found, lines_cut text found)
