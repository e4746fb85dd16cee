use Rattle.law_texts.proofs.OpenLaws.{open_found, open_read, one_open}
use Rattle.law_texts.proofs.texts.what_lines_leave_open_closes_to_their_tree.Goals as goal

pub returns : goal.returns
returns c = record { tree = λ before t. (open_found before t, open_read before t); one = one_open }
