use Rattle.law_keys.proofs.Fine.{document_fine}
use Rattle.law_keys.proofs.Told.{document_is}
use Rattle.law_keys.proofs.keys.a_document_has_no_fault_where_it_is_right_by_its_keys.Goals as goal

pub returns : goal.returns
returns c = λ t. ((λ none. document_is t none), λ right. document_fine t right)
