use Rattle.law_documents.proofs.Back.{same_back, swapped}
use Rattle.law_documents.proofs.order.entries_may_change_places.Goals as goal

pub returns : goal.returns
returns c = record { side_by_side = λ before p q behind. swapped before p q behind; both_ways = λ t u same. same_back t u same }
