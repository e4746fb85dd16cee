use Rattle.law_documents.proofs.OrderLaw.{text_law}
use Rattle.law_documents.proofs.order.texts_with_entries_in_another_order_give_the_same_configuration.Goals as goal

pub returns : goal.returns
returns c = λ text other t u conf read also same. text_law c.the_order_of_entries_changes_no_configuration.ensures c.a_text_has_at_most_one_tree.ensures text other t u conf read also same
