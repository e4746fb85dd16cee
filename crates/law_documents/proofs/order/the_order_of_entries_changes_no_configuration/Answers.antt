use Rattle.law_documents.proofs.OrderLaw.{law}
use Rattle.law_documents.proofs.order.the_order_of_entries_changes_no_configuration.Goals as goal

pub returns : goal.returns
returns c = λ t u conf same. law c.an_accepted_configuration_is_valid.ensures t u conf same
