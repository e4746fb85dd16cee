use Rattle.law_documents.proofs.Shape.{shape_leads}
use Rattle.law_documents.proofs.paths.the_path_of_a_fault_of_the_shape_leads_to_what_is_written.Goals as goal

pub returns : goal.returns
returns c = λ t fault wrong. shape_leads t fault wrong
