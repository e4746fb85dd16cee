use Rattle.law_documents.proofs.PathLaw.{refusal_leads}
use Rattle.law_documents.proofs.paths.the_path_of_a_refusal_leads_into_the_document.Goals as goal

pub returns : goal.returns
returns c = λ t fault refused. refusal_leads t fault refused
