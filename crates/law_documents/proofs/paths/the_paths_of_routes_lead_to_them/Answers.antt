use Rattle.law_documents.proofs.PathLaw.{routing_law}
use Rattle.law_documents.proofs.paths.the_paths_of_routes_lead_to_them.Goals as goal

pub returns : goal.returns
returns c = λ t none. routing_law t none
