use Rattle.law_documents.proofs.PathLaw.{limits_law}
use Rattle.law_documents.proofs.paths.the_paths_of_limits_lead_to_parts.Goals as goal

pub returns : goal.returns
returns c = λ t none. limits_law t none
