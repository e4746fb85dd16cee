use Rattle.law_documents.proofs.PathLaw.{names_law}
use Rattle.law_documents.proofs.paths.the_paths_of_names_lead_to_them.Goals as goal

pub returns : goal.returns
returns c = λ t none. names_law t none
