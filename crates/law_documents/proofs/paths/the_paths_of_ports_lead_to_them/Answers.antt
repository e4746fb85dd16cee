use Rattle.law_documents.proofs.PathLaw.{ports_law}
use Rattle.law_documents.proofs.paths.the_paths_of_ports_lead_to_them.Goals as goal

pub returns : goal.returns
returns c = λ t none. ports_law t none
