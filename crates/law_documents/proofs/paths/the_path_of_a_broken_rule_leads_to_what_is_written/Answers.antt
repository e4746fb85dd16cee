use Rattle.law_documents.proofs.PathLaw.{law}
use Rattle.law_documents.proofs.paths.the_path_of_a_broken_rule_leads_to_what_is_written.Goals as goal

pub returns : goal.returns
returns c = λ t fault none broken. law t fault none broken
