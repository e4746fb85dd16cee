use Rattle.law_checks.proofs.Says.{document_says}
use Rattle.law_checks.proofs.ranges.a_raw_configuration_says_what_is_written.Goals as goal

pub returns : goal.returns
returns c = document_says
