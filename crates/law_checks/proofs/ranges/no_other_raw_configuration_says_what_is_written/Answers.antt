use Rattle.law_checks.proofs.AloneParts.{document_alone}
use Rattle.law_checks.proofs.ranges.no_other_raw_configuration_says_what_is_written.Goals as goal

pub returns : goal.returns
returns c = document_alone
