use Rattle.yaml_subset.proofs.QuoteLaws.{single_found, single_read}
use Rattle.yaml_subset.proofs.laws.a_single_quoted_text_is_spelled_with_its_quotes_doubled.Goals as goal

pub returns : goal.returns
returns c = record { found = single_found; read = single_read }
