use Rattle.yaml_subset.proofs.DoubleQuotes.{double_found, double_read}
use Rattle.yaml_subset.proofs.laws.a_double_quoted_text_is_spelled_by_its_escapes.Goals as goal

pub returns : goal.returns
returns c = record { found = double_found; read = double_read }
