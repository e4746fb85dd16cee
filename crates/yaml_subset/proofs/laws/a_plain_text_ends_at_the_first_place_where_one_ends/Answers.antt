use Rattle.yaml_subset.proofs.PlainLaws.{plain_found, plain_read}
use Rattle.yaml_subset.proofs.laws.a_plain_text_ends_at_the_first_place_where_one_ends.Goals as goal

pub returns : goal.returns
returns c = record { found = plain_found; read = plain_read }
