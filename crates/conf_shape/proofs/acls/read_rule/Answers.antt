use Rattle.std.proofs.Common.{ap, ◌∙◌}
use Rattle.conf_shape.specs.Keys.{Keys, match_keys_of}
use Rattle.conf_shape.specs.Values.{fields_by}
use Rattle.conf_shape.proofs.acls.read_rule.Goals as goal

pub returns : goal.returns
returns c = λ i. record {
  fields = (c.in_ok-fields_of.ensures ∙ ap (λ (keys : Keys). fields_by keys.spellings (match_keys_of keys.rows) c.args.pairs.now) c.table_of-table.ensures) i;
  allow = c.permission_at.ensures i;
  mirror = c.in_ok-option_at.ensures i;
  output = c.in_ok-one_or_list_at.ensures i;
}
