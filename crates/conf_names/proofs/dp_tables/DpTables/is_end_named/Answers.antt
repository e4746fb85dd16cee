use Rattle.std.proofs.Common.{ap, ◌∙◌}
use Rattle.std.specs.BTreeMap.{get_by_text}
use Rattle.conf_names.proofs.dp_tables.DpTables.is_end_named.Goals as goal

pub returns : goal.returns
returns c = c.copied.ensures ∙ c.get.ensures.value ∙ ap (get_by_text c.args.self.now.names) c.as_str.ensures ∙ c.args.self.now.named c.args.name.now
