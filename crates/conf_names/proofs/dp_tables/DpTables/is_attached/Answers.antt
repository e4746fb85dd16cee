use Rattle.std.proofs.Common.{ap, ◌∙◌}
use Rattle.std.specs.BTreeSet.{contains_text}
use Rattle.conf_names.proofs.dp_tables.DpTables.is_attached.Goals as goal

pub returns : goal.returns
returns c = c.contains.ensures ∙ ap (contains_text c.args.self.now.acls) c.as_str.ensures ∙ c.args.self.now.attached c.args.name.now
