use Rattle.std.proofs.Common.{string_bytes, ◌∙◌}
use Rattle.conf_rules.proofs.SetNames.{text_set}
use Rattle.conf_rules.proofs.acl_names.add_acl.Goals as goal

pub returns : goal.returns
returns c = text_set (string_bytes c.in_ok-key.key) c.args.acl.now.name c.args.places.now c.insert.new.self _ (c.in_ok-key.ensures.ok ∙ c.as_str.ensures) c.in_ok-insert.ensures.updates
