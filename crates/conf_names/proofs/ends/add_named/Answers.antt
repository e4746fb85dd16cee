use Rattle.std.proofs.Common.{Some, cond, string_bytes, ap, ◌∙◌}
use Rattle.std.specs.BTreeMap.{get_by_text}
use Rattle.conf_types.specs.Lists.{is_same}
use Rattle.conf_rules.proofs.SetNames.{text_set}
use Rattle.conf_names.proofs.ends.add_named.Goals as goal

pub returns : goal.returns
returns c = λ t.
    text_set (string_bytes c.in_ok-key.key) c.args.port.now.name c.args.ends.now c.insert.new.self _ (c.in_ok-key.ensures.ok ∙ c.as_str.ensures) c.in_ok-insert.ensures.updates t
    ∙ ap (λ b. cond (is_same c.args.port.now.name t) (Some b) (get_by_text c.args.ends.now t)) c.is_some.ensures
