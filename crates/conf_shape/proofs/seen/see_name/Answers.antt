use Rattle.std.proofs.Common.{◌∙◌}
use Rattle.std.specs.String.{string_bytes}
use Rattle.conf_shape.proofs.SeenNames.{text_more}
use Rattle.conf_shape.proofs.seen.see_name.Goals as goal

pub returns-clause-is : goal.returns-clause-is
returns-clause-is c =
    text_more (string_bytes c.in_ok-from_str.field-0) c.args.name.now _ _ (c.in_ok-from_str.ensures.ok ∙ c.as_str-2.ensures) c.in_ok-insert.ensures.updates
