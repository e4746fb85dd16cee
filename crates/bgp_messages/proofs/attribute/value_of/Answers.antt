use Rattle.std.proofs.Common.{ap, ◌∙◌}
use Rattle.bgp_messages.specs.Attributes.{value_or_none}
use Rattle.bgp_messages.proofs.attribute.value_of.Goals as goal

pub returns-in-Some : goal.returns-in-Some
returns-in-Some c = c.as_slice.ensures ∙ ap value_or_none c.in-Some.ensures

pub returns-in-None : goal.returns-in-None
returns-in-None c = ap value_or_none c.in-None.ensures
