use Rattle.conf_shape.specs.Raw.{raw_of}
use Rattle.law_checks.proofs.Says.{document_says}
use Rattle.law_breaks.proofs.Routing.{rule13}
use Rattle.law_breaks.proofs.breaks.what_rule_13_tells_of_is_routed_twice.Goals as goal

pub returns : goal.returns
returns c = λ t none. rule13 t (raw_of t) (document_says t none)
