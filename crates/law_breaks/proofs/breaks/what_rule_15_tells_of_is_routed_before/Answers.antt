use Rattle.conf_shape.specs.Raw.{raw_of}
use Rattle.law_checks.proofs.Says.{document_says}
use Rattle.law_breaks.proofs.Routing.{rule15}
use Rattle.law_breaks.proofs.breaks.what_rule_15_tells_of_is_routed_before.Goals as goal

pub returns : goal.returns
returns c = λ t none. rule15 t (raw_of t) (document_says t none)
