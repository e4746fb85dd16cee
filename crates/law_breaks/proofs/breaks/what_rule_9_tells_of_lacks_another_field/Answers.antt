use Rattle.conf_shape.specs.Raw.{raw_of}
use Rattle.law_checks.proofs.Says.{document_says}
use Rattle.law_breaks.proofs.Ports.{rule9}
use Rattle.law_breaks.proofs.breaks.what_rule_9_tells_of_lacks_another_field.Goals as goal

pub returns : goal.returns
returns c = λ t none. rule9 t (raw_of t) (document_says t none)
