use Rattle.conf_shape.specs.Raw.{raw_of}
use Rattle.law_checks.proofs.Says.{document_says}
use Rattle.law_breaks.proofs.Ports.{rule11}
use Rattle.law_breaks.proofs.breaks.what_rule_11_tells_of_is_no_link.Goals as goal

pub returns : goal.returns
returns c = λ t none. rule11 t (raw_of t) (document_says t none)
