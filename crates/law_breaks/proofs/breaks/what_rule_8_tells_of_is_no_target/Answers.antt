use Rattle.conf_shape.specs.Raw.{raw_of}
use Rattle.law_checks.proofs.Says.{document_says}
use Rattle.law_breaks.proofs.Ports.{rule8}
use Rattle.law_breaks.proofs.breaks.what_rule_8_tells_of_is_no_target.Goals as goal

pub returns : goal.returns
returns c = λ t none. rule8 t (raw_of t) (document_says t none)
