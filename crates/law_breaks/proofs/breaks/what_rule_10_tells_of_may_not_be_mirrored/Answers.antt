use Rattle.conf_shape.specs.Raw.{raw_of}
use Rattle.law_checks.proofs.Says.{document_says}
use Rattle.law_breaks.proofs.Ports.{rule10}
use Rattle.law_breaks.proofs.breaks.what_rule_10_tells_of_may_not_be_mirrored.Goals as goal

pub returns : goal.returns
returns c = λ t none. rule10 t (raw_of t) (document_says t none)
