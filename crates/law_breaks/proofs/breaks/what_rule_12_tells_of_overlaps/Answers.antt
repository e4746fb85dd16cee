use Rattle.conf_shape.specs.Raw.{raw_of}
use Rattle.law_checks.proofs.Says.{document_says}
use Rattle.law_breaks.proofs.Routing.{rule12}
use Rattle.law_breaks.proofs.breaks.what_rule_12_tells_of_overlaps.Goals as goal

pub returns : goal.returns
returns c = λ t none. rule12 t (raw_of t) (document_says t none)
