use Rattle.conf_shape.specs.Raw.{raw_of}
use Rattle.law_checks.proofs.Says.{document_says}
use Rattle.law_breaks.proofs.Names.{rule5}
use Rattle.law_breaks.proofs.breaks.what_rule_5_tells_of_is_named_before.Goals as goal

pub returns : goal.returns
returns c = λ t none. rule5 t (raw_of t) (document_says t none)
