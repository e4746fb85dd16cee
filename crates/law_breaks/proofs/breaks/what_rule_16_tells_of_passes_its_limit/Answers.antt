use Rattle.conf_shape.specs.Raw.{raw_of}
use Rattle.law_checks.proofs.Says.{document_says}
use Rattle.law_breaks.proofs.Limits.{rule16}
use Rattle.law_breaks.proofs.breaks.what_rule_16_tells_of_passes_its_limit.Goals as goal

pub returns : goal.returns
returns c = λ t none. rule16 t (raw_of t) (document_says t none)
