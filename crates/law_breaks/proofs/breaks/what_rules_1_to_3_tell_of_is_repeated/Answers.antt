use Rattle.conf_shape.specs.Raw.{raw_of}
use Rattle.law_checks.proofs.Says.{document_says}
use Rattle.law_breaks.proofs.Names.{rule1, rule2, rule3}
use Rattle.law_breaks.proofs.breaks.what_rules_1_to_3_tell_of_is_repeated.Goals as goal

pub returns-clause-vlans : goal.returns-clause-vlans
returns-clause-vlans c = λ t none. rule1 t (raw_of t) (document_says t none)

pub returns-clause-datapaths : goal.returns-clause-datapaths
returns-clause-datapaths c = λ t none. rule2 t (raw_of t) (document_says t none)

pub returns-clause-interfaces : goal.returns-clause-interfaces
returns-clause-interfaces c = λ t none. rule3 t (raw_of t) (document_says t none)
