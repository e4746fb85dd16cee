use Rattle.bgp_texts.proofs.Refusals.{fault_refuses, rule_refuses}
use Rattle.bgp_texts.proofs.text.is_none.Goals as goal

pub returns-in-Yaml : goal.returns-in-Yaml
returns-in-Yaml c = rw c.in-Yaml.is (λ text h. fault_refuses text _ h)

pub returns-in-Conf : goal.returns-in-Conf
returns-in-Conf c = rw c.in-Conf.is (λ text h. rule_refuses text _ h)
