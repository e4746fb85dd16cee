use Rattle.plan_base.proofs.Families.{is_prefix_field}
use Rattle.plan_base.proofs.laws.fields_are_accepted.Goals as goal

pub returns-clause-prefixes : goal.returns-clause-prefixes
returns-clause-prefixes c = λ f is ip len fits. is_prefix_field f is ip len fits
