use Rattle.law_keys.proofs.Exact.{fault_told}
use Rattle.law_keys.proofs.Told.{fault_is}
use Rattle.law_keys.proofs.keys.a_fault_is_told_where_its_cause_holds.Goals as goal

pub returns : goal.returns
returns c = λ t fault. ((λ is. fault_is t fault is), λ is. fault_told t fault is)
