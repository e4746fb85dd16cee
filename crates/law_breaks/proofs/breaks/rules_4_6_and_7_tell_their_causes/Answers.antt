use Rattle.law_breaks.proofs.Causes.{rule4, rule6, rule7}
use Rattle.law_breaks.proofs.breaks.rules_4_6_and_7_tell_their_causes.Goals as goal

pub returns : goal.returns
returns c = record { vlans = rule4; acls = rule6; both = rule7 }
