use Rattle.law_trees.proofs.Nearer.{leads, goes_onward}
use Rattle.law_trees.proofs.laws.next_hops_lead_to_their_target.Goals as goal

pub returns-clause-leads : goal.returns-clause-leads
returns-clause-leads c = λ s is a b n far. leads s is b n a far

pub returns-clause-onward : goal.returns-clause-onward
returns-clause-onward c = λ s is a b e p q t there (f, u, on) same. goes_onward s is b a e p q t there f u on same
