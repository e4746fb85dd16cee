use Rattle.law_runs.specs.Decided.{decided}
use Rattle.law_runs.proofs.laws.an_entry_decides_where_none_above_it_does_otherwise.Goals as goal

pub returns : goal.returns
returns c = λ tables port t p sent on d. decided t port p tables sent on d
