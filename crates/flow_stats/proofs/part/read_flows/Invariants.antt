use Rattle.std.proofs.Common.{ℕ, length, drop}
use Rattle.flow_stats.proofs.Reading.{OnWay}
use Rattle.flow_stats.proofs.part.read_flows.Given as goal

abbrev pub invariant-loop-rest : goal.invariant-loop-rest
invariant-loop-rest l = (here : ℕ) × OnWay (drop 8 l.body) l.flows here l.rest

abbrev pub decreases-loop-rest : goal.decreases-loop-rest
decreases-loop-rest l = length l.rest
