use Rattle.std.proofs.Common.{take}
use Rattle.conf_resolve.specs.Indexed.{LeadToFirst}
use Rattle.conf_resolve.proofs.named_dps.first_dps.Given as goal

-- the names so far
abbrev pub invariant-loop-dp : goal.invariant-loop-dp
invariant-loop-dp l = LeadToFirst (λ d. d.names.name) (λ d. d) (take l.dp-index l.dps) l.names
