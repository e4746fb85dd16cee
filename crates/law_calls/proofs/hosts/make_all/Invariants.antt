use Rattle.std.proofs.Common.{take}
use Rattle.law_calls.specs.Hosts.{IsMade}
use Rattle.law_calls.specs.Runs.{Run}
use Rattle.law_calls.proofs.hosts.make_all.Given as goal

abbrev pub invariant-loop-call : goal.invariant-loop-call
invariant-loop-call l = Run IsMade l.initial.table (take l.call-index l.calls) l.table
