use Rattle.std.proofs.Common.{◌≡◌, ◌++◌, take, drop}
use Rattle.host_list.specs.Addresses.{heard_at}
use Rattle.host_list.proofs.addresses.hear_each.Given as goal

abbrev pub invariant-loop-entry : goal.invariant-loop-entry
invariant-loop-entry l = l.list ≡ heard_at l.place l.moment (take l.entry-index l.initial.list) ++ drop l.entry-index l.initial.list
