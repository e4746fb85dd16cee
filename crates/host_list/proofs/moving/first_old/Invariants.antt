use Rattle.std.proofs.Common.{◌≡◌, drop}
use Rattle.host_list.specs.Order.{first_entry, is_old}
use Rattle.host_list.proofs.moving.first_old.Given as goal

abbrev pub invariant-loop-entry : goal.invariant-loop-entry
invariant-loop-entry l = first_entry (is_old l.heard) (drop l.entry-index l.entries) ≡ first_entry (is_old l.heard) l.entries
