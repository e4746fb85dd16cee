use Rattle.std.proofs.Common.{◌≡◌, drop}
use Rattle.host_list.specs.Order.{first_entry, is_other}
use Rattle.host_list.proofs.moving.first_other.Given as goal

abbrev pub invariant-loop-entry : goal.invariant-loop-entry
invariant-loop-entry l = first_entry (is_other l.conf l.heard l.place) (drop l.entry-index l.entries) ≡ first_entry (is_other l.conf l.heard l.place) l.entries
