use Rattle.std.proofs.Common.{◌≡◌, ℕ, drop}
use Rattle.std.specs.BTreeMap.{get}
use Rattle.std.specs.Ordering.{nat_cmp}
use Rattle.conf_names.specs.Ends.{end_numbered}
use Rattle.conf_names.proofs.ends.numbered_ends.Given as goal

-- those from here on are there
abbrev pub invariant-loop-i : goal.invariant-loop-i
invariant-loop-i l = (n : ℕ) → get nat_cmp l.ends n ≡ end_numbered (drop l.i l.ports) n
