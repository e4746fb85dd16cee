use Rattle.std.proofs.Common.{◌≡◌, ℕ, List, drop}
use Rattle.std.specs.BTreeMap.{get_by_text}
use Rattle.conf_names.specs.Ends.{end_named}
use Rattle.conf_names.proofs.ends.named_ends.Given as goal

-- those from here on are there
abbrev pub invariant-loop-i : goal.invariant-loop-i
invariant-loop-i l = (t : List ℕ) → get_by_text l.ends t ≡ end_named (drop l.i l.ports) t
