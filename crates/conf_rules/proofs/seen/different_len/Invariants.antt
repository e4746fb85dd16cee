use Rattle.std.proofs.Common.{◌≡◌, drop}
use Rattle.std.specs.BTreeSet.{btree_set_len}
use Rattle.conf_types.specs.Lists.{different}
use Rattle.conf_rules.specs.Seen.{HasNumbers}
use Rattle.conf_rules.proofs.seen.different_len.Given as goal

-- those from here on are seen
abbrev pub invariant-loop-i : goal.invariant-loop-i
invariant-loop-i l = HasNumbers l.seen (λ n. n) (drop l.i l.numbers) × (btree_set_len l.seen ≡ different (drop l.i l.numbers))
