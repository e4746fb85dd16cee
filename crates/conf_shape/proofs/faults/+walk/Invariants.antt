use Rattle.std.proofs.Common.{◌≡◌, drop, take, map, []}
use Rattle.conf_shape.specs.Sections.{map_keys}
use Rattle.conf_shape.specs.Seen.{IsSeen}
use Rattle.conf_shape.specs.Faults.{first, item_faults, map_faults, faults_of, entries_of}
use Rattle.conf_shape.proofs.faults.+walk.Given as goal

-- no item so far has a fault
abbrev pub invariant-items_fault-loop-i : goal.invariant-items_fault-loop-i
invariant-items_fault-loop-i l = first (item_faults l.kind l.i (map faults_of (drop l.i l.items))) ≡ first (item_faults l.kind 0 (map faults_of l.items))

-- no entry so far has a fault, and of a map of names those so far are seen
abbrev pub invariant-entries_fault-loop-i : goal.invariant-entries_fault-loop-i
invariant-entries_fault-loop-i l =
    (first (map_faults l.map (map_keys (take l.i l.pairs)) (entries_of (drop l.i l.pairs))) ≡ first (map_faults l.map (map_keys []) (entries_of l.pairs)))
    × IsSeen l.map l.seen (map_keys (take l.i l.pairs))
