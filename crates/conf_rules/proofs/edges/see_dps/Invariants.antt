use Rattle.std.proofs.Common.{◌≡◌, ◌<◌, ℕ, false, slice_index_or, take}
use Rattle.std.specs.List.{list_any}
use Rattle.conf_types.specs.Membership.{has_edge_member}
use Rattle.conf_rules.proofs.edges.see_dps.Given as goal

-- the VLANs of those so far are seen
abbrev pub invariant-loop-dp : goal.invariant-loop-dp
invariant-loop-dp l = (n : ℕ) → n < 4096 → slice_index_or l.seen n false ≡ list_any (λ d. has_edge_member d n) (take l.dp-index l.dps)
