use Rattle.std.proofs.Common.{◌≡◌, ◌||◌, ◌<◌, ℕ, false, slice_index_or, take}
use Rattle.std.specs.List.{list_any}
use Rattle.conf_types.specs.Membership.{is_edge_member}
use Rattle.conf_rules.proofs.edges.see_ports.Given as goal

-- the VLANs of those so far are seen too
abbrev pub invariant-loop-port : goal.invariant-loop-port
invariant-loop-port l = (n : ℕ) → n < 4096 → slice_index_or l.seen n false ≡ (slice_index_or l.fn.seen n false || list_any (λ p. is_edge_member p n) (take l.port-index l.ports))
