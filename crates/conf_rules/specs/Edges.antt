-- Tables of the VLANs of which datapaths have edge ports.
use Rattle.std.specs.Prelude.{◌≡◌, ℕ, ◌<◌, Bool, false, List, slice_index_or}
use Rattle.std.specs.List.{list_any}
use Rattle.conf_types.specs.declared.datapath.Dp.{Dp}
use Rattle.conf_types.specs.Membership.{has_edge_member}

-- the table has the VLANs of which the datapath has an edge port, and no others
abbrev pub HasEdgesOf : List Bool → Dp → Type 0
HasEdgesOf seen d = (n : ℕ) → n < 4096 → slice_index_or seen n false ≡ has_edge_member d n

-- the table has those of which some datapath has one, and no others
abbrev pub HasEdgesOfAny : List Bool → List Dp → Type 0
HasEdgesOfAny seen ds = (n : ℕ) → n < 4096 → slice_index_or seen n false ≡ list_any (λ d. has_edge_member d n) ds
