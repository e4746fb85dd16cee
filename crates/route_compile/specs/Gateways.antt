-- VLANs that have a gateway on a datapath.
use Rattle.std.specs.Prelude.{ℕ, ◌==◌, ◌&&◌, not, Bool, length}
use Rattle.std.specs.List.{list_any}
use Rattle.conf_types.specs.declared.datapath.Dp.{Dp}
use Rattle.conf_types.specs.declared.datapath.Port.{Port}
use Rattle.conf_types.specs.declared.vlan.Vlan.{Vlan}
use Rattle.conf_types.specs.Membership.{is_accepting, is_edge_member}

-- an edge port of the VLAN that takes packets in
abbrev pub is_entrance : ℕ → Port → Bool
is_entrance vid q = is_accepting q && is_edge_member q vid

abbrev pub has_entrance : Dp → ℕ → Bool
has_entrance d vid = list_any (is_entrance vid) d.ports

-- the VLAN has a VIP, and packets of it come in by some port
abbrev pub has_gateway : Dp → Vlan → Bool
has_gateway d v = not (length v.vips == 0) && has_entrance d v.vid
