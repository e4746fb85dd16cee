-- Where a packet goes whose destination isn't known, or is a group.
use Rattle.std.specs.Prelude.{ℕ, ◌==◌, ◌&&◌, ◌||◌, not, Bool, List, [], filter, if◌then◌else◌}
use Rattle.std.specs.List.{flat_map}
use Rattle.net_base.specs.Address.{is_group}
use Rattle.of_match.specs.declared.packet.Packet.{Packet}
use Rattle.of_match.specs.declared.packet.Sent.{Sent}
use Rattle.stack_paths.specs.Chosen.{is_tree_port}
use Rattle.stack_paths.specs.Stack.{Stack}
use Rattle.conf_types.specs.declared.datapath.Dp.{Dp}
use Rattle.conf_types.specs.declared.datapath.Port.{Port}
use Rattle.conf_types.specs.declared.vlan.Vlan.{Vlan}
use Rattle.conf_types.specs.Membership.{is_edge_member}
use Rattle.packet_way.specs.Leaving.{delivered}

-- an interface gets floods of the VLAN: an edge port of it, which for a single address has
-- `unicast_flood`, and a port of the stack's tree
abbrev pub is_flooded : Stack → Dp → Vlan → Packet → Port → Bool
is_flooded stack d v p q = (is_edge_member q v.vid && (is_group p.dst || q.unicast_flood)) || is_tree_port stack d.id q.no

-- but the one that the packet came in by only with `hairpin`
abbrev pub gets_flood : Stack → Dp → ℕ → Vlan → Packet → Port → Bool
gets_flood stack d port v p q = is_flooded stack d v p q && (not (q.no == port) || q.hairpin)

-- to a single address nothing is flooded in a VLAN without `unicast_flood`
unfoldable pub flooded : Stack → Dp → ℕ → Vlan → Packet → List Sent
flooded stack d port v p =
    if is_group p.dst || v.unicast_flood then flat_map (delivered d v.vid p) (filter (gets_flood stack d port v p) d.ports) else []
