-- Table 8, by VLAN: a packet whose destination isn't known, or is a group.
use Rattle.std.specs.Prelude.{ℕ, ◌==◌, ◌&&◌, ◌||◌, not, Bool, true, None, List, [], ◌∷◌, ◌++◌, map, filter, if◌then◌else◌}
use Rattle.std.specs.List.{list_any, flat_map}
use Rattle.net_base.specs.declared.field.Field.{Field}
use Rattle.of_match.specs.declared.action.Action.{Action}
use Rattle.of_match.specs.declared.entry.Entry.{Entry}
use Rattle.stack_paths.specs.Chosen.{is_tree_port}
use Rattle.stack_paths.specs.Stack.{Stack}
use Rattle.conf_types.specs.declared.datapath.Dp.{Dp}
use Rattle.conf_types.specs.declared.datapath.Port.{Port}
use Rattle.conf_types.specs.declared.vlan.Vlan.{Vlan}
use Rattle.conf_types.specs.Membership.{is_accepting, is_native_in, is_edge_member, has_edge_member, is_mirrored}
use Rattle.plan_base.specs.declared.table.Table.TheVariants as table
use Rattle.plan_base.specs.Fields.{in_port, group_dst, vid_field}
use Rattle.plan_base.specs.Actions.{out, to_ingress, pop_tag}
use Rattle.plan_base.specs.Entries.{leads_to, entry}
use Rattle.plan_base.specs.Sending.{copied}
use Rattle.vlan_compile.specs.declared.flood.Flood.{Flood}
use Rattle.vlan_compile.specs.declared.flood.Flood.TheVariants.{Group, Unicast}
use Rattle.vlan_compile.specs.declared.flood.Ingress.{Ingress}
use Rattle.vlan_compile.specs.declared.flood.Ingress.TheVariants.{Any, At}

-- ---- which ports

-- to a single address nothing is flooded in a VLAN without `unicast_flood`
abbrev pub is_in : Flood → Vlan → Bool
is_in Group v = true
is_in Unicast v = v.unicast_flood

-- nor to an edge port without it
abbrev pub is_for : Flood → Port → Bool
is_for Group q = true
is_for Unicast q = q.unicast_flood

-- an interface gets the VLAN's floods: an edge port of it, and a port of the stack's tree
abbrev pub is_flooded : Stack → Dp → Vlan → Flood → Port → Bool
is_flooded stack d v flood q = (is_edge_member q v.vid && is_for flood q) || is_tree_port stack d.id q.no

-- the port that the packet came in by, where one is named, only with `hairpin`
abbrev pub may_get : Ingress → Port → Bool
may_get Any q = true
may_get (At ingress) q = not (q.no == ingress) || q.hairpin

abbrev pub flooded : Stack → Dp → Vlan → Flood → Ingress → List Port
flooded stack d v flood from = filter (λ q. is_flooded stack d v flood q && may_get from q) d.ports

-- ---- what is done

-- back by the port that the packet came in by (OpenFlow 1.3, 7.2.1, OFPP_IN_PORT), by any other by its
-- number
abbrev pub by_port : Ingress → ℕ → Action
by_port Any number = out number
by_port (At ingress) number = if number == ingress then to_ingress else out number

-- by each of these ports, and what it sends by those that mirror it
abbrev pub by_each : Dp → Ingress → List Port → List Action
by_each d from ports = flat_map (λ q. copied d q.no (by_port from q.no)) ports

-- the same without the tag, where anything is sent
abbrev pub popped : List Action → List Action
popped [] = []
popped (a ∷ more) = pop_tag ∷ a ∷ more

-- with the tag first, and then without it where the VLAN is native
abbrev pub flood_actions : Stack → Dp → Vlan → Flood → Ingress → List Action
flood_actions stack d v flood from =
    let ports = flooded stack d v flood from in
    if is_in flood v then by_each d from (filter (λ q. not (is_native_in q v.vid)) ports) ++ popped (by_each d from (filter (λ q. is_native_in q v.vid) ports))
    else []

-- ---- entries

abbrev pub flood_priority : Flood → Ingress → ℕ
flood_priority Group (At ingress) = 40
flood_priority Group Any = 30
flood_priority Unicast (At ingress) = 20
flood_priority Unicast Any = 10

-- the port that the packet came in by, where one is named; a group as the destination; the VLAN's tag
abbrev pub from_fields : Ingress → List Field
from_fields Any = []
from_fields (At ingress) = in_port ingress ∷ []

abbrev pub to_fields : Flood → ℕ → List Field
to_fields Group vid = group_dst ∷ vid_field vid ∷ []
to_fields Unicast vid = vid_field vid ∷ []

abbrev pub flood_entry : Stack → Dp → Vlan → Flood → Ingress → Entry
flood_entry stack d v flood from =
    entry table.Flood (flood_priority flood from) (from_fields from ++ to_fields flood v.vid) (leads_to (flood_actions stack d v flood from) None)

-- a switch sends nothing back by the port that the packet came in by, unless it is told so. So an edge port
-- that takes packets in has entries of its own where its `hairpin` asks for that, or where a mirror of it
-- would get a copy of what it doesn't send.
abbrev pub is_apart : Dp → Vlan → Port → Bool
is_apart d v i = is_accepting i && is_edge_member i v.vid && (i.hairpin || is_mirrored d i.no)

-- the datapath has a port that gets floods of the VLAN
abbrev pub has_flooded : Stack → Dp → Vlan → Bool
has_flooded stack d v = has_edge_member d v.vid || list_any (λ q. is_tree_port stack d.id q.no) d.ports

-- from any port, and from each that is apart
abbrev pub floods_to : Stack → Dp → Vlan → Flood → List Entry
floods_to stack d v flood =
    (if has_flooded stack d v then flood_entry stack d v flood Any ∷ [] else []) ++ map (λ i. flood_entry stack d v flood (At i.no)) (filter (is_apart d v) d.ports)

abbrev pub floods : Dp → Vlan → Stack → List Entry
floods d v stack = floods_to stack d v Unicast ++ floods_to stack d v Group
