-- The ports that get floods of a VLAN, as each of its entries needs them: which they are, and the copies
-- by their mirrors, is found once.
use Rattle.std.specs.Prelude.{ℕ, ◌==◌, ◌&&◌, ◌||◌, not, Bool, true, false, None, List, [], ◌∷◌, ◌++◌, map, filter, if◌then◌else◌}
use Rattle.std.specs.List.{flat_map}
use Rattle.of_match.specs.declared.action.Action.{Action}
use Rattle.of_match.specs.declared.entry.Entry.{Entry}
use Rattle.stack_paths.specs.Stack.{Stack}
use Rattle.conf_types.specs.declared.datapath.Dp.{Dp}
use Rattle.conf_types.specs.declared.datapath.Port.{Port}
use Rattle.conf_types.specs.declared.vlan.Vlan.{Vlan}
use Rattle.conf_types.specs.Membership.{is_native_in}
use Rattle.plan_base.specs.declared.table.Table.TheVariants as table
use Rattle.plan_base.specs.Entries.{leads_to, entry}
use Rattle.plan_base.specs.Sending.{mirrored}
use Rattle.vlan_compile.specs.declared.flood.Flood.{Flood}
use Rattle.vlan_compile.specs.declared.flood.Flood.TheVariants.{Group, Unicast}
use Rattle.vlan_compile.specs.declared.flood.Ingress.{Ingress}
use Rattle.vlan_compile.specs.declared.flood.Ingress.TheVariants.{Any, At}
use Rattle.vlan_compile.specs.declared.targets.Target.{Target}
use Rattle.vlan_compile.specs.declared.targets.Targets.{Targets}
use Rattle.vlan_compile.specs.Floods.{is_in, is_flooded, by_port, popped, flood_priority, from_fields, to_fields, is_apart, has_flooded}

abbrev pub target : Stack → Dp → Vlan → Port → Target
target stack d v q = record { port = q.no; hairpin = q.hairpin; gets_unicast = is_flooded stack d v Unicast q; copies = mirrored d q.no }

-- whose packets have a tag there, or have none
abbrev pub is_on_side : Bool → ℕ → Port → Bool
is_on_side native vid q = if native then is_native_in q vid else not (is_native_in q vid)

abbrev pub targets_on : Stack → Dp → Vlan → Bool → List Target
targets_on stack d v native = map (target stack d v) (filter (λ q. is_flooded stack d v Group q && is_on_side native v.vid q) d.ports)

abbrev pub targets : Stack → Dp → Vlan → Targets
targets stack d v = record { tagged = targets_on stack d v false; native = targets_on stack d v true }

abbrev pub is_reached : Flood → Ingress → Target → Bool
is_reached Group Any t = true
is_reached Group (At ingress) t = not (t.port == ingress) || t.hairpin
is_reached Unicast Any t = t.gets_unicast
is_reached Unicast (At ingress) t = t.gets_unicast && (not (t.port == ingress) || t.hairpin)

abbrev pub by_target : Flood → Ingress → Target → List Action
by_target flood from t = if is_reached flood from t then by_port from t.port ∷ t.copies else []

abbrev pub by_targets : Flood → Ingress → List Target → List Action
by_targets flood from ts = flat_map (by_target flood from) ts

abbrev pub target_actions : Vlan → Flood → Ingress → Targets → List Action
target_actions v flood from ts =
    if is_in flood v then by_targets flood from ts.tagged ++ popped (by_targets flood from ts.native) else []

abbrev pub target_entry : Vlan → Flood → Ingress → Targets → Entry
target_entry v flood from ts =
    entry table.Flood (flood_priority flood from) (from_fields from ++ to_fields flood v.vid) (leads_to (target_actions v flood from ts) None)

abbrev pub target_floods : Stack → Dp → Vlan → Flood → Targets → List Entry
target_floods stack d v flood ts =
    (if has_flooded stack d v then target_entry v flood Any ts ∷ [] else []) ++ map (λ i. target_entry v flood (At i.no) ts) (filter (is_apart d v) d.ports)
