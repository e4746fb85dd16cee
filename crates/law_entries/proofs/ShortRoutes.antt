-- The entries of routing, and those that stand once, are short.
use Rattle.std.specs.Prelude.{ℕ, ◌≤◌, List, [], ◌∷◌, ◌++◌, length, Option, Some, None}
use Rattle.std.specs.List.{AllByRecursion, cons_option}
use Rattle.std.proofs.Common.{arith}
use Rattle.net_base.specs.declared.field.Field.{Field}
use Rattle.conf_types.specs.declared.address.Ip.{Ip}
use Rattle.conf_types.specs.declared.address.Ip.TheVariants.{V4, V6}
use Rattle.conf_types.specs.declared.datapath.Dp.{Dp}
use Rattle.conf_types.specs.declared.family.Family.{Family}
use Rattle.conf_types.specs.declared.state.NeighRec.{NeighRec}
use Rattle.conf_types.specs.declared.vlan.Vlan.{Vlan}
use Rattle.conf_types.specs.Configuration.{Configuration}
use Rattle.conf_types.specs.Families.{ip_value, address_of}
use Rattle.packet_way.specs.declared.routes.RouteItem.{RouteItem}
use Rattle.packet_way.specs.declared.routes.Target.{Target}
use Rattle.packet_way.specs.declared.routes.Target.TheVariants.{Gateway, Hop, Network}
use Rattle.plan_base.specs.declared.table.Table.TheVariants as table
use Rattle.plan_base.specs.Actions.{to_controller, set_eth_src, set_eth_dst, set_vid, dec_ttl}
use Rattle.plan_base.specs.Entries.{leads_to}
use Rattle.plan_base.specs.Fields.{eth_src, eth_dst, vid_field, ip_dst, group_src}
use Rattle.route_compile.specs.Routes.{fib, item_entry, packets_for, led_to, route_table}
use Rattle.route_compile.specs.Vips.{vip_slice, asking_for, asked_entry, echo_entry, echo6_entry, advert_entry, heard_entry}
use Rattle.plan_units.specs.Fixed.{drops, drop, from_group, passes}
use Rattle.plan_units.specs.Parts.{drops_by, fib_by, vips_by}
use Rattle.law_entries.specs.Short.{count_actions, IsShort}
use Rattle.law_entries.proofs.ShortParts.{low, short, ends, led}

-- ---- tables 4 and 5

item_few : (f : Family) (v : Vlan) (o : Option Field) → length (packets_for f v ++ cons_option o []) ≤ 64
item_few f v None = omega arith
item_few f v (Some x) = omega arith

led_few : (to : Target) → count_actions (led_to to) ≤ 2000
led_few Gateway = led [] (Some table.Vip) (omega arith)
led_few (Hop vid gateway mac) = led (set_eth_src gateway ∷ set_eth_dst mac ∷ set_vid vid ∷ dec_ttl ∷ []) (Some table.Destination) (omega arith)
led_few Network = led (to_controller ∷ []) None (omega arith)

item_short : (f : Family) (v : Vlan) (item : RouteItem) → IsShort (item_entry f v item)
item_short f v item = record { table = low (route_table f); fields = item_few f v (ip_dst f (ip_value item.ip) item.len); actions = led_few item.to }

pub fib_short : (conf : Configuration) (neighbours : List NeighRec) (d : Dp) (v : Vlan) → AllByRecursion IsShort (fib conf neighbours d v)
fib_short conf neighbours d v = fib_by IsShort conf neighbours d v (λ f is item c own. item_short f v item) (λ f is. ends (route_table f) 9 (packets_for f v) (omega arith))

-- ---- table 6

to_controller_short : (priority : ℕ) (fields : List Field) → length fields ≤ 64 → IsShort (record { key = record { table = 6; priority = priority; fields = fields }; instrs = (leads_to (to_controller ∷ []) None) })
to_controller_short priority fields few = short table.Vip priority fields (to_controller ∷ []) None few (omega arith)

asking_few : (vid : ℕ) (a : Ip) → length (asking_for vid a) ≤ 64
asking_few vid (V4 a) = omega arith
asking_few vid (V6 a) = omega arith

pub vips_short : (d : Dp) (v : Vlan) → AllByRecursion IsShort (vip_slice d v)
vips_short d v =
    vips_by IsShort d v (λ vip. to_controller_short 30 (asked_entry v vip).key.fields (asking_few v.vid (address_of vip))) (to_controller_short 30 (echo_entry v).key.fields (omega arith))
    (to_controller_short 30 (echo6_entry v).key.fields (omega arith)) (to_controller_short 20 (advert_entry v).key.fields (omega arith)) (to_controller_short 20 (heard_entry v).key.fields (omega arith)) (ends table.Vip 10 (eth_dst v.mac ∷ vid_field v.vid ∷ []) (omega arith))

-- ---- what stands once

drop_short : (priority : ℕ) (f : Field) → IsShort (drop priority f)
drop_short priority f = ends table.Admission priority (f ∷ []) (omega arith)

pub drops_short : (conf : Configuration) (d : Dp) → AllByRecursion IsShort (drops conf d)
drops_short conf d = drops_by IsShort conf d (drop_short 33 _) (drop_short 33 _) (drop_short 32 _) (drop_short 31 _) (λ mac c. drop_short 30 (eth_src mac))

pub groups_short : AllByRecursion IsShort (from_group ∷ passes)
groups_short = (
  short table.Source 40 (group_src ∷ []) [] (Some table.Ipv4Route) (omega arith) (omega arith),
  (
    short table.Ipv4Route 0 [] [] (Some table.Ipv6Route) (omega arith) (omega arith),
    (
      short table.Ipv6Route 0 [] [] (Some table.Vip) (omega arith) (omega arith),
      (
        short table.Vip 0 [] [] (Some table.Destination) (omega arith) (omega arith),
        (short table.Destination 0 [] [] (Some table.Flood) (omega arith) (omega arith), tt),
      ),
    ),
  ),
)
