-- The entries of routing, and those that stand once.
use Rattle.std.specs.Prelude.{List, [], ◌∷◌, Some, None}
use Rattle.std.specs.List.{AllByRecursion}
use Rattle.conf_types.specs.declared.datapath.Dp.{Dp}
use Rattle.conf_types.specs.declared.state.NeighRec.{NeighRec}
use Rattle.conf_types.specs.declared.vlan.Vlan.{Vlan}
use Rattle.conf_types.specs.Configuration.{Configuration}
use Rattle.packet_way.specs.declared.routes.Target.{Target}
use Rattle.packet_way.specs.declared.routes.Target.TheVariants.{Gateway, Hop, Network}
use Rattle.plan_base.specs.declared.table.Table.TheVariants as table
use Rattle.plan_base.specs.Actions.{to_controller, set_eth_src, set_eth_dst, set_vid, dec_ttl}
use Rattle.route_compile.specs.Routes.{fib, led_to}
use Rattle.route_compile.specs.Vips.{only_to_controller, vip_slice}
use Rattle.plan_units.specs.Fixed.{drops, from_group, passes}
use Rattle.plan_units.specs.Parts.{drops_by, fib_by, vips_by}
use Rattle.law_entries.specs.Whole.{DoesWhole, SendsWhole}
use Rattle.law_entries.proofs.WholeParts.{to_controller_whole, led}

-- ---- tables 4 and 5

led_to_whole : (to : Target) → AllByRecursion DoesWhole (led_to to)
led_to_whole Gateway = led [] (Some table.Vip) tt
led_to_whole (Hop vid gateway mac) = led (set_eth_src gateway ∷ set_eth_dst mac ∷ set_vid vid ∷ dec_ttl ∷ []) (Some table.Destination) (tt, (tt, (tt, (tt, tt))))
led_to_whole Network = led (to_controller ∷ []) None (to_controller_whole, tt)

pub fib_whole : (conf : Configuration) (neighbours : List NeighRec) (d : Dp) (v : Vlan) → AllByRecursion SendsWhole (fib conf neighbours d v)
fib_whole conf neighbours d v = fib_by SendsWhole conf neighbours d v (λ f is item c own. led_to_whole item.to) (λ f is. tt)

-- ---- table 6

only_whole : AllByRecursion DoesWhole only_to_controller
only_whole = led (to_controller ∷ []) None (to_controller_whole, tt)

pub vips_whole : (d : Dp) (v : Vlan) → AllByRecursion SendsWhole (vip_slice d v)
vips_whole d v = vips_by SendsWhole d v (λ vip. only_whole) only_whole only_whole only_whole only_whole tt

-- ---- what stands once

pub drops_whole : (conf : Configuration) (d : Dp) → AllByRecursion SendsWhole (drops conf d)
drops_whole conf d = drops_by SendsWhole conf d tt tt tt tt (λ mac c. tt)

pub groups_whole : AllByRecursion SendsWhole (from_group ∷ passes)
groups_whole = ((tt, tt), ((tt, tt), ((tt, tt), ((tt, tt), ((tt, tt), tt)))))
