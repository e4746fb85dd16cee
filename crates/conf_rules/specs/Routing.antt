-- Rules 12 to 15: the networks of VLANs between which packets are routed.
use Rattle.std.specs.Prelude.{ℕ, ◌==◌, ◌&&◌, ◌||◌, Bool, not, if◌then◌else◌, List, [], ◌++◌, codes, nat_le}
use Rattle.std.specs.List.{flat_map, list_any, zip}
use Rattle.conf_types.specs.declared.address.Net.{Net}
use Rattle.conf_types.specs.declared.vlan.Route.{Route}
use Rattle.conf_types.specs.declared.vlan.Router.{Router}
use Rattle.conf_types.specs.declared.vlan.Vlan.{Vlan}
use Rattle.conf_types.specs.Configuration.{Configuration}
use Rattle.conf_types.specs.Families.{is_same_family, is_same_ip, address_of, len_of}
use Rattle.conf_types.specs.Lists.{is_among}
use Rattle.conf_types.specs.Networks.{is_held, is_link_local, is_neighbour_address}
use Rattle.conf_types.specs.Routing.{routing_set, vips_in}
use Rattle.conf_shape.specs.declared.raw.RawRouter.{RawRouter}
use Rattle.conf_shape.specs.declared.raw.VlanRef.{VlanRef}
use Rattle.conf_shape.specs.declared.refused.ConfCause.TheVariants.{Duplicate, Conflict}
use Rattle.conf_shape.specs.declared.refused.ConfFault.{ConfFault}
use Rattle.conf_resolve.specs.declared.ordered.OrderedConf.{OrderedConf}
use Rattle.conf_resolve.specs.declared.ordered.PlacedVlan.{PlacedVlan}
use Rattle.conf_resolve.specs.Resolved.{to_list, vid_of}
use Rattle.conf_rules.specs.Names.{routed_at}
use Rattle.conf_rules.specs.Places.{fault_if, under, each_at, vlans_of, with_earlier, is_repeat}

-- packets are routed between the two VLANs by these routers, or they are one
abbrev pub are_joined : List Router → ℕ → ℕ → Bool
are_joined routers v w = v == w || list_any (λ r. is_among r.vlans v && is_among r.vlans w) routers

abbrev pub are_routed : Configuration → ℕ → ℕ → Bool
are_routed conf v w = are_joined conf.routers v w

-- the VLANs, each with its place and with those before it
abbrev pub vlans_behind : OrderedConf → Configuration → List (PlacedVlan × (List Vlan × Vlan))
vlans_behind o conf = zip o.vlans (with_earlier [] conf.vlans)

-- ---- rule 12: VIP networks that packets are routed between don't overlap, but link-local ones of different
-- VLANs may

-- some address is of both
abbrev pub overlap : Net → Net → Bool
overlap a b = if nat_le (len_of a) (len_of b) then is_held a (address_of b) else is_held b (address_of a)

-- of networks of different VLANs
abbrev pub clash : Net → Net → Bool
clash a b = overlap a b && not (is_link_local a && is_link_local b)

-- a VIP of an earlier VLAN that packets are routed to clashes, or an earlier one of the VLAN itself overlaps
abbrev pub overlaps_earlier : Configuration → List Vlan × Vlan → List Net × Net → Bool
overlaps_earlier conf v vip =
    list_any (λ w. are_routed conf w.vid v.1.vid && list_any (λ other. clash other vip.1) w.vips) v.0
    || is_repeat overlap vip

abbrev pub overlapping_vip : Configuration → List Vlan × Vlan → List (List ℕ) × (List Net × Net) → List ConfFault
overlapping_vip conf v vip = fault_if (overlaps_earlier conf v vip.1) (Conflict 12) vip.0

abbrev pub overlapping_of_vlan : Configuration → PlacedVlan × (List Vlan × Vlan) → List ConfFault
overlapping_of_vlan conf v =
    flat_map (overlapping_vip conf v.1) (each_at (under v.0.site (codes "faucet_vips")) (with_earlier [] v.1.1.vips))

abbrev pub overlapping_vips : OrderedConf → Configuration → List ConfFault
overlapping_vips o conf = flat_map (overlapping_of_vlan conf) (vlans_behind o conf)

-- ---- rule 13: a VLAN is in at most one router

abbrev pub is_in_router : ℕ → Router → Bool
is_in_router vid r = is_among r.vlans vid

-- an item of a router, behind the routers before it
abbrev pub routed_twice : OrderedConf → List Router → List (List ℕ) × VlanRef → List ConfFault
routed_twice o earlier item =
    flat_map (λ vid. fault_if (list_any (is_in_router vid) earlier) (Conflict 13) item.0) (to_list (vid_of o.vlans item.1))

abbrev pub shared_of_router : OrderedConf → RawRouter × (List Router × Router) → List ConfFault
shared_of_router o r = flat_map (routed_twice o r.1.0) (routed_at r.0)

abbrev pub shared_vlans : OrderedConf → Configuration → List ConfFault
shared_vlans o conf = flat_map (shared_of_router o) (zip o.routers (with_earlier [] conf.routers))

-- ---- rule 14: a route leads into no VIP network that packets of its VLAN are routed to, and its gateway
-- is a neighbour of its VLAN, of the family of what it leads to

-- a equals b or lies inside it
abbrev pub lies_in : Net → Net → Bool
lies_in a b = nat_le (len_of b) (len_of a) && is_held b (address_of a)

-- where a key of a route at a place is written
abbrev pub route_site : List (List ℕ) → List ℕ → List (List ℕ)
route_site site key = under (under site (codes "route")) key

abbrev pub leads_inside : Configuration → ℕ → Net → Bool
leads_inside conf vid dst = list_any (lies_in dst) (vips_in conf (routing_set conf vid))

abbrev pub is_gateway : Vlan → Route → Bool
is_gateway v route = is_neighbour_address v.vips route.gw && is_same_family route.gw (address_of route.dst)

abbrev pub wrong_route : Configuration → Vlan → List (List ℕ) × Route → List ConfFault
wrong_route conf v r =
    fault_if (leads_inside conf v.vid r.1.dst) (Conflict 14) (route_site r.0 (codes "ip_dst"))
    ++ fault_if (not (is_gateway v r.1)) (Conflict 14) (route_site r.0 (codes "ip_gw"))

abbrev pub wrong_routes_of : Configuration → PlacedVlan × Vlan → List ConfFault
wrong_routes_of conf v = flat_map (wrong_route conf v.1) (each_at (under v.0.site (codes "routes")) v.1.routes)

abbrev pub wrong_routes : OrderedConf → Configuration → List ConfFault
wrong_routes o conf = flat_map (wrong_routes_of conf) (vlans_of o conf)

-- ---- rule 15: routes that packets are routed by lead to different networks

abbrev pub is_same_route : Route → Route → Bool
is_same_route a b = is_same_ip (address_of a.dst) (address_of b.dst) && len_of a.dst == len_of b.dst

-- the same as one of an earlier VLAN that packets are routed to, or as an earlier one of the VLAN itself
abbrev pub repeats_earlier : Configuration → List Vlan × Vlan → List Route × Route → Bool
repeats_earlier conf v route =
    list_any (λ w. are_routed conf w.vid v.1.vid && list_any (λ other. is_same_route other route.1) w.routes) v.0
    || is_repeat is_same_route route

abbrev pub repeated_route : Configuration → List Vlan × Vlan → List (List ℕ) × (List Route × Route) → List ConfFault
repeated_route conf v r = fault_if (repeats_earlier conf v r.1) Duplicate (route_site r.0 (codes "ip_dst"))

abbrev pub repeated_of_vlan : Configuration → PlacedVlan × (List Vlan × Vlan) → List ConfFault
repeated_of_vlan conf v =
    flat_map (repeated_route conf v.1) (each_at (under v.0.site (codes "routes")) (with_earlier [] v.1.1.routes))

abbrev pub repeated_routes : OrderedConf → Configuration → List ConfFault
repeated_routes o conf = flat_map (repeated_of_vlan conf) (vlans_behind o conf)
