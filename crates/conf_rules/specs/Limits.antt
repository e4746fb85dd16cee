-- Rule 16: the limits on the size of a configuration, in their order.
use Rattle.std.specs.Prelude.{ℕ, ◌*◌, ◌+◌, ◌&&◌, Bool, List, [], ◌∷◌, ◌++◌, map, codes, length, sum_by, count_by, nat_lt}
use Rattle.std.specs.List.{flat_map, list_any, zip}
use Rattle.conf_types.specs.declared.datapath.Dp.{Dp}
use Rattle.conf_types.specs.declared.vlan.Router.{Router}
use Rattle.conf_types.specs.declared.vlan.Vlan.{Vlan}
use Rattle.conf_types.specs.Attached.{rules_of}
use Rattle.conf_types.specs.Configuration.{Configuration}
use Rattle.conf_types.specs.Families.{different_ips}
use Rattle.conf_types.specs.Membership.{has_edge_member, is_mirror_of}
use Rattle.conf_types.specs.Valid.{is_special, members_at, ports_named, attached, route_items, group_count}
use Rattle.conf_shape.specs.declared.raw.RawDp.{RawDp}
use Rattle.conf_shape.specs.declared.raw.RawRouter.{RawRouter}
use Rattle.conf_shape.specs.declared.refused.ConfFault.{ConfFault}
use Rattle.conf_shape.specs.declared.refused.ConfCause.TheVariants.{TooMany}
use Rattle.conf_shape.specs.declared.refused.LimitName.{LimitName}
use Rattle.conf_shape.specs.declared.refused.LimitName.TheVariants as limit
use Rattle.conf_resolve.specs.declared.ordered.OrderedConf.{OrderedConf}
use Rattle.conf_resolve.specs.declared.ordered.PlacedVlan.{PlacedVlan}
use Rattle.conf_resolve.specs.InOrder.{dp_site, router_site}
use Rattle.conf_rules.specs.Places.{fault_if, dps_of, vlans_of, Interface, interfaces, site_of}

abbrev pub above : ℕ → ℕ → LimitName → List (List ℕ) → List ConfFault
above most n name site = fault_if (nat_lt most n) (TooMany name) site

abbrev pub whole_dps : List (List ℕ)
whole_dps = codes "dps" ∷ []

abbrev pub whole_vlans : List (List ℕ)
whole_vlans = codes "vlans" ∷ []

-- ---- of a datapath

abbrev pub acl_entries : Configuration → Dp → ℕ
acl_entries conf d = sum_by (λ rules. length rules + 1) (attached conf d)

abbrev pub acl_outputs : Configuration → Dp → ℕ
acl_outputs conf d = sum_by (λ rules. sum_by (ports_named d) rules) (attached conf d)

abbrev pub members : Configuration → Dp → ℕ
members conf d = sum_by (members_at conf) d.ports

abbrev pub size_of : Configuration → LimitName → Dp → ℕ
size_of conf limit.Ports d = length d.ports
size_of conf limit.Special d = count_by (is_special d) d.ports
size_of conf limit.AclEntries d = acl_entries conf d
size_of conf limit.AclOutputs d = acl_outputs conf d
size_of conf _ d = members conf d

abbrev pub most_of : LimitName → ℕ
most_of limit.Ports = 256
most_of limit.Special = 16
most_of limit.AclEntries = 20000
most_of limit.AclOutputs = 65536
most_of _ = 8192

abbrev pub at_dp : Configuration → LimitName → RawDp × Dp → List ConfFault
at_dp conf name d = above (most_of name) (size_of conf name d.1) name (dp_site d.0)

abbrev pub at_dps : OrderedConf → Configuration → LimitName → List ConfFault
at_dps o conf name = flat_map (at_dp conf name) (dps_of o conf)

-- ---- of an interface

abbrev pub many_mirrors : Interface → List ConfFault
many_mirrors i = above 4 (count_by (λ m. is_mirror_of m i.port.no) i.dp.ports) limit.Mirrors (site_of i)

abbrev pub too_many_mirrors : OrderedConf → Configuration → List ConfFault
too_many_mirrors o conf = flat_map many_mirrors (interfaces o conf)

-- of a VLAN whose ACLs are attached somewhere, and of an interface
abbrev pub is_attached_somewhere : Configuration → Vlan → Bool
is_attached_somewhere conf v = list_any (λ d. has_edge_member d v.vid) conf.dps

abbrev pub many_rules_on_vlan : Configuration → PlacedVlan × Vlan → List ConfFault
many_rules_on_vlan conf v =
    fault_if (is_attached_somewhere conf v.1 && nat_lt 1000 (length (rules_of conf v.1.acls))) (TooMany limit.Rules) v.0.site

abbrev pub many_rules_on_port : Configuration → Interface → List ConfFault
many_rules_on_port conf i = above 1000 (length (rules_of conf i.port.acls)) limit.Rules (site_of i)

abbrev pub too_many_rules : OrderedConf → Configuration → List ConfFault
too_many_rules o conf = flat_map (many_rules_on_vlan conf) (vlans_of o conf) ++ flat_map (many_rules_on_port conf) (interfaces o conf)

-- ---- of VLANs and routers

abbrev pub many_vips : PlacedVlan × Vlan → List ConfFault
many_vips v = above 8 (length v.1.vips) limit.Vips v.0.site

abbrev pub many_router_vlans : RawRouter × Router → List ConfFault
many_router_vlans r = above 16 (length r.1.vlans) limit.RouterVlans (router_site r.0)

abbrev pub too_many_router_vlans : OrderedConf → Configuration → List ConfFault
too_many_router_vlans o conf = flat_map many_router_vlans (zip o.routers conf.routers)

abbrev pub routes : Configuration → ℕ
routes conf = sum_by (λ v. length v.routes) conf.vlans

abbrev pub gateways_of : Vlan → ℕ
gateways_of v = different_ips (map (λ r. r.gw) v.routes)

-- each group asks for each gateway of each VLAN
abbrev pub gateways : Configuration → ℕ
gateways conf = group_count conf * sum_by gateways_of conf.vlans

-- ---- all of them

abbrev pub part_limits : OrderedConf → Configuration → List ConfFault
part_limits o conf =
    above 64 (length conf.dps) limit.Dps whole_dps
    ++ (at_dps o conf limit.Ports
    ++ (above 1024 (length conf.vlans) limit.Vlans whole_vlans
    ++ (too_many_mirrors o conf
    ++ at_dps o conf limit.Special)))

abbrev pub acl_limits : OrderedConf → Configuration → List ConfFault
acl_limits o conf =
    too_many_rules o conf
    ++ (at_dps o conf limit.AclEntries
    ++ (at_dps o conf limit.AclOutputs
    ++ at_dps o conf limit.Members))

abbrev pub routing_limits : OrderedConf → Configuration → List ConfFault
routing_limits o conf =
    flat_map many_vips (vlans_of o conf)
    ++ (too_many_router_vlans o conf
    ++ (above 1024 (routes conf) limit.Routes whole_vlans
    ++ (above 1024 (gateways conf) limit.Gateways whole_vlans
    ++ above 32768 (sum_by (route_items conf) conf.vlans) limit.RouteItems whole_vlans)))

abbrev pub passed_limits : OrderedConf → Configuration → List ConfFault
passed_limits o conf = part_limits o conf ++ (acl_limits o conf ++ routing_limits o conf)
