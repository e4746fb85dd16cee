-- Rules 1 to 7: what is named once, and what is named at all.
use Rattle.std.specs.Prelude.{ℕ, ◌==◌, ◌&&◌, ◌||◌, Bool, false, if◌then◌else◌, is_some, is_none, List, [], ◌++◌, map, codes, Option}
use Rattle.std.specs.List.{flat_map}
use Rattle.std.specs.Option.{option_map_or}
use Rattle.conf_types.specs.Attached.{acl_named}
use Rattle.conf_types.specs.Configuration.{Configuration}
use Rattle.conf_types.specs.Lists.{is_same}
use Rattle.conf_shape.specs.declared.raw.RawAclNames.{RawAclNames}
use Rattle.conf_shape.specs.declared.raw.RawPort.{RawPort}
use Rattle.conf_shape.specs.declared.raw.RawDp.{RawDp}
use Rattle.conf_shape.specs.declared.raw.RawRouter.{RawRouter}
use Rattle.conf_shape.specs.declared.raw.VlanRef.{VlanRef}
use Rattle.conf_shape.specs.declared.refused.ConfFault.{ConfFault}
use Rattle.conf_shape.specs.declared.refused.ConfCause.TheVariants.{Duplicate, Unresolved, Conflict}
use Rattle.conf_resolve.specs.declared.ordered.OrderedConf.{OrderedConf}
use Rattle.conf_resolve.specs.declared.ordered.PlacedVlan.{PlacedVlan}
use Rattle.conf_resolve.specs.InOrder.{dp_site, port_site, router_site, bgp_site}
use Rattle.conf_resolve.specs.Resolved.{to_list, vid_of}
use Rattle.conf_rules.specs.Places.{fault_if, under, name_site, each_at, one_at, list_at, with_earlier, is_repeat}

-- ---- rule 1: numbers and names of VLANs are distinct

abbrev pub vid_site : PlacedVlan → List (List ℕ)
vid_site v = if v.vlan.has_vid then under v.site (codes "vid") else v.site

abbrev pub repeated_vlan : List PlacedVlan × PlacedVlan → List ConfFault
repeated_vlan v =
    fault_if (is_repeat (λ a b. a.vlan.vid == b.vlan.vid) v) Duplicate (vid_site v.1)
    ++ fault_if (is_repeat (λ a b. is_same a.vlan.names.name b.vlan.names.name) v) Duplicate (name_site v.1.site v.1.vlan.names)

abbrev pub repeated_vlans : OrderedConf → List ConfFault
repeated_vlans o = flat_map repeated_vlan (with_earlier [] o.vlans)

-- ---- rule 2: identifiers and names of datapaths are distinct

abbrev pub repeated_dp : List RawDp × RawDp → List ConfFault
repeated_dp d =
    fault_if (is_repeat (λ a b. a.id.0 == b.id.0) d) Duplicate (under (dp_site d.1) (codes "dp_id"))
    ++ fault_if (is_repeat (λ a b. is_same a.names.name b.names.name) d) Duplicate (name_site (dp_site d.1) d.1.names)

abbrev pub repeated_dps : OrderedConf → List ConfFault
repeated_dps o = flat_map repeated_dp (with_earlier [] o.dps)

-- ---- rule 3: numbers and names of a datapath's interfaces are distinct

abbrev pub number_site : RawDp → RawPort → List (List ℕ)
number_site d p = if p.has_number then under (port_site d p) (codes "number") else port_site d p

abbrev pub repeated_port : RawDp → List RawPort × RawPort → List ConfFault
repeated_port d p =
    fault_if (is_repeat (λ a b. a.no == b.no) p) Duplicate (number_site d p.1)
    ++ fault_if (is_repeat (λ a b. is_same a.names.name b.names.name) p) Duplicate (name_site (port_site d p.1) p.1.names)

abbrev pub repeated_ports_of : RawDp → List ConfFault
repeated_ports_of d = flat_map (repeated_port d) (with_earlier [] d.ports)

abbrev pub repeated_ports : OrderedConf → List ConfFault
repeated_ports o = flat_map repeated_ports_of o.dps

-- ---- rule 4: every VLAN that is named exists; of interfaces, then of routers

abbrev pub unknown_vlan : OrderedConf → List (List ℕ) × VlanRef → List ConfFault
unknown_vlan o item = fault_if (is_none (vid_of o.vlans item.1)) Unresolved item.0

-- the VLANs that an interface names, each with its place
abbrev pub native_at : RawDp → RawPort → List (List (List ℕ) × VlanRef)
native_at d p = map (λ name. (under (port_site d p) (codes "native_vlan"), name)) (to_list p.native)

abbrev pub tagged_at : RawDp → RawPort → List (List (List ℕ) × VlanRef)
tagged_at d p = each_at (under (port_site d p) (codes "tagged_vlans")) p.tagged

-- those that a router names
abbrev pub routed_at : RawRouter → List (List (List ℕ) × VlanRef)
routed_at r = each_at (under (router_site r) (codes "vlans")) r.vlans

-- that of its BGP peer
abbrev pub peer_at : RawRouter → List (List (List ℕ) × VlanRef)
peer_at r = map (λ bgp. (bgp_site r, bgp.vlan)) (to_list r.bgp)

abbrev pub unknown_of_port : OrderedConf → RawDp → RawPort → List ConfFault
unknown_of_port o d p = flat_map (unknown_vlan o) (native_at d p) ++ flat_map (unknown_vlan o) (tagged_at d p)

abbrev pub unknown_of_dp : OrderedConf → RawDp → List ConfFault
unknown_of_dp o d = flat_map (unknown_of_port o d) d.ports

abbrev pub unknown_of_router : OrderedConf → RawRouter → List ConfFault
unknown_of_router o r = flat_map (unknown_vlan o) (routed_at r) ++ flat_map (unknown_vlan o) (peer_at r)

abbrev pub unknown_vlans : OrderedConf → List ConfFault
unknown_vlans o = flat_map (unknown_of_dp o) o.dps ++ flat_map (unknown_of_router o) o.routers

-- ---- rule 5: an interface names a VLAN at most once

abbrev pub is_same_vlan : OrderedConf → VlanRef → VlanRef → Bool
is_same_vlan o a b = option_map_or (λ m. option_map_or (λ n. m == n) (vid_of o.vlans b) false) (vid_of o.vlans a) false

abbrev pub named_again : OrderedConf → List (List ℕ) × (List VlanRef × VlanRef) → List ConfFault
named_again o item = fault_if (is_repeat (is_same_vlan o) item.1) Duplicate item.0

-- the same by the VLANs' numbers, of which the native one's stands apart
abbrev pub is_same_vid : Option ℕ → Option ℕ → Bool
is_same_vid a b = option_map_or (λ m. option_map_or (λ n. m == n) b false) a false

abbrev pub vid_again : Option ℕ → List (List ℕ) × (List (Option ℕ) × Option ℕ) → List ConfFault
vid_again native item = fault_if (is_same_vid native item.1.1 || is_repeat is_same_vid item.1) Duplicate item.0

-- of the tagged VLANs, each with its place, and behind the native one and the tagged ones before it
abbrev pub twice_of_port : OrderedConf → RawDp → RawPort → List ConfFault
twice_of_port o d p =
    flat_map (named_again o) (each_at (under (port_site d p) (codes "tagged_vlans")) (with_earlier (to_list p.native) p.tagged))

abbrev pub twice_of_dp : OrderedConf → RawDp → List ConfFault
twice_of_dp o d = flat_map (twice_of_port o d) d.ports

abbrev pub vlans_twice : OrderedConf → List ConfFault
vlans_twice o = flat_map (twice_of_dp o) o.dps

-- ---- rule 6: every ACL that is named exists; of VLANs, then of interfaces

abbrev pub unknown_acl : Configuration → List (List ℕ) × List ℕ → List ConfFault
unknown_acl conf item = fault_if (is_none (acl_named conf.acls item.1)) Unresolved item.0

abbrev pub unknown_at : Configuration → List (List ℕ) → RawAclNames → List ConfFault
unknown_at conf site acls = flat_map (unknown_acl conf) (one_at site acls) ++ flat_map (unknown_acl conf) (list_at site acls)

abbrev pub unknown_acls_of_vlan : Configuration → PlacedVlan → List ConfFault
unknown_acls_of_vlan conf v = unknown_at conf v.site v.vlan.acls

abbrev pub unknown_acls_of_port : Configuration → RawDp → RawPort → List ConfFault
unknown_acls_of_port conf d p = unknown_at conf (port_site d p) p.acls

abbrev pub unknown_acls_of_dp : Configuration → RawDp → List ConfFault
unknown_acls_of_dp conf d = flat_map (unknown_acls_of_port conf d) d.ports

abbrev pub unknown_acls : OrderedConf → Configuration → List ConfFault
unknown_acls o conf = flat_map (unknown_acls_of_vlan conf) o.vlans ++ flat_map (unknown_acls_of_dp conf) o.dps

-- ---- rule 7: `acl_in` and `acls_in` don't stand together

abbrev pub are_both : RawAclNames → Bool
are_both acls = is_some acls.one && is_some acls.list

abbrev pub both_of_vlan : PlacedVlan → List ConfFault
both_of_vlan v = fault_if (are_both v.vlan.acls) (Conflict 7) v.site

abbrev pub both_of_dp : RawDp → List ConfFault
both_of_dp d = flat_map (λ p. fault_if (are_both p.acls) (Conflict 7) (port_site d p)) d.ports

abbrev pub acls_twice : OrderedConf → List ConfFault
acls_twice o = flat_map both_of_vlan o.vlans ++ flat_map both_of_dp o.dps
