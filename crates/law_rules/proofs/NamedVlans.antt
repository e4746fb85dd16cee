-- VLANs that are named.
use Rattle.std.specs.Prelude.{◌≡◌, ℕ, false, List, [], map, codes, Option, Some, None, IsTrue, IfSome, is_some, is_none}
use Rattle.std.specs.List.{AllByRecursion, flat_map}
use Rattle.std.proofs.Common.{refl, sym, true≢false}
use Rattle.conf_shape.specs.declared.raw.RawDp.{RawDp}
use Rattle.conf_shape.specs.declared.raw.RawPort.{RawPort}
use Rattle.conf_shape.specs.declared.raw.RawBgp.{RawBgp}
use Rattle.conf_shape.specs.declared.raw.RawRouter.{RawRouter}
use Rattle.conf_shape.specs.declared.raw.VlanRef.{VlanRef}
use Rattle.conf_shape.specs.declared.refused.ConfCause.TheVariants.{Unresolved}
use Rattle.conf_resolve.specs.declared.ordered.OrderedConf.{OrderedConf}
use Rattle.conf_resolve.specs.InOrder.{port_site, router_site, bgp_site}
use Rattle.conf_resolve.specs.Resolved.{vid_of, to_list}
use Rattle.conf_rules.specs.Names.{unknown_vlan, native_at, tagged_at, routed_at, peer_at, unknown_of_port, unknown_of_dp, unknown_of_router, unknown_vlans}
use Rattle.conf_rules.specs.Places.{under, each_at}
use Rattle.law_checks.proofs.Empty.{none_left, none_right, none_at, none_of_values, values_at, passes}
use Rattle.law_checks.proofs.Kept.{both_empty, all_empty, no_fault, is_value}
use Rattle.law_checks.proofs.Members.{IsIn, of_all, all_by}
use Rattle.law_rules.specs.Rules.{StandsForVlan, VlansExist}

module _ (o : OrderedConf) where
  stands : (name : VlanRef) → is_none (vid_of o.vlans name) ≡ false → StandsForVlan o name
  stands name is = by (vid_of o.vlans name) is
    where
      by : (n : Option ℕ) → is_none n ≡ false → IsTrue (is_some n)
      by None e = absurd (true≢false e)
      by (Some n) e = refl

  known : (name : VlanRef) → StandsForVlan o name → is_none (vid_of o.vlans name) ≡ false
  known name is = by (vid_of o.vlans name) is
    where
      by : (n : Option ℕ) → IsTrue (is_some n) → is_none n ≡ false
      by None e = absurd (true≢false (sym e))
      by (Some n) e = refl

  -- of a list, each name at its place
  all_stand : (site : List (List ℕ)) (names : List VlanRef) → flat_map (unknown_vlan o) (each_at site names) ≡ [] → AllByRecursion (StandsForVlan o) names
  all_stand site names none = all_by (StandsForVlan o) names (λ name i.
      let at = none_of_values (unknown_vlan o) (each_at site names) names (values_at site names) none name i in
      stands name (passes (is_none (vid_of o.vlans name)) Unresolved at.0 at.1))

  none_unknown : (site : List (List ℕ)) (names : List VlanRef) → AllByRecursion (StandsForVlan o) names → flat_map (unknown_vlan o) (each_at site names) ≡ []
  none_unknown site names all = all_empty (unknown_vlan o) (each_at site names) (λ item i.
      no_fault (is_none (vid_of o.vlans item.1)) Unresolved item.0 (known item.1 (of_all (StandsForVlan o) names all item.1 (is_value (each_at site names) names (values_at site names) item i))))

  native_stands : (site : List (List ℕ)) (native : Option VlanRef) → flat_map (unknown_vlan o) (map (λ name. (site, name)) (to_list native)) ≡ [] → IfSome native (StandsForVlan o)
  native_stands site None none = tt
  native_stands site (Some name) none = stands name (passes (is_none (vid_of o.vlans name)) Unresolved site (none_left (unknown_vlan o (site, name)) [] none))

  native_known : (site : List (List ℕ)) (native : Option VlanRef) → IfSome native (StandsForVlan o) → flat_map (unknown_vlan o) (map (λ name. (site, name)) (to_list native)) ≡ []
  native_known site None is = refl
  native_known site (Some name) is = both_empty (unknown_vlan o (site, name)) [] (no_fault (is_none (vid_of o.vlans name)) Unresolved site (known name is)) refl

  peer_stands : (site : List (List ℕ)) (bgp : Option RawBgp) → flat_map (unknown_vlan o) (map (λ (bgp : RawBgp). (site, bgp.vlan)) (to_list bgp)) ≡ [] → IfSome bgp (λ bgp. StandsForVlan o bgp.vlan)
  peer_stands site None none = tt
  peer_stands site (Some bgp) none = stands bgp.vlan (passes (is_none (vid_of o.vlans bgp.vlan)) Unresolved site (none_left (unknown_vlan o (site, bgp.vlan)) [] none))

  peer_known : (site : List (List ℕ)) (bgp : Option RawBgp) → IfSome bgp (λ bgp. StandsForVlan o bgp.vlan) → flat_map (unknown_vlan o) (map (λ (bgp : RawBgp). (site, bgp.vlan)) (to_list bgp)) ≡ []
  peer_known site None is = refl
  peer_known site (Some bgp) is = both_empty (unknown_vlan o (site, bgp.vlan)) [] (no_fault (is_none (vid_of o.vlans bgp.vlan)) Unresolved site (known bgp.vlan is)) refl

  module _ (none : unknown_vlans o ≡ []) where
    of_port : (d : RawDp) → IsIn o.dps d → (p : RawPort) → IsIn d.ports p → unknown_of_port o d p ≡ []
    of_port d i p j = none_at (unknown_of_port o d) d.ports (none_at (unknown_of_dp o) o.dps (none_left (flat_map (unknown_of_dp o) o.dps) (flat_map (unknown_of_router o) o.routers) none) d i) p j

    of_router : (r : RawRouter) → IsIn o.routers r → unknown_of_router o r ≡ []
    of_router r i = none_at (unknown_of_router o) o.routers (none_right (flat_map (unknown_of_dp o) o.dps) (flat_map (unknown_of_router o) o.routers) none) r i

    pub vlans_exist : VlansExist o
    vlans_exist = record {
      native = all_by (λ (d : RawDp). AllByRecursion (λ p. IfSome p.native (StandsForVlan o)) d.ports) o.dps (λ d i. all_by (λ (p : RawPort). IfSome p.native (StandsForVlan o)) d.ports (λ p j.
          native_stands (under (port_site d p) (codes "native_vlan")) p.native (none_left (flat_map (unknown_vlan o) (native_at d p)) (flat_map (unknown_vlan o) (tagged_at d p)) (of_port d i p j))));
      tagged = all_by (λ (d : RawDp). AllByRecursion (λ p. AllByRecursion (StandsForVlan o) p.tagged) d.ports) o.dps (λ d i. all_by (λ (p : RawPort). AllByRecursion (StandsForVlan o) p.tagged) d.ports (λ p j.
          all_stand (under (port_site d p) (codes "tagged_vlans")) p.tagged (none_right (flat_map (unknown_vlan o) (native_at d p)) (flat_map (unknown_vlan o) (tagged_at d p)) (of_port d i p j))));
      routed = all_by (λ (r : RawRouter). AllByRecursion (StandsForVlan o) r.vlans) o.routers (λ r i.
          all_stand (under (router_site r) (codes "vlans")) r.vlans (none_left (flat_map (unknown_vlan o) (routed_at r)) (flat_map (unknown_vlan o) (peer_at r)) (of_router r i)));
      of_peers = all_by (λ (r : RawRouter). IfSome r.bgp (λ bgp. StandsForVlan o bgp.vlan)) o.routers (λ r i.
          peer_stands (bgp_site r) r.bgp (none_right (flat_map (unknown_vlan o) (routed_at r)) (flat_map (unknown_vlan o) (peer_at r)) (of_router r i)));
    }

  pub none_lacks : VlansExist o → unknown_vlans o ≡ []
  none_lacks is =
      both_empty (flat_map (unknown_of_dp o) o.dps) (flat_map (unknown_of_router o) o.routers)
      (all_empty (unknown_of_dp o) o.dps (λ d i. all_empty (unknown_of_port o d) d.ports (λ p j. both_empty (flat_map (unknown_vlan o) (native_at d p)) (flat_map (unknown_vlan o) (tagged_at d p))
      (native_known (under (port_site d p) (codes "native_vlan")) p.native (of_all (λ (p : RawPort). IfSome p.native (StandsForVlan o)) d.ports (of_all (λ (d : RawDp). AllByRecursion (λ p. IfSome p.native (StandsForVlan o)) d.ports) o.dps is.native d i) p j))
      (none_unknown (under (port_site d p) (codes "tagged_vlans")) p.tagged (of_all (λ (p : RawPort). AllByRecursion (StandsForVlan o) p.tagged) d.ports (of_all (λ (d : RawDp). AllByRecursion (λ p. AllByRecursion (StandsForVlan o) p.tagged) d.ports) o.dps is.tagged d i) p j)))))
      (all_empty (unknown_of_router o) o.routers (λ r i. both_empty (flat_map (unknown_vlan o) (routed_at r)) (flat_map (unknown_vlan o) (peer_at r))
      (none_unknown (under (router_site r) (codes "vlans")) r.vlans (of_all (λ (r : RawRouter). AllByRecursion (StandsForVlan o) r.vlans) o.routers is.routed r i))
      (peer_known (bgp_site r) r.bgp (of_all (λ (r : RawRouter). IfSome r.bgp (λ bgp. StandsForVlan o bgp.vlan)) o.routers is.of_peers r i))))
