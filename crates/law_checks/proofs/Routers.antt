-- Routing is valid where no rule on it is broken.
use Rattle.std.specs.Prelude.{◌≡◌, ℕ, ◌&&◌, ◌||◌, Bool, true, false, not, List, [], map, codes, Option, Some, None, option_and_then, IsTrue, IfSome, is_some}
use Rattle.std.specs.List.{AllByRecursion, flat_map, filter_map, list_any, zip}
use Rattle.std.specs.Option.{option_map, option_map_or}
use Rattle.std.proofs.Common.{inl, refl, sym, ◌∙◌, subst, true≢false}
use Rattle.std.proofs.lemmas.Bool.{or_parts, and_parts, false_from_ne_true}
use Rattle.std.proofs.lemmas.Option.{same_Some}
use Rattle.conf_types.specs.declared.address.Net.{Net}
use Rattle.conf_types.specs.declared.vlan.Route.{Route}
use Rattle.conf_types.specs.declared.vlan.Router.{Router}
use Rattle.conf_types.specs.declared.vlan.Vlan.{Vlan}
use Rattle.conf_types.specs.Configuration.{Configuration, vlan_with}
use Rattle.conf_types.specs.Lists.{EachBefore, AreDistinct, IsTextBefore, is_among}
use Rattle.conf_types.specs.Families.{is_same_family, address_of}
use Rattle.conf_types.specs.Networks.{AreApart, AreApartOrLocal, AreSame, LiesIn, is_neighbour_address}
use Rattle.conf_types.specs.Routing.{routing_set, vips_in, routes_in}
use Rattle.conf_types.specs.Valid.{IsPeer, RoutesAreValid, RoutingIsValid}
use Rattle.conf_shape.specs.declared.raw.VlanRef.{VlanRef}
use Rattle.conf_shape.specs.declared.raw.VlanRef.TheVariants.{Vid, Name}
use Rattle.conf_shape.specs.declared.raw.RawBgp.{RawBgp}
use Rattle.conf_shape.specs.declared.raw.RawRouter.{RawRouter}
use Rattle.conf_shape.specs.declared.raw.RawConf.{RawConf}
use Rattle.conf_shape.specs.declared.refused.ConfCause.{ConfCause}
use Rattle.conf_shape.specs.declared.refused.ConfCause.TheVariants.{Duplicate, Conflict}
use Rattle.conf_shape.specs.declared.refused.ConfFault.{ConfFault}
use Rattle.conf_resolve.specs.declared.ordered.OrderedConf.{OrderedConf}
use Rattle.conf_resolve.specs.declared.ordered.PlacedVlan.{PlacedVlan}
use Rattle.conf_resolve.specs.InOrder.{ordered, vlans_in_order, routers_in_order, router_site, is_text_before}
use Rattle.conf_resolve.specs.InRange.{IsInRange, NamesVlan, BgpIsInRange}
use Rattle.conf_resolve.specs.Resolved.{peer_in, peer_of, router_of, vlan_of, resolved, to_list, vid_of}
use Rattle.conf_rules.specs.Names.{routed_at}
use Rattle.conf_rules.specs.Places.{fault_if, under, each_at, vlans_of, with_earlier, is_repeat}
use Rattle.conf_rules.specs.Routing.{are_routed, overlap, clash, is_in_router, routed_twice, shared_of_router, shared_vlans, lies_in, route_site, leads_inside, is_gateway, wrong_route, wrong_routes_of, wrong_routes, is_same_route}
use Rattle.law_checks.proofs.Datapaths.{by_name, is_there}
use Rattle.law_checks.proofs.Empty.{none_left, none_right, none_at, none_of_values, values_at, passes, holds, no_repeats, HasNoRepeat, in_earlier, each_behind, none_behind}
use Rattle.law_checks.proofs.Members.{IsIn, of_all, all_by, all_mapped, of_kept, fails, among, is_one_of, in_zipped, before_by, before_both, before_mapped, EachTo, second_fails}
use Rattle.law_checks.proofs.Networks.{apart, apart_or_local, apart_back, routes_other, outside}
use Rattle.law_checks.proofs.Once.{of_once, once_distinct}
use Rattle.law_checks.proofs.Orders.{each_ordered, sorted, text_order, text_rises, other_texts}
use Rattle.law_checks.proofs.Sets.{IsSet, set_of, of_set}
use Rattle.law_checks.proofs.Unbroken.{BreaksNone}
use Rattle.law_checks.proofs.Vlans.{HasVlan, number_of_router, number_of_peer, router_in_range}

-- ---- values of VLANs that no rule finds alike: those of two VLANs by one test, those of one VLAN by another

module _ {X : Type 0} (conf : Configuration) (f : Vlan → List X) (across within : X → X → Bool) (cause : ConfCause) (key : List ℕ) (place : List (List ℕ) → List (List ℕ)) where
  abbrev pub is_alike : List Vlan × Vlan → List X × X → Bool
  is_alike v x = list_any (λ w. are_routed conf w.vid v.1.vid && list_any (λ other. across other x.1) (f w)) v.0 || is_repeat within x

  abbrev pub alike_of : PlacedVlan × (List Vlan × Vlan) → List ConfFault
  alike_of v = flat_map (λ (item : List (List ℕ) × (List X × X)). fault_if (is_alike v.1 item.1) cause (place item.0)) (each_at (under v.0.site key) (with_earlier [] (f v.1.1)))

  item_passes : (v : PlacedVlan) (e : List Vlan) (w : Vlan) → alike_of (v, (e, w)) ≡ [] → (x : List X × X) → IsIn (with_earlier [] (f w)) x → is_alike (e, w) x ≡ false
  item_passes v e w none x i =
      let m = none_of_values (λ (item : List (List ℕ) × (List X × X)). fault_if (is_alike (e, w) item.1) cause (place item.0)) (each_at (under v.site key) (with_earlier [] (f w))) (with_earlier [] (f w)) (values_at (under v.site key) (with_earlier [] (f w))) none x i in
      passes (is_alike (e, w) x) cause (place m.0) m.1

  -- of one VLAN
  pub within_one : (v : PlacedVlan) (e : List Vlan) (w : Vlan) → alike_of (v, (e, w)) ≡ [] → EachBefore (λ a b. within a b ≡ false) (f w)
  within_one v e w none =
      let r : HasNoRepeat within [] (f w) = no_repeats within [] (f w) (all_by (λ x. is_repeat within x ≡ false) (with_earlier [] (f w)) (λ x i.
      (or_parts (list_any (λ u. are_routed conf u.vid w.vid && list_any (λ other. across other x.1) (f u)) e) (is_repeat within x) (item_passes v e w none x i)).1)) in
      r.among

  -- of one VLAN behind another
  pub behind_one : (v : PlacedVlan) (e : List Vlan) (w : Vlan) → alike_of (v, (e, w)) ≡ [] → (u : Vlan) → IsIn e u → are_routed conf u.vid w.vid ≡ true → EachTo (λ a b. across a b ≡ false) (f u) (f w)
  behind_one v e w none u cu routed a b ia ib =
      let m = in_earlier [] (f w) b ib in
      let not_any = (or_parts (list_any (λ u. are_routed conf u.vid w.vid && list_any (λ other. across other b) (f u)) e) (is_repeat within (m.0, b)) (item_passes v e w none (m.0, b) m.1)).0 in
      let not_here = fails (λ u. are_routed conf u.vid w.vid && list_any (λ other. across other b) (f u)) e not_any u cu in
      fails (λ other. across other b) (f u) (second_fails (are_routed conf u.vid w.vid) (list_any (λ other. across other b) (f u)) routed not_here) a ia

module _ {X : Type 0} (conf : Configuration) (f : Vlan → List X) (across within : X → X → Bool) (cause : ConfCause) (key : List ℕ) (place : List (List ℕ) → List (List ℕ)) (vs : List PlacedVlan)
    (are : conf.vlans ≡ map (λ v. vlan_of v.vlan) vs) (none : flat_map (alike_of conf f across within cause key place) (zip vs (with_earlier [] (map (λ v. vlan_of v.vlan) vs))) ≡ []) where
  -- of each VLAN
  alike_in_vlans : (R : X → X → Type 0) → ((a b : X) → within a b ≡ false → R a b) → AllByRecursion (λ v. EachBefore R (f v)) conf.vlans
  alike_in_vlans R told =
      subst (λ (l : List Vlan). AllByRecursion (λ v. EachBefore R (f v)) l) (sym are) (all_mapped (λ (v : Vlan). EachBefore R (f v)) (λ (v : PlacedVlan). vlan_of v.vlan) vs (all_by _ vs (λ v i.
      let m = of_all (λ (v : PlacedVlan). (e : List Vlan) × (alike_of conf f across within cause key place (v, (e, vlan_of v.vlan)) ≡ [])) vs (none_behind (λ (v : PlacedVlan). vlan_of v.vlan) (alike_of conf f across within cause key place) [] vs none) v i in
      before_by (λ a b. within a b ≡ false) R (f (vlan_of v.vlan)) (within_one conf f across within cause key place v m.0 (vlan_of v.vlan) m.1) (λ a b ia ib not. told a b not))))

  -- of each routing set
  alike_in_sets : (R : X → X → Type 0) → ((a b : X) → across a b ≡ false → R a b) → ((a b : X) → within a b ≡ false → R a b) → ((a b : X) → R a b → R b a)
      → (vids : List ℕ) → IsSet conf vids → EachBefore R (flat_map (λ vid. option_map_or f (vlan_with conf.vlans vid) []) vids)
  alike_in_sets R told own back vids set =
      of_set conf f R back (alike_in_vlans R own)
      (subst (λ (l : List Vlan). EachBefore (λ (v w : Vlan). are_routed conf v.vid w.vid ≡ true → EachTo R (f v) (f w)) l) (sym are) (before_mapped (λ (v w : Vlan). are_routed conf v.vid w.vid ≡ true → EachTo R (f v) (f w)) (λ (v : PlacedVlan). vlan_of v.vlan) vs
      (each_behind (λ (v : PlacedVlan). vlan_of v.vlan) (λ (u : Vlan) (v : PlacedVlan). are_routed conf u.vid (vlan_of v.vlan).vid ≡ true → EachTo R (f u) (f (vlan_of v.vlan))) (alike_of conf f across within cause key place) [] vs
      (λ v e here u cu routed a b ia ib. told a b (behind_one conf f across within cause key place v e (vlan_of v.vlan) here u cu routed a b ia ib)) none).among))
      vids set

-- ---- routers and routes

module _ (o : OrderedConf) where
  abbrev conf : Configuration
  conf = resolved o

  not_again : (s : RawRouter) (e : List Router) → shared_of_router o (s, (e, router_of o s)) ≡ [] → (r : Router) → IsIn e r → AllByRecursion (λ vid. is_among (router_of o s).vlans vid ≡ false) r.vlans
  not_again s e none r cr = all_by (λ vid. is_among (router_of o s).vlans vid ≡ false) r.vlans (λ vid i.
      false_from_ne_true (is_among (router_of o s).vlans vid) (λ here.
      let m = of_kept (vid_of o.vlans) s.vlans vid (of_once (filter_map (vid_of o.vlans) s.vlans) vid (is_one_of (router_of o s).vlans vid here)) in
      let n = none_of_values (routed_twice o e) (routed_at s) s.vlans (values_at (under (router_site s) (codes "vlans")) s.vlans) none m.0 m.1 in
      let not_any = passes (list_any (is_in_router vid) e) (Conflict 13) n.0 (none_at (λ vid. fault_if (list_any (is_in_router vid) e) (Conflict 13) n.0) (to_list (vid_of o.vlans m.0)) n.1 vid (subst (λ (n : Option ℕ). IsIn (to_list n) vid) (sym m.2) (inl refl))) in
      true≢false (sym (among r.vlans vid i) ∙ fails (is_in_router vid) e not_any r cr)))

  pub routers_apart : shared_vlans o conf ≡ [] → EachBefore (λ r s. AllByRecursion (λ vid. is_among s.vlans vid ≡ false) r.vlans) conf.routers
  routers_apart none = before_mapped (λ (r s : Router). AllByRecursion (λ vid. is_among s.vlans vid ≡ false) r.vlans) (router_of o) o.routers
      (each_behind (router_of o) (λ (r : Router) (s : RawRouter). AllByRecursion (λ vid. is_among (router_of o s).vlans vid ≡ false) r.vlans) (shared_of_router o) [] o.routers (λ s e is r cr. not_again s e is r cr) none).among

  as_vlan : PlacedVlan → Vlan
  as_vlan v = vlan_of v.vlan

  networks : Vlan → List Net
  networks v = vips_in conf (routing_set conf v.vid)

  route_right : (v : Vlan) (site : List (List ℕ)) (r : Route) → wrong_route conf v (site, r) ≡ [] → (leads_inside conf v.vid r.dst ≡ false) × (is_gateway v r ≡ true)
  route_right v site r none =
      let dst = fault_if (leads_inside conf v.vid r.dst) (Conflict 14) (route_site site (codes "ip_dst")) in
      let gw = fault_if (not (is_gateway v r)) (Conflict 14) (route_site site (codes "ip_gw")) in
      (passes (leads_inside conf v.vid r.dst) (Conflict 14) (route_site site (codes "ip_dst")) (none_left dst gw none), holds (is_gateway v r) (Conflict 14) (route_site site (codes "ip_gw")) (none_right dst gw none))

  all_right : (v : PlacedVlan) → wrong_routes_of conf (v, vlan_of v.vlan) ≡ [] → RoutesAreValid conf (vlan_of v.vlan)
  unfolding networks
  all_right v none =
      let w = vlan_of v.vlan in
      let site = under v.site (codes "routes") in
      let each : (r : Route) → IsIn w.routes r → (leads_inside conf w.vid r.dst ≡ false) × (is_gateway w r ≡ true) = λ r i. (let at = none_of_values (wrong_route conf w) (each_at site w.routes) w.routes (values_at site w.routes) none r i in route_right w at.0 r at.1) in
      let parts : (r : Route) → IsIn w.routes r → (is_neighbour_address w.vips r.gw ≡ true) × (is_same_family r.gw (address_of r.dst) ≡ true) = λ r i. and_parts (is_neighbour_address w.vips r.gw) (is_same_family r.gw (address_of r.dst)) (each r i).1 in
      record {
        reached = all_by (λ r. IsTrue (is_neighbour_address w.vips r.gw)) w.routes (λ r i. (parts r i).0);
        one_family = all_by (λ r. IsTrue (is_same_family r.gw (address_of r.dst))) w.routes (λ r i. (parts r i).1);
        outside = all_by (λ r. AllByRecursion (λ vip. LiesIn r.dst vip → ⊥) (networks w)) w.routes (λ r i. all_by (λ vip. LiesIn r.dst vip → ⊥) (networks w) (λ vip j. outside r.dst vip (fails (lies_in r.dst) (networks w) (each r i).0 vip j)));
      }

  pub routes_valid : wrong_routes o conf ≡ [] → AllByRecursion (RoutesAreValid conf) conf.vlans
  unfolding as_vlan
  routes_valid none = all_mapped (RoutesAreValid conf) as_vlan o.vlans (all_by (λ v. RoutesAreValid conf (as_vlan v)) o.vlans (λ v i. all_right v (none_at (wrong_routes_of conf) (vlans_of o conf) none (v, as_vlan v) (in_zipped as_vlan o.vlans v i))))

-- ---- of a raw configuration in range

module _ (raw : RawConf) (range : IsInRange raw) where
  abbrev meant : Configuration
  meant = resolved (ordered raw)

  -- ---- the VLANs of routers

  named_there : (r : RawRouter) → IsIn (routers_in_order raw) r → (name : VlanRef) → NamesVlan name → IsIn r.vlans name → (vid : ℕ) → vid_of (vlans_in_order raw) name ≡ Some vid → HasVlan raw range vid
  named_there r cr (Vid number) is i vid e = subst (HasVlan raw range) (same_Some number vid e) (number_of_router raw range r cr number is i)
  named_there r cr (Name name) is i vid e = by_name (vlans_in_order raw) name vid e

  of_router : (r : RawRouter) (vid : ℕ) → IsIn (router_of (ordered raw) r).vlans vid → (name : VlanRef) × IsIn r.vlans name × (vid_of (vlans_in_order raw) name ≡ Some vid)
  of_router r vid i = of_kept (vid_of (vlans_in_order raw)) r.vlans vid (of_once (filter_map (vid_of (vlans_in_order raw)) r.vlans) vid i)

  router_vlans : AllByRecursion (λ r. AllByRecursion (λ vid. IsTrue (is_some (vlan_with meant.vlans vid))) r.vlans) meant.routers
  router_vlans = all_mapped (λ (r : Router). AllByRecursion (λ vid. IsTrue (is_some (vlan_with meant.vlans vid))) r.vlans) (router_of (ordered raw)) (routers_in_order raw) (all_by _ (routers_in_order raw) (λ r cr.
      all_by (λ vid. IsTrue (is_some (vlan_with meant.vlans vid))) (router_of (ordered raw) r).vlans (λ vid i.
      let m = of_router r vid i in
      is_there raw range vid (named_there r cr m.0 (of_all NamesVlan r.vlans (router_in_range raw range r cr).vlans m.0 m.1) m.1 vid m.2))))

  -- ---- their peers

  peer_there : (r : RawRouter) → IsIn (routers_in_order raw) r → (bgp : RawBgp) → r.bgp ≡ Some bgp → NamesVlan bgp.vlan → (vid : ℕ) → vid_of (vlans_in_order raw) bgp.vlan ≡ Some vid → HasVlan raw range vid
  peer_there r cr bgp has names vid e = by bgp.vlan refl names e
    where
      by : (name : VlanRef) → bgp.vlan ≡ name → NamesVlan name → vid_of (vlans_in_order raw) name ≡ Some vid → HasVlan raw range vid
      by (Vid number) is n e = subst (HasVlan raw range) (same_Some number vid e) (number_of_peer raw range r cr bgp has number n is)
      by (Name name) is n e = by_name (vlans_in_order raw) name vid e

  peer_valid : (r : RawRouter) → IsIn (routers_in_order raw) r → IfSome (router_of (ordered raw) r).bgp (IsPeer meant)
  peer_valid r cr = by r.bgp refl (router_in_range raw range r cr).bgp
    where
      found : (bgp : RawBgp) → r.bgp ≡ Some bgp → BgpIsInRange bgp → (o : Option ℕ) → vid_of (vlans_in_order raw) bgp.vlan ≡ o → IfSome (option_map (peer_in bgp) o) (IsPeer meant)
      found bgp has b None e = tt
      found bgp has b (Some vid) e = record { ours = b.ours; theirs = b.theirs; identified = b.identified; address = b.address; vlan = is_there raw range vid (peer_there r cr bgp has b.vlan vid e) }

      by : (o : Option RawBgp) → r.bgp ≡ o → IfSome o BgpIsInRange → IfSome (option_and_then (peer_of (ordered raw)) o) (IsPeer meant)
      by None has b = tt
      by (Some bgp) has b = found bgp has b (vid_of (vlans_in_order raw) bgp.vlan) refl

  router_peers : AllByRecursion (λ r. IfSome r.bgp (IsPeer meant)) meant.routers
  router_peers = all_mapped (λ (r : Router). IfSome r.bgp (IsPeer meant)) (router_of (ordered raw)) (routers_in_order raw) (all_by _ (routers_in_order raw) peer_valid)

  routers_once : AllByRecursion (λ r. AreDistinct r.vlans) meant.routers
  routers_once = all_mapped (λ (r : Router). AreDistinct r.vlans) (router_of (ordered raw)) (routers_in_order raw) (all_by _ (routers_in_order raw) (λ r cr. once_distinct (filter_map (vid_of (vlans_in_order raw)) r.vlans)))

  routers_rise : EachBefore (λ (r s : RawRouter). IsTextBefore r.name s.name) (routers_in_order raw)
  routers_rise =
      before_both (λ (r s : RawRouter). is_text_before s.name r.name ≡ false) (λ r s. r.name ≡ s.name → ⊥) (λ r s. IsTextBefore r.name s.name) (routers_in_order raw)
      (sorted (λ (r s : RawRouter). is_text_before r.name s.name) (text_order (λ (r : RawRouter). r.name)) raw.routers)
      (each_ordered (λ (r s : RawRouter). r.name ≡ s.name → ⊥) (λ r s. is_text_before r.name s.name) raw.routers (λ r s other same. other (sym same)) range.router_names)
      (λ r s not other. text_rises r.name s.name not (other_texts r.name s.name other))

  module _ (whole : BreaksNone (ordered raw) meant) where
    -- ---- networks

    own_vips_apart : AllByRecursion (λ v. EachBefore AreApart v.vips) meant.vlans
    own_vips_apart = alike_in_vlans meant (λ v. v.vips) clash overlap (Conflict 12) (codes "faucet_vips") (λ site. site) (vlans_in_order raw) refl whole.vips_apart AreApart apart

    vips_apart : (vid : ℕ) → EachBefore AreApartOrLocal (vips_in meant (routing_set meant vid))
    vips_apart vid =
        alike_in_sets meant (λ v. v.vips) clash overlap (Conflict 12) (codes "faucet_vips") (λ site. site) (vlans_in_order raw) refl whole.vips_apart AreApartOrLocal apart_or_local (λ a b not local. apart a b not)
        apart_back (routing_set meant vid) (set_of meant routers_once vid)

    routes_differ : (vid : ℕ) → EachBefore (λ r s. AreSame r.dst s.dst → ⊥) (routes_in meant (routing_set meant vid))
    routes_differ vid =
        alike_in_sets meant (λ v. v.routes) is_same_route is_same_route Duplicate (codes "routes") (λ site. route_site site (codes "ip_dst")) (vlans_in_order raw) refl whole.routes_differ (λ r s. AreSame r.dst s.dst → ⊥)
        routes_other routes_other (λ r s other same. other (record { ip = sym same.ip; len = sym same.len })) (routing_set meant vid) (set_of meant routers_once vid)

    pub routing_valid : RoutingIsValid meant
    routing_valid = record {
      in_order = before_mapped (λ (r s : Router). IsTextBefore r.name s.name) (router_of (ordered raw)) (routers_in_order raw) routers_rise;
      vlans = router_vlans;
      once = routers_once;
      apart = routers_apart (ordered raw) whole.one_router;
      peers = router_peers;
      own_vips = own_vips_apart;
      vips = all_by _ meant.vlans (λ v cv. vips_apart v.vid);
      routes = all_by _ meant.vlans (λ v cv. routes_differ v.vid);
      each = routes_valid (ordered raw) whole.routes_lead_out;
    }
