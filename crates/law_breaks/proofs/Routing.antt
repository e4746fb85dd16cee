-- Rules 12 to 15: what is found of networks, routes and routers.
use Rattle.std.specs.Prelude.{◌≡◌, ℕ, ◌==◌, ◌&&◌, ◌||◌, Bool, true, false, not, if◌then◌else◌, List, [], ◌∷◌, codes, nat_le}
use Rattle.std.specs.List.{list_any, zip}
use Rattle.std.proofs.Common.{◌⊎◌, inl, inr, refl, sym, ap, ◌∙◌, subst, eqb-true}
use Rattle.std.proofs.lemmas.Bool.{or_cases, and_parts, leb-true, not-true}
use Rattle.yaml_tree.specs.declared.tree.Tree.{Tree}
use Rattle.conf_types.specs.declared.address.Net.{Net}
use Rattle.conf_types.specs.declared.vlan.Route.{Route}
use Rattle.conf_types.specs.declared.vlan.Router.{Router}
use Rattle.conf_types.specs.declared.vlan.Vlan.{Vlan}
use Rattle.conf_types.specs.Configuration.{Configuration}
use Rattle.conf_types.specs.Families.{is_same_family, is_same_ip, address_of, len_of}
use Rattle.conf_types.specs.Lists.{is_among}
use Rattle.conf_types.specs.Networks.{LiesIn, AreSame, is_held, is_link_local, is_neighbour_address}
use Rattle.conf_types.specs.Routing.{routing_set, vips_in}
use Rattle.conf_types.proofs.Families.{same_ip, held, holds_own}
use Rattle.conf_shape.specs.declared.raw.RawConf.{RawConf}
use Rattle.conf_shape.specs.declared.raw.RawVlan.{RawVlan}
use Rattle.conf_shape.specs.declared.refused.ConfCause.TheVariants.{Duplicate, Conflict}
use Rattle.conf_resolve.specs.declared.ordered.OrderedConf.{OrderedConf}
use Rattle.conf_resolve.specs.declared.ordered.PlacedVlan.{PlacedVlan}
use Rattle.conf_resolve.specs.InOrder.{router_site, ordered}
use Rattle.conf_resolve.specs.Resolved.{to_list, vid_of, vlan_of, router_of, resolved}
use Rattle.conf_rules.specs.Names.{routed_at}
use Rattle.conf_rules.specs.Places.{fault_if, under, each_at, vlans_of, with_earlier, is_repeat}
use Rattle.conf_rules.specs.Routing.{are_routed, vlans_behind, overlap, clash, overlaps_earlier, overlapping_vip, overlapping_of_vlan, overlapping_vips, is_in_router, routed_twice, shared_of_router, shared_vlans, lies_in, route_site, leads_inside, is_gateway, wrong_route, wrong_routes_of, wrong_routes, is_same_route, repeats_earlier, repeated_route, repeated_of_vlan, repeated_routes}
use Rattle.law_checks.specs.Says.{Says, RouteSays}
use Rattle.law_checks.specs.Values.{IsAddress, IsNetwork, IsMap}
use Rattle.law_checks.proofs.Empty.{values_at}
use Rattle.law_checks.proofs.Kept.{is_value, of_zipped}
use Rattle.law_checks.proofs.Members.{IsIn, of_mapped, of_kept, some_of, is_one_of}
use Rattle.law_checks.proofs.Once.{of_once}
use Rattle.law_documents.proofs.Leads.{Reaches, onward, there, needed, behind_earlier}
use Rattle.law_documents.proofs.Parts.{router_leads}
use Rattle.law_documents.proofs.Routing.{of_zip_behind, route_leads, vip_at, route_at}
use Rattle.law_documents.proofs.Vlans.{VlanAt, routed_leads}
use Rattle.law_breaks.specs.Found.{PathsBreak, ToldAs}
use Rattle.law_breaks.specs.Routing.{AreRouted, Meets, Overlap, Clash, OverlapsVip, RoutesAgain, IsOfRoute, IsWrongRoute, RepeatsRoute}
use Rattle.law_breaks.proofs.Found.{told_if, each, both, contains, split, split_zip, before_it, item_of, some_is}

-- ---- what the tests say

overlaps : (a b : Net) → overlap a b ≡ true → Overlap a b
overlaps a b is = by (nat_le (len_of a) (len_of b)) is
  where
    by : (c : Bool) → (if c then is_held a (address_of b) else is_held b (address_of a)) ≡ true → Overlap a b
    by true is = (address_of b, held a (address_of b) is, holds_own b)
    by false is = (address_of a, holds_own a, held b (address_of a) is)

clashes : (a b : Net) → clash a b ≡ true → Clash a b
clashes a b is =
    let p = and_parts (overlap a b) (not (is_link_local a && is_link_local b)) is in
    (overlaps a b p.0, not-true (is_link_local a && is_link_local b) p.1)

same_routes : (a b : Route) → is_same_route a b ≡ true → AreSame a.dst b.dst
same_routes a b is =
    let p = and_parts (is_same_ip (address_of a.dst) (address_of b.dst)) (len_of a.dst == len_of b.dst) is in
    record { ip = same_ip (address_of a.dst) (address_of b.dst) p.0; len = eqb-true (len_of a.dst) (len_of b.dst) p.1 }

inside : (a b : Net) → lies_in a b ≡ true → LiesIn a b
inside a b is =
    let p = and_parts (nat_le (len_of b) (len_of a)) (is_held b (address_of a)) is in
    record { longer = leb-true (len_of b) (len_of a) p.0; inside = held b (address_of a) p.1 }

-- one of two doesn't hold
one_fails : (a b : Bool) → (a && b) ≡ false → (a ≡ false) ⊎ (b ≡ false)
one_fails false b is = inl refl
one_fails true b is = inr is

routed : (conf : Configuration) (v w : ℕ) → are_routed conf v w ≡ true → AreRouted conf v w
routed conf v w is = by (or_cases (v == w) (list_any (λ (r : Router). is_among r.vlans v && is_among r.vlans w) conf.routers) is)
  where
    by : ((v == w) ≡ true) ⊎ (list_any (λ (r : Router). is_among r.vlans v && is_among r.vlans w) conf.routers ≡ true) → AreRouted conf v w
    by (inl one) = inl (eqb-true v w one)
    by (inr any) =
        let s = some_of (λ (r : Router). is_among r.vlans v && is_among r.vlans w) conf.routers any in
        let p = and_parts (is_among s.0.vlans v) (is_among s.0.vlans w) s.2 in
        inr (record { router = s.0; is_router = contains conf.routers s.0 s.1; one = p.0; other = p.1 })

module _ (o : OrderedConf) where
  abbrev conf : Configuration
  conf = resolved o

  abbrev stands_for : PlacedVlan → Vlan
  stands_for v = vlan_of v.vlan

  -- ---- an item that has something in common with an earlier one

  module _ {A : Type 0} (raw_list : RawVlan → List A) (list_of : Vlan → List A) (lists : (v : RawVlan) → list_of (vlan_of v) ≡ raw_list v)
      (across within : A → A → Bool) (Across Within : A → A → Type 0) (meant : (a b : A) → across a b ≡ true → Across a b) (own : (a b : A) → within a b ≡ true → Within a b) where
    abbrev Earlier : Vlan → A → Vlan → Bool
    Earlier v x w = are_routed conf w.vid v.vid && list_any (λ other. across other x) (list_of w)

    meets : (v : PlacedVlan × (List Vlan × Vlan)) → IsIn (vlans_behind o conf) v → (x : List A × A) → IsIn (with_earlier [] (raw_list v.0.vlan)) x
        → (list_any (Earlier v.1.1 x.1) v.1.0 || is_repeat within x) ≡ true → Meets o conf v.0 raw_list Across Within x.1
    meets v i x j is = by (or_cases (list_any (Earlier v.1.1 x.1) v.1.0) (is_repeat within x) is)
      where
        of_earlier : list_any (Earlier v.1.1 x.1) v.1.0 ≡ true → Meets o conf v.0 raw_list Across Within x.1
        of_earlier any =
            let s = some_of (Earlier v.1.1 x.1) v.1.0 any in
            let p = and_parts (are_routed conf s.0.vid v.1.1.vid) (list_any (λ other. across other x.1) (list_of s.0)) s.2 in
            let q = some_of (λ other. across other x.1) (list_of s.0) p.1 in
            let z = split_zip stands_for [] o.vlans v i in
            let m = of_mapped stands_for z.0 s.0 (subst (λ (l : List Vlan). IsIn l s.0) (sym z.3) s.1) in
            let itself = (of_zip_behind stands_for [] o.vlans v i).1 in
            let has : IsIn (raw_list m.0.vlan) q.0 = subst (λ (l : List A). IsIn l q.0) (ap list_of (sym m.2) ∙ lists m.0.vlan) q.1 in
            let between : AreRouted conf s.0.vid v.1.1.vid = routed conf s.0.vid v.1.1.vid p.0 in
            record {
              other = q.0;
              agree = inr (
                record {
                  vlan = m.0;
                  earlier = before_it o.vlans z.0 z.1 m.0 v.0 z.2 m.1;
                  routed = subst (λ (w : Vlan). AreRouted conf m.0.vlan.vid w.vid) (sym itself) (subst (λ (w : Vlan). AreRouted conf w.vid v.1.1.vid) (sym m.2) between);
                  has = contains (raw_list m.0.vlan) q.0 has;
                },
                meant q.0 x.1 q.2,
              );
            }

        by : (list_any (Earlier v.1.1 x.1) v.1.0 ≡ true) ⊎ (is_repeat within x ≡ true) → Meets o conf v.0 raw_list Across Within x.1
        by (inl any) = of_earlier any
        by (inr again) =
            let s = some_of (λ y. within y x.1) x.0 again in
            let m = split [] (raw_list v.0.vlan) x j in
            record { other = s.0; agree = inl (before_it (raw_list v.0.vlan) x.0 m.0 s.0 x.1 m.1 s.1, own s.0 x.1 s.2) }

module _ (t : Tree) (raw : RawConf) (says : Says t raw) where
  abbrev o : OrderedConf
  o = ordered raw

  abbrev its_conf : Configuration
  its_conf = resolved o

  -- ---- rule 12

  pub rule12 : PathsBreak t (ToldAs (Conflict 12) (OverlapsVip (ordered raw) (resolved (ordered raw)))) (overlapping_vips (ordered raw) (resolved (ordered raw)))
  rule12 = each t (ToldAs (Conflict 12) (OverlapsVip o its_conf)) (overlapping_of_vlan its_conf) (vlans_behind o its_conf) (λ v i.
      let z = of_zip_behind (λ (v : PlacedVlan). vlan_of v.vlan) [] o.vlans v i in
      let site = under v.0.site (codes "faucet_vips") in
      each t (ToldAs (Conflict 12) (OverlapsVip o its_conf)) (overlapping_vip its_conf v.1) (each_at site (with_earlier [] v.1.1.vips)) (λ vip j.
      let here : IsIn (each_at site (with_earlier [] v.0.vlan.vips)) vip = subst (λ (w : Vlan). IsIn (each_at site (with_earlier [] w.vips)) vip) (sym z.1) j in
      let it : List (List ℕ) × Net = (vip.0, vip.1.1) in
      let among = behind_earlier site [] v.0.vlan.vips vip here in
      told_if t (OverlapsVip o its_conf) (overlaps_earlier its_conf v.1 vip.1) (Conflict 12) vip.0 (λ is.
      there t vip.0 (λ w. IsNetwork w vip.1.1) (OverlapsVip o its_conf vip.0) (vip_at t raw says v.0 z.0 it among) (λ u spelled. record {
        placed = v.0;
        is_vlan = contains o.vlans v.0 z.0;
        vip = vip.1.1;
        item = item_of site v.0.vlan.vips it among;
        spelled = spelled;
        meets = meets o (λ w. w.vips) (λ w. w.vips) (λ w. refl) clash overlap Clash Overlap clashes overlaps v i vip.1 (is_value (each_at site (with_earlier [] v.0.vlan.vips)) (with_earlier [] v.0.vlan.vips) (values_at site (with_earlier [] v.0.vlan.vips)) vip here) is;
      }))))

  -- ---- rule 13

  pub rule13 : PathsBreak t (ToldAs (Conflict 13) (RoutesAgain (ordered raw))) (shared_vlans (ordered raw) (resolved (ordered raw)))
  rule13 = each t (ToldAs (Conflict 13) (RoutesAgain o)) (shared_of_router o) (zip o.routers (with_earlier [] its_conf.routers)) (λ r i.
      let z = of_zip_behind (router_of o) [] o.routers r i in
      let s = split_zip (router_of o) [] o.routers r i in
      each t (ToldAs (Conflict 13) (RoutesAgain o)) (routed_twice o r.1.0) (routed_at r.0) (λ item j.
      each t (ToldAs (Conflict 13) (RoutesAgain o)) (λ vid. fault_if (list_any (is_in_router vid) r.1.0) (Conflict 13) item.0) (to_list (vid_of o.vlans item.1)) (λ vid k.
      told_if t (RoutesAgain o) (list_any (is_in_router vid) r.1.0) (Conflict 13) item.0 (λ is.
      let e = some_of (is_in_router vid) r.1.0 is in
      let m = of_mapped (router_of o) s.0 e.0 (subst (λ (l : List Router). IsIn l e.0) (sym s.3) e.1) in
      let named = of_kept (vid_of o.vlans) m.0.vlans vid (of_once _ vid (is_one_of (router_of o m.0).vlans vid (ap (λ (w : Router). is_among w.vlans vid) m.2 ∙ e.2))) in
      there t item.0 (λ u. VlanAt u item.1) (RoutesAgain o item.0) (routed_leads t r.0 (router_leads t raw says r.0 z.0) item j) (λ u names. record {
        router = r.0;
        ref = item.1;
        item = item_of (under (router_site r.0) (codes "vlans")) r.0.vlans item j;
        names = names;
        earlier = m.0;
        order = before_it o.routers s.0 s.1 m.0 r.0 s.2 m.1;
        other = named.0;
        is_other = contains m.0.vlans named.0 named.1;
        one = (vid, named.2, some_is (vid_of o.vlans item.1) vid k);
      })))))

  -- ---- rules 14 and 15

  module _ (v : PlacedVlan) (c : IsIn (ordered raw).vlans v) (r : List (List ℕ) × Route) (j : IsIn (each_at (under v.site (codes "routes")) v.vlan.routes) r) where
    abbrev of_route : (key : List ℕ) → IsOfRoute o key (route_site r.0 key)
    of_route key = record { placed = v; is_vlan = contains o.vlans v c; route = r.1; site = r.0; item = item_of (under v.site (codes "routes")) v.vlan.routes r j; path = refl }

    at_route : Reaches t (under r.0 (codes "route")) (λ u. IsMap RouteSays u r.1)
    at_route = route_leads t r.0 r.1 (route_at t raw says v c r j)

    dst_found : Reaches t (route_site r.0 (codes "ip_dst")) (λ w. IsNetwork w r.1.dst)
    dst_found = onward t (under r.0 (codes "route")) (λ u. IsMap RouteSays u r.1) (codes "ip_dst" ∷ []) (λ w. IsNetwork w r.1.dst) at_route (λ u m. needed u (codes "ip_dst") (λ w. IsNetwork w r.1.dst) m.0 m.1 m.2.dst)

    gw_found : Reaches t (route_site r.0 (codes "ip_gw")) (λ w. IsAddress w r.1.gw)
    gw_found = onward t (under r.0 (codes "route")) (λ u. IsMap RouteSays u r.1) (codes "ip_gw" ∷ []) (λ w. IsAddress w r.1.gw) at_route (λ u m. needed u (codes "ip_gw") (λ w. IsAddress w r.1.gw) m.0 m.1 m.2.gw)

    wrong : PathsBreak t (ToldAs (Conflict 14) (IsWrongRoute o its_conf)) (wrong_route its_conf (vlan_of v.vlan) r)
    wrong =
        both t (ToldAs (Conflict 14) (IsWrongRoute o its_conf))
        (fault_if (leads_inside its_conf v.vlan.vid r.1.dst) (Conflict 14) (route_site r.0 (codes "ip_dst")))
        (fault_if (not (is_gateway (vlan_of v.vlan) r.1)) (Conflict 14) (route_site r.0 (codes "ip_gw")))
        (told_if t (IsWrongRoute o its_conf) (leads_inside its_conf v.vlan.vid r.1.dst) (Conflict 14) (route_site r.0 (codes "ip_dst")) (λ is.
        let s = some_of (lies_in r.1.dst) (vips_in its_conf (routing_set its_conf v.vlan.vid)) is in
        there t (route_site r.0 (codes "ip_dst")) (λ w. IsNetwork w r.1.dst) (IsWrongRoute o its_conf (route_site r.0 (codes "ip_dst"))) dst_found (λ u spelled. inl (record {
          at = of_route (codes "ip_dst");
          spelled = spelled;
          vip = s.0;
          is_vip = contains (vips_in its_conf (routing_set its_conf v.vlan.vid)) s.0 s.1;
          inside = inside r.1.dst s.0 s.2;
        }))))
        (told_if t (IsWrongRoute o its_conf) (not (is_gateway (vlan_of v.vlan) r.1)) (Conflict 14) (route_site r.0 (codes "ip_gw")) (λ is.
        there t (route_site r.0 (codes "ip_gw")) (λ w. IsAddress w r.1.gw) (IsWrongRoute o its_conf (route_site r.0 (codes "ip_gw"))) gw_found (λ u spelled. inr (record {
          at = of_route (codes "ip_gw");
          spelled = spelled;
          no_neighbour = one_fails (is_neighbour_address v.vlan.vips r.1.gw) (is_same_family r.1.gw (address_of r.1.dst)) (not-true (is_gateway (vlan_of v.vlan) r.1) is);
        }))))

  pub rule14 : PathsBreak t (ToldAs (Conflict 14) (IsWrongRoute (ordered raw) (resolved (ordered raw)))) (wrong_routes (ordered raw) (resolved (ordered raw)))
  rule14 = each t (ToldAs (Conflict 14) (IsWrongRoute o its_conf)) (wrong_routes_of its_conf) (vlans_of o its_conf) (λ v i.
      let z = of_zipped (λ (v : PlacedVlan). vlan_of v.vlan) o.vlans v i in
      each t (ToldAs (Conflict 14) (IsWrongRoute o its_conf)) (wrong_route its_conf v.1) (each_at (under v.0.site (codes "routes")) v.1.routes) (λ r j.
      subst (λ (w : Vlan). PathsBreak t (ToldAs (Conflict 14) (IsWrongRoute o its_conf)) (wrong_route its_conf w r)) z.1
      (wrong v.0 z.0 r (subst (λ (w : Vlan). IsIn (each_at (under v.0.site (codes "routes")) w.routes) r) (sym z.1) j))))

  pub rule15 : PathsBreak t (ToldAs Duplicate (RepeatsRoute (ordered raw) (resolved (ordered raw)))) (repeated_routes (ordered raw) (resolved (ordered raw)))
  rule15 = each t (ToldAs Duplicate (RepeatsRoute o its_conf)) (repeated_of_vlan its_conf) (vlans_behind o its_conf) (λ v i.
      let z = of_zip_behind (λ (v : PlacedVlan). vlan_of v.vlan) [] o.vlans v i in
      let site = under v.0.site (codes "routes") in
      each t (ToldAs Duplicate (RepeatsRoute o its_conf)) (repeated_route its_conf v.1) (each_at site (with_earlier [] v.1.1.routes)) (λ r j.
      let here : IsIn (each_at site (with_earlier [] v.0.vlan.routes)) r = subst (λ (w : Vlan). IsIn (each_at site (with_earlier [] w.routes)) r) (sym z.1) j in
      let it : List (List ℕ) × Route = (r.0, r.1.1) in
      let among = behind_earlier site [] v.0.vlan.routes r here in
      let path = route_site r.0 (codes "ip_dst") in
      told_if t (RepeatsRoute o its_conf) (repeats_earlier its_conf v.1 r.1) Duplicate path (λ is.
      there t path (λ w. IsNetwork w r.1.1.dst) (RepeatsRoute o its_conf path) (dst_found v.0 z.0 it among) (λ u spelled. record {
        at = of_route v.0 z.0 it among (codes "ip_dst");
        spelled = spelled;
        meets = meets o (λ w. w.routes) (λ w. w.routes) (λ w. refl) is_same_route is_same_route (λ a b. AreSame a.dst b.dst) (λ a b. AreSame a.dst b.dst) same_routes same_routes v i r.1 (is_value (each_at site (with_earlier [] v.0.vlan.routes)) (with_earlier [] v.0.vlan.routes) (values_at site (with_earlier [] v.0.vlan.routes)) r here) is;
      }))))
