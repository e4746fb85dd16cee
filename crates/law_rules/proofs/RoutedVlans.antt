-- VIPs and routes of VLANs that packets are routed between, rules 12 and 15.
use Rattle.std.specs.Prelude.{◌≡◌, ℕ, ◌==◌, ◌&&◌, Bool, true, false, List, [], ◌∷◌, codes, Option, Some}
use Rattle.std.specs.List.{AllByRecursion, flat_map, filter_map, list_any, zip, find}
use Rattle.std.specs.Option.{option_map_or}
use Rattle.std.proofs.Common.{◌⊎◌, inl, inr, refl, sym, ap, ◌∙◌, subst, true≢false, eqb-true, eq-eqb}
use Rattle.std.proofs.lemmas.Bool.{and_parts, and_from, or_from, or_cases, or_right}
use Rattle.conf_types.specs.declared.address.Net.{Net}
use Rattle.conf_types.specs.declared.vlan.Route.{Route}
use Rattle.conf_types.specs.declared.vlan.Router.{Router}
use Rattle.conf_types.specs.declared.vlan.Vlan.{Vlan}
use Rattle.conf_types.specs.Configuration.{Configuration, vlan_with}
use Rattle.conf_types.specs.Lists.{EachBefore, AreDistinct, is_among}
use Rattle.conf_types.specs.Networks.{AreApart, AreApartOrLocal}
use Rattle.conf_types.specs.Routing.{routing_set, vips_in, routes_in}
use Rattle.conf_shape.specs.declared.refused.ConfCause.{ConfCause}
use Rattle.conf_shape.specs.declared.refused.ConfCause.TheVariants.{Duplicate, Conflict}
use Rattle.conf_resolve.specs.declared.ordered.OrderedConf.{OrderedConf}
use Rattle.conf_resolve.specs.declared.ordered.PlacedVlan.{PlacedVlan}
use Rattle.conf_resolve.specs.Resolved.{router_of, vlan_of, resolved, vid_of}
use Rattle.conf_rules.specs.Places.{fault_if, under, each_at, with_earlier, is_repeat}
use Rattle.conf_rules.specs.Routing.{are_routed, overlap, clash, overlapping_vips, route_site, is_same_route, repeated_routes}
use Rattle.law_checks.proofs.Empty.{values_at, each_behind, none_behind}
use Rattle.law_checks.proofs.Kept.{all_empty, no_fault, is_value, none_any, repeat_free, of_earlier, empty_behind, before_unmapped}
use Rattle.law_checks.proofs.KeptNetworks.{no_overlap, no_clash, other_route, in_its_set}
use Rattle.law_checks.proofs.Members.{IsIn, of_all, all_by, all_mapped, in_mapped, among, is_one_of, any_by, some_of, finds, found, before_by, before_mapped, EachTo, flat_within, flat_across, two_of}
use Rattle.law_checks.proofs.Networks.{apart, apart_or_local, apart_back, routes_other}
use Rattle.law_checks.proofs.Once.{once_distinct}
use Rattle.law_checks.proofs.Routers.{is_alike, alike_of, within_one, behind_one}
use Rattle.law_checks.proofs.Sets.{IsSet, set_of, of_set}
use Rattle.law_rules.specs.Rules.{ShareNone, LeadApart, VipsAreApart, SetsAreApart, RoutesDiffer}

-- what VLANs have stands so to each other: by W in each VLAN alone, and by R in each two between which packets are routed
record StandSo {X : Type 0} (conf : Configuration) (f : Vlan → List X) (W R : X → X → Type 0) : Type 0 where
  pub within : AllByRecursion (λ v. EachBefore W (f v)) conf.vlans
  pub across : EachBefore (λ v w. are_routed conf v.vid w.vid ≡ true → EachTo R (f v) (f w)) conf.vlans

-- what the VLANs of these numbers have
abbrev of_all_vlans : {X : Type 0} → Configuration → (Vlan → List X) → List ℕ → List X
of_all_vlans conf f vids = flat_map (λ vid. option_map_or f (vlan_with conf.vlans vid) []) vids

-- ---- of routers and of routing sets

module _ {X : Type 0} (conf : Configuration) (f : Vlan → List X) (W R : X → X → Type 0) (weaker : (a b : X) → W a b → R a b) (back : (a b : X) → R a b → R b a) where
  abbrev of : ℕ → List X
  of vid = option_map_or f (vlan_with conf.vlans vid) []

  router_set : (r : Router) → IsIn conf.routers r → AreDistinct r.vlans → IsSet conf r.vlans
  router_set r here distinct = record {
    distinct = distinct;
    routed = λ m n i j. or_right (m == n) (list_any (λ (r : Router). is_among r.vlans m && is_among r.vlans n) conf.routers)
        (any_by (λ (r : Router). is_among r.vlans m && is_among r.vlans n) conf.routers r here (and_from (is_among r.vlans m) (is_among r.vlans n) (among r.vlans m i) (among r.vlans n j)));
  }

  module _ (once : AllByRecursion (λ r. AreDistinct r.vlans) conf.routers) (s : StandSo conf f W R) where
    alone_so : AllByRecursion (λ v. EachBefore R (f v)) conf.vlans
    alone_so = all_by (λ (v : Vlan). EachBefore R (f v)) conf.vlans (λ v cv. before_by W R (f v) (of_all (λ (v : Vlan). EachBefore W (f v)) conf.vlans s.within v cv) (λ a b ia ib r. weaker a b r))

    routers_so : AllByRecursion (λ r. EachBefore R (of_all_vlans conf f r.vlans)) conf.routers
    routers_so = all_by (λ (r : Router). EachBefore R (of_all_vlans conf f r.vlans)) conf.routers (λ r i.
        of_set conf f R back alone_so s.across r.vlans (router_set r i (of_all (λ (r : Router). AreDistinct r.vlans) conf.routers once r i)))

    sets_so : AllByRecursion (λ v. EachBefore R (of_all_vlans conf f (routing_set conf v.vid))) conf.vlans
    sets_so = all_by (λ (v : Vlan). EachBefore R (of_all_vlans conf f (routing_set conf v.vid))) conf.vlans (λ v i.
        of_set conf f R back alone_so s.across (routing_set conf v.vid) (set_of conf once v.vid))

  module _ (numbers : EachBefore (λ v w. v.vid ≡ w.vid → ⊥) conf.vlans) where
    one_vlan : (v w : Vlan) → IsIn conf.vlans v → IsIn conf.vlans w → v.vid ≡ w.vid → v ≡ w
    one_vlan v w cv cw same = by (two_of (λ (v w : Vlan). v.vid ≡ w.vid → ⊥) conf.vlans numbers v w cv cw)
      where
        by : (v ≡ w) ⊎ ((v.vid ≡ w.vid → ⊥) ⊎ (w.vid ≡ v.vid → ⊥)) → v ≡ w
        by (inl e) = e
        by (inr (inl other)) = absurd (other same)
        by (inr (inr other)) = absurd (other (sym same))

    its_vlan : (v : Vlan) → IsIn conf.vlans v → vlan_with conf.vlans v.vid ≡ Some v
    its_vlan v cv =
        let g = finds (λ (w : Vlan). w.vid == v.vid) conf.vlans v cv (eq-eqb v.vid v.vid refl) in
        let h = found (λ (w : Vlan). w.vid == v.vid) conf.vlans g.0 g.1 in
        g.1 ∙ ap Some (one_vlan g.0 v h.0 cv (eqb-true g.0.vid v.vid h.1))

    of_its : (v : Vlan) → IsIn conf.vlans v → of v.vid ≡ f v
    of_its v cv = ap (λ (o : Option Vlan). option_map_or f o []) (its_vlan v cv)

    -- of two VLANs among others
    of_two : (vids : List ℕ) → EachBefore R (of_all_vlans conf f vids) → (v w : Vlan) → IsIn conf.vlans v → IsIn conf.vlans w → (v.vid ≡ w.vid → ⊥) → IsIn vids v.vid → IsIn vids w.vid → EachTo R (f v) (f w)
    of_two vids so v w cv cw other iv iw = by (two_of (λ (m n : ℕ). EachTo R (of m) (of n)) vids (flat_across R of vids so) v.vid w.vid iv iw)
      where
        by : (v.vid ≡ w.vid) ⊎ (EachTo R (of v.vid) (of w.vid) ⊎ EachTo R (of w.vid) (of v.vid)) → EachTo R (f v) (f w)
        by (inl e) = absurd (other e)
        by (inr (inl each)) = λ a b i j. each a b (subst (λ l. IsIn l a) (sym (of_its v cv)) i) (subst (λ l. IsIn l b) (sym (of_its w cw)) j)
        by (inr (inr each)) = λ a b i j. back b a (each b a (subst (λ l. IsIn l b) (sym (of_its w cw)) j) (subst (λ l. IsIn l a) (sym (of_its v cv)) i))

    -- of two VLANs of a router
    of_routed : ((r : Router) → IsIn conf.routers r → (v : Vlan) → IsIn conf.vlans v → IsIn r.vlans v.vid → EachBefore R (of_all_vlans conf f r.vlans))
        → EachBefore (λ v w. are_routed conf v.vid w.vid ≡ true → EachTo R (f v) (f w)) conf.vlans
    of_routed so = before_by (λ (v w : Vlan). v.vid ≡ w.vid → ⊥) (λ v w. are_routed conf v.vid w.vid ≡ true → EachTo R (f v) (f w)) conf.vlans numbers (λ v w cv cw other routed. by_router v w cv cw other routed)
      where
        in_router : (v w : Vlan) → IsIn conf.vlans v → IsIn conf.vlans w → (v.vid ≡ w.vid → ⊥)
            → ((v.vid == w.vid) ≡ true) ⊎ (list_any (λ (r : Router). is_among r.vlans v.vid && is_among r.vlans w.vid) conf.routers ≡ true) → EachTo R (f v) (f w)
        in_router v w cv cw other (inl same) = absurd (other (eqb-true v.vid w.vid same))
        in_router v w cv cw other (inr is) =
            let m = some_of (λ (r : Router). is_among r.vlans v.vid && is_among r.vlans w.vid) conf.routers is in
            let parts = and_parts (is_among m.0.vlans v.vid) (is_among m.0.vlans w.vid) m.2 in
            let iv = is_one_of m.0.vlans v.vid parts.0 in
            of_two m.0.vlans (so m.0 m.1 v cv iv) v w cv cw other iv (is_one_of m.0.vlans w.vid parts.1)

        by_router : (v w : Vlan) → IsIn conf.vlans v → IsIn conf.vlans w → (v.vid ≡ w.vid → ⊥) → are_routed conf v.vid w.vid ≡ true → EachTo R (f v) (f w)
        by_router v w cv cw other routed = in_router v w cv cw other (or_cases (v.vid == w.vid) (list_any (λ (r : Router). is_among r.vlans v.vid && is_among r.vlans w.vid) conf.routers) routed)

    so_of_routers : AllByRecursion (λ v. EachBefore W (f v)) conf.vlans → AllByRecursion (λ r. EachBefore R (of_all_vlans conf f r.vlans)) conf.routers → StandSo conf f W R
    so_of_routers alone together = record {
      within = alone;
      across = of_routed (λ r i v cv iv. of_all (λ (r : Router). EachBefore R (of_all_vlans conf f r.vlans)) conf.routers together r i);
    }

    -- ---- of routing sets, where no VLAN is in two routers

    module _ (shared : EachBefore ShareNone conf.routers) where
      -- a VLAN's router is the one that has it
      its_router : (r : Router) → IsIn conf.routers r → (vid : ℕ) → IsIn r.vlans vid → routing_set conf vid ≡ r.vlans
      its_router r cr vid i = ap (λ (o : Option Router). option_map_or (λ router. router.vlans) o (vid ∷ [])) g.1 ∙ by (two_of ShareNone conf.routers shared r g.0 cr h.0)
        where
          g : (s : Router) × (find (λ (r : Router). is_among r.vlans vid) conf.routers ≡ Some s)
          g = finds (λ (r : Router). is_among r.vlans vid) conf.routers r cr (among r.vlans vid i)

          h : IsIn conf.routers g.0 × (is_among g.0.vlans vid ≡ true)
          h = found (λ (r : Router). is_among r.vlans vid) conf.routers g.0 g.1

          by : (r ≡ g.0) ⊎ (ShareNone r g.0 ⊎ ShareNone g.0 r) → g.0.vlans ≡ r.vlans
          by (inl e) = ap (λ (r : Router). r.vlans) (sym e)
          by (inr (inl all)) = absurd (true≢false (sym h.1 ∙ of_all (λ vid. is_among g.0.vlans vid ≡ false) r.vlans all vid i))
          by (inr (inr all)) = absurd (true≢false (sym (among r.vlans vid i) ∙ of_all (λ vid. is_among r.vlans vid ≡ false) g.0.vlans all vid (is_one_of g.0.vlans vid h.1)))

      -- what routing sets say of each VLAN alone
      alone_of_sets : AllByRecursion (λ v. EachBefore R (of_all_vlans conf f (routing_set conf v.vid))) conf.vlans → AllByRecursion (λ v. EachBefore R (f v)) conf.vlans
      alone_of_sets sets = all_by (λ (v : Vlan). EachBefore R (f v)) conf.vlans (λ v cv.
          subst (EachBefore R) (of_its v cv) (of_all (λ vid. EachBefore R (of vid)) (routing_set conf v.vid)
          (flat_within R of (routing_set conf v.vid) (of_all (λ (v : Vlan). EachBefore R (of_all_vlans conf f (routing_set conf v.vid))) conf.vlans sets v cv)) v.vid (in_its_set conf v.vid)))

      so_of_sets : AllByRecursion (λ v. EachBefore W (f v)) conf.vlans → AllByRecursion (λ v. EachBefore R (of_all_vlans conf f (routing_set conf v.vid))) conf.vlans → StandSo conf f W R
      so_of_sets alone sets = record {
        within = alone;
        across = of_routed (λ r cr v cv iv. subst (λ (vids : List ℕ). EachBefore R (of_all_vlans conf f vids)) (its_router r cr v.vid iv) (its_set v cv));
      }
        where
          its_set : (v : Vlan) → IsIn conf.vlans v → EachBefore R (of_all_vlans conf f (routing_set conf v.vid))
          its_set v cv = of_all (λ (v : Vlan). EachBefore R (of_all_vlans conf f (routing_set conf v.vid))) conf.vlans sets v cv

-- ---- the rules

module _ (o : OrderedConf) where
  abbrev conf : Configuration
  conf = resolved o

  abbrev vlan : PlacedVlan → Vlan
  vlan v = vlan_of v.vlan

  once : AllByRecursion (λ r. AreDistinct r.vlans) conf.routers
  once = all_mapped (λ (r : Router). AreDistinct r.vlans) (router_of o) o.routers (all_by _ o.routers (λ r cr. once_distinct (filter_map (vid_of o.vlans) r.vlans)))

  module _ {X : Type 0} (f : Vlan → List X) (across within : X → X → Bool) (cause : ConfCause) (key : List ℕ) (place : List (List ℕ) → List (List ℕ)) (W R : X → X → Type 0) where
    -- none is found alike where all stand so
    none_alike : ((a b : X) → R a b → across a b ≡ false) → ((a b : X) → W a b → within a b ≡ false) → StandSo conf f W R → flat_map (alike_of conf f across within cause key place) (zip o.vlans (with_earlier [] conf.vlans)) ≡ []
    none_alike told own so =
        empty_behind vlan (λ (u : Vlan) (v : PlacedVlan). are_routed conf u.vid (vlan v).vid ≡ true → EachTo (λ a b. across a b ≡ false) (f u) (f (vlan v))) (alike_of conf f across within cause key place) [] o.vlans
        (λ v cv e behind. all_empty (λ (item : List (List ℕ) × (List X × X)). fault_if (is_alike conf f across within cause key place (e, vlan v) item.1) cause (place item.0)) (each_at (under v.site key) (with_earlier [] (f (vlan v)))) (λ item i.
        let at = is_value (each_at (under v.site key) (with_earlier [] (f (vlan v)))) (with_earlier [] (f (vlan v))) (values_at (under v.site key) (with_earlier [] (f (vlan v)))) item i in
        no_fault (is_alike conf f across within cause key place (e, vlan v) item.1) cause (place item.0)
        (or_from (list_any (λ w. are_routed conf w.vid (vlan v).vid && list_any (λ other. across other item.1.1) (f w)) e) (is_repeat within item.1)
        (none_any (λ w. are_routed conf w.vid (vlan v).vid && list_any (λ other. across other item.1.1) (f w)) e (λ u cu. not_from u (vlan v) item.1.1 (of_earlier [] (f (vlan v)) item.1 at) (are_routed conf u.vid (vlan v).vid) refl (behind u cu)))
        (repeat_free within (f (vlan v)) (before_by W (λ a b. within a b ≡ false) (f (vlan v)) (of_all (λ (v : Vlan). EachBefore W (f v)) conf.vlans so.within (vlan v) (in_mapped vlan o.vlans v cv)) (λ a b ia ib r. own a b r)) item.1 at))))
        (record {
          among = before_by (λ (v w : PlacedVlan). are_routed conf (vlan v).vid (vlan w).vid ≡ true → EachTo R (f (vlan v)) (f (vlan w)))
              (λ v w. are_routed conf (vlan v).vid (vlan w).vid ≡ true → EachTo (λ a b. across a b ≡ false) (f (vlan v)) (f (vlan w))) o.vlans
              (before_unmapped (λ (v w : Vlan). are_routed conf v.vid w.vid ≡ true → EachTo R (f v) (f w)) vlan o.vlans so.across)
              (λ v w cv cw each routed a b ia ib. told a b (each routed a b ia ib));
          across = λ b y i j. absurd i;
        })
      where
        not_from : (u w : Vlan) (x : X) → IsIn (f w) x → (t : Bool) → are_routed conf u.vid w.vid ≡ t → (are_routed conf u.vid w.vid ≡ true → EachTo (λ a b. across a b ≡ false) (f u) (f w)) → (t && list_any (λ other. across other x) (f u)) ≡ false
        not_from u w x i false is each = refl
        not_from u w x i true is each = none_any (λ other. across other x) (f u) (λ other j. each is other x j i)

    -- and where none is found alike, all do
    stand_so : ((a b : X) → across a b ≡ false → R a b) → ((a b : X) → within a b ≡ false → W a b) → flat_map (alike_of conf f across within cause key place) (zip o.vlans (with_earlier [] conf.vlans)) ≡ [] → StandSo conf f W R
    stand_so told own none = record {
      within = all_mapped (λ (v : Vlan). EachBefore W (f v)) vlan o.vlans (all_by _ o.vlans (λ v i.
          let m = of_all (λ (v : PlacedVlan). (e : List Vlan) × (alike_of conf f across within cause key place (v, (e, vlan v)) ≡ [])) o.vlans (none_behind vlan (alike_of conf f across within cause key place) [] o.vlans none) v i in
          before_by (λ a b. within a b ≡ false) W (f (vlan v)) (within_one conf f across within cause key place v m.0 (vlan v) m.1) (λ a b ia ib not. own a b not)));
      across = before_mapped (λ (v w : Vlan). are_routed conf v.vid w.vid ≡ true → EachTo R (f v) (f w)) vlan o.vlans
          (each_behind vlan (λ (u : Vlan) (v : PlacedVlan). are_routed conf u.vid (vlan v).vid ≡ true → EachTo R (f u) (f (vlan v))) (alike_of conf f across within cause key place) [] o.vlans
          (λ v e here u cu routed a b ia ib. told a b (behind_one conf f across within cause key place v e (vlan v) here u cu routed a b ia ib)) none).among;
    }

  -- ---- rule 12

  vips_so : overlapping_vips o conf ≡ [] → StandSo conf (λ v. v.vips) AreApart AreApartOrLocal
  vips_so none = stand_so (λ v. v.vips) clash overlap (Conflict 12) (codes "faucet_vips") (λ site. site) AreApart AreApartOrLocal apart_or_local apart none

  so_vips : StandSo conf (λ v. v.vips) AreApart AreApartOrLocal → overlapping_vips o conf ≡ []
  so_vips so = none_alike (λ v. v.vips) clash overlap (Conflict 12) (codes "faucet_vips") (λ site. site) AreApart AreApartOrLocal no_clash no_overlap so

  either_way : (a b : Net) → AreApart a b → AreApartOrLocal a b
  either_way a b r local = r

  pub vips_of_routers : overlapping_vips o conf ≡ [] → VipsAreApart conf
  vips_of_routers none = record { alone = (vips_so none).within; together = routers_so conf (λ v. v.vips) AreApart AreApartOrLocal either_way apart_back once (vips_so none) }

  pub vips_of_sets : overlapping_vips o conf ≡ [] → SetsAreApart conf
  vips_of_sets none = record { alone = (vips_so none).within; together = sets_so conf (λ v. v.vips) AreApart AreApartOrLocal either_way apart_back once (vips_so none) }

  -- ---- rule 15

  turned : (r s : Route) → LeadApart r s → LeadApart s r
  turned r s other same = other (record { ip = sym same.ip; len = sym same.len })

  itself : (r s : Route) → LeadApart r s → LeadApart r s
  itself r s other = other

  routes_so : repeated_routes o conf ≡ [] → StandSo conf (λ v. v.routes) LeadApart LeadApart
  routes_so none = stand_so (λ v. v.routes) is_same_route is_same_route Duplicate (codes "routes") (λ site. route_site site (codes "ip_dst")) LeadApart LeadApart routes_other routes_other none

  so_routes : StandSo conf (λ v. v.routes) LeadApart LeadApart → repeated_routes o conf ≡ []
  so_routes so = none_alike (λ v. v.routes) is_same_route is_same_route Duplicate (codes "routes") (λ site. route_site site (codes "ip_dst")) LeadApart LeadApart other_route other_route so

  pub routes_of_routers : repeated_routes o conf ≡ [] → RoutesDiffer conf
  routes_of_routers none = record { alone = (routes_so none).within; together = routers_so conf (λ v. v.routes) LeadApart LeadApart itself turned once (routes_so none) }

  pub routes_of_sets : repeated_routes o conf ≡ [] → AllByRecursion (λ v. EachBefore LeadApart (routes_in conf (routing_set conf v.vid))) conf.vlans
  routes_of_sets none = sets_so conf (λ v. v.routes) LeadApart LeadApart itself turned once (routes_so none)

  -- ---- and back, where VLANs have different numbers

  module _ (numbers : EachBefore (λ v w. v.vid ≡ w.vid → ⊥) conf.vlans) where
    pub routers_vips : VipsAreApart conf → overlapping_vips o conf ≡ []
    routers_vips are = so_vips (so_of_routers conf (λ v. v.vips) AreApart AreApartOrLocal either_way apart_back numbers are.alone are.together)

    pub routers_routes : RoutesDiffer conf → repeated_routes o conf ≡ []
    routers_routes are = so_routes (so_of_routers conf (λ v. v.routes) LeadApart LeadApart itself turned numbers are.alone are.together)

    module _ (shared : EachBefore ShareNone conf.routers) where
      pub sets_vips : SetsAreApart conf → overlapping_vips o conf ≡ []
      sets_vips are = so_vips (so_of_sets conf (λ v. v.vips) AreApart AreApartOrLocal either_way apart_back numbers shared are.alone are.together)

      pub sets_routes : AllByRecursion (λ v. EachBefore LeadApart (routes_in conf (routing_set conf v.vid))) conf.vlans → repeated_routes o conf ≡ []
      sets_routes sets = so_routes (so_of_sets conf (λ v. v.routes) LeadApart LeadApart itself turned numbers shared (alone_of_sets conf (λ v. v.routes) LeadApart LeadApart itself turned numbers shared sets) sets)
