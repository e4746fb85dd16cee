-- No rule on routing is broken where what it asks holds.
use Rattle.std.specs.Prelude.{◌≡◌, ℕ, ◌<◌, ◌==◌, ◌&&◌, Bool, true, false, not, List, [], ◌∷◌, codes, Option, Some, None, IsTrue, nat_le, if◌then◌else◌}
use Rattle.std.specs.List.{AllByRecursion, flat_map, filter_map, list_any, zip, find}
use Rattle.std.specs.Option.{option_map_or}
use Rattle.std.proofs.Common.{◌⊎◌, inl, inr, refl, sym, ap, ◌∙◌, subst, true≢false, arith, eqb-true, eq-eqb}
use Rattle.std.proofs.lemmas.Bool.{and_parts, and_from, or_from, or_cases, leb-true, false_from_ne_true}
use Rattle.conf_types.specs.declared.address.Net.{Net}
use Rattle.conf_types.specs.declared.vlan.Route.{Route}
use Rattle.conf_types.specs.declared.vlan.Router.{Router}
use Rattle.conf_types.specs.declared.vlan.Vlan.{Vlan}
use Rattle.conf_types.specs.Configuration.{Configuration, vlan_with}
use Rattle.conf_types.specs.Lists.{EachBefore, is_among}
use Rattle.conf_types.specs.Families.{is_same_family, is_same_ip, address_of, len_of}
use Rattle.conf_types.specs.Networks.{AreApart, AreApartOrLocal, AreSame, LiesIn, is_held, is_link_local, is_neighbour_address}
use Rattle.conf_types.specs.Routing.{router_with, routing_set, vips_in}
use Rattle.conf_types.specs.Valid.{IsValid, RoutesAreValid}
use Rattle.conf_types.proofs.Families.{same_ip, held, holds_own}
use Rattle.conf_shape.specs.declared.raw.RawRouter.{RawRouter}
use Rattle.conf_shape.specs.declared.refused.ConfCause.{ConfCause}
use Rattle.conf_shape.specs.declared.refused.ConfCause.TheVariants.{Duplicate, Conflict}
use Rattle.conf_resolve.specs.declared.ordered.OrderedConf.{OrderedConf}
use Rattle.conf_resolve.specs.declared.ordered.PlacedVlan.{PlacedVlan}
use Rattle.conf_resolve.specs.InOrder.{router_site}
use Rattle.conf_resolve.specs.Resolved.{router_of, vlan_of, resolved, to_list, vid_of}
use Rattle.conf_rules.specs.Names.{routed_at}
use Rattle.conf_rules.specs.Places.{fault_if, under, each_at, vlans_of, with_earlier, is_repeat}
use Rattle.conf_rules.specs.Routing.{are_routed, overlap, clash, overlapping_vips, is_in_router, routed_twice, shared_of_router, shared_vlans, lies_in, route_site, leads_inside, is_gateway, wrong_route, wrong_routes_of, wrong_routes, is_same_route, repeated_routes}
use Rattle.law_checks.proofs.Empty.{values_at}
use Rattle.law_checks.proofs.Kept.{both_empty, all_empty, no_fault, no_lack, is_value, of_zipped, none_any, repeat_free, of_earlier, empty_behind, before_unmapped}
use Rattle.law_checks.proofs.Members.{IsIn, of_all, in_mapped, in_kept, among, is_one_of, some_of, finds, found, before_by, EachTo, flat_within, flat_across, two_of}
use Rattle.law_checks.proofs.Networks.{apart_back}
use Rattle.law_checks.proofs.Once.{into_once}
use Rattle.law_checks.proofs.Routers.{is_alike, alike_of}

-- ---- networks

-- networks without an address together don't overlap
pub no_overlap : (a b : Net) → AreApart a b → overlap a b ≡ false
no_overlap a b r = false_from_ne_true (overlap a b) (λ is. by (nat_le (len_of a) (len_of b)) is)
  where
    by : (t : Bool) → (if t then is_held a (address_of b) else is_held b (address_of a)) ≡ true → ⊥
    by true is = r (address_of b) (held a (address_of b) is) (holds_own b)
    by false is = r (address_of a) (holds_own a) (held b (address_of a) is)

pub no_clash : (a b : Net) → AreApartOrLocal a b → clash a b ≡ false
no_clash a b r = by (is_link_local a && is_link_local b) refl
  where
    by : (local : Bool) → (is_link_local a && is_link_local b) ≡ local → (overlap a b && not local) ≡ false
    by true is = neither (overlap a b)
      where
        neither : (over : Bool) → (over && false) ≡ false
        neither true = refl
        neither false = refl
    by false is = ap (λ over. over && true) (no_overlap a b (r is))

pub not_inside : (a b : Net) → (LiesIn a b → ⊥) → lies_in a b ≡ false
not_inside a b r = false_from_ne_true (lies_in a b) (λ is.
    let parts = and_parts (nat_le (len_of b) (len_of a)) (is_held b (address_of a)) is in
    r (record { longer = leb-true (len_of b) (len_of a) parts.0; inside = held b (address_of a) parts.1 }))

pub other_route : (r s : Route) → (AreSame r.dst s.dst → ⊥) → is_same_route r s ≡ false
other_route r s other = false_from_ne_true (is_same_route r s) (λ is.
    let parts = and_parts (is_same_ip (address_of r.dst) (address_of s.dst)) (len_of r.dst == len_of s.dst) is in
    other (record { ip = same_ip (address_of r.dst) (address_of s.dst) parts.0; len = eqb-true (len_of r.dst) (len_of s.dst) parts.1 }))

pub number_of : (o : Option ℕ) (n : ℕ) → IsIn (to_list o) n → o ≡ Some n
number_of None n i = absurd i
number_of (Some m) n (inl e) = ap Some e
number_of (Some m) n (inr i) = absurd i

-- ---- VLANs of one routing set

pub in_its_set : (conf : Configuration) (vid : ℕ) → IsIn (routing_set conf vid) vid
in_its_set conf vid = by (router_with conf.routers vid) refl
  where
    by : (o : Option Router) → router_with conf.routers vid ≡ o → IsIn (option_map_or (λ router. router.vlans) o (vid ∷ [])) vid
    by None is = inl refl
    by (Some r) is = is_one_of r.vlans vid (found (λ (r : Router). is_among r.vlans vid) conf.routers r is).1

module _ (conf : Configuration) (valid : IsValid conf) where
  one_vlan : (v w : Vlan) → IsIn conf.vlans v → IsIn conf.vlans w → v.vid ≡ w.vid → v ≡ w
  one_vlan v w cv cw same = by (two_of (λ (v w : Vlan). v.vid < w.vid) conf.vlans valid.vlans.in_order v w cv cw)
    where
      by : (v ≡ w) ⊎ ((v.vid < w.vid) ⊎ (w.vid < v.vid)) → v ≡ w
      by (inl e) = e
      by (inr (inl lt)) = absurd (omega arith)
      by (inr (inr lt)) = absurd (omega arith)

  its_vlan : (v : Vlan) → IsIn conf.vlans v → vlan_with conf.vlans v.vid ≡ Some v
  its_vlan v cv =
      let f = finds (λ (w : Vlan). w.vid == v.vid) conf.vlans v cv (eq-eqb v.vid v.vid refl) in
      let g = found (λ (w : Vlan). w.vid == v.vid) conf.vlans f.0 f.1 in
      f.1 ∙ ap Some (one_vlan f.0 v g.0 cv (eqb-true f.0.vid v.vid g.1))

  -- a VLAN's router is the one that has it
  its_router : (r : Router) → IsIn conf.routers r → (vid : ℕ) → IsIn r.vlans vid → routing_set conf vid ≡ r.vlans
  its_router r cr vid i = ap (λ (o : Option Router). option_map_or (λ router. router.vlans) o (vid ∷ [])) f.1 ∙ by (two_of (λ (r s : Router). AllByRecursion (λ vid. is_among s.vlans vid ≡ false) r.vlans) conf.routers valid.routing.apart r f.0 cr g.0)
    where
      f : (s : Router) × (find (λ (r : Router). is_among r.vlans vid) conf.routers ≡ Some s)
      f = finds (λ (r : Router). is_among r.vlans vid) conf.routers r cr (among r.vlans vid i)

      g : IsIn conf.routers f.0 × (is_among f.0.vlans vid ≡ true)
      g = found (λ (r : Router). is_among r.vlans vid) conf.routers f.0 f.1

      by : (r ≡ f.0) ⊎ (AllByRecursion (λ vid. is_among f.0.vlans vid ≡ false) r.vlans ⊎ AllByRecursion (λ vid. is_among r.vlans vid ≡ false) f.0.vlans) → f.0.vlans ≡ r.vlans
      by (inl e) = ap (λ (r : Router). r.vlans) (sym e)
      by (inr (inl all)) = absurd (true≢false (sym g.1 ∙ of_all (λ vid. is_among f.0.vlans vid ≡ false) r.vlans all vid i))
      by (inr (inr all)) = absurd (true≢false (sym (among r.vlans vid i) ∙ of_all (λ vid. is_among r.vlans vid ≡ false) f.0.vlans all vid (is_one_of f.0.vlans vid g.1)))

  module _ {X : Type 0} (f : Vlan → List X) (R : X → X → Type 0) (back : (a b : X) → R a b → R b a) where
    abbrev of : ℕ → List X
    of vid = option_map_or f (vlan_with conf.vlans vid) []

    of_its : (v : Vlan) → IsIn conf.vlans v → of v.vid ≡ f v
    of_its v cv = ap (λ (o : Option Vlan). option_map_or f o []) (its_vlan v cv)

    module _ (sets : AllByRecursion (λ v. EachBefore R (flat_map of (routing_set conf v.vid))) conf.vlans) where
      its_set : (v : Vlan) → IsIn conf.vlans v → EachBefore R (flat_map of (routing_set conf v.vid))
      its_set v cv = of_all (λ (v : Vlan). EachBefore R (flat_map of (routing_set conf v.vid))) conf.vlans sets v cv

      pub within_vlan : (v : Vlan) → IsIn conf.vlans v → EachBefore R (f v)
      within_vlan v cv = subst (EachBefore R) (of_its v cv) (of_all (λ vid. EachBefore R (of vid)) (routing_set conf v.vid) (flat_within R of (routing_set conf v.vid) (its_set v cv)) v.vid (in_its_set conf v.vid))

      in_router : (r : Router) → IsIn conf.routers r → (v w : Vlan) → IsIn conf.vlans v → IsIn conf.vlans w → (v.vid ≡ w.vid → ⊥) → IsIn r.vlans v.vid → IsIn r.vlans w.vid → EachTo R (f v) (f w)
      in_router r cr v w cv cw other iv iw = by (two_of (λ (m n : ℕ). EachTo R (of m) (of n)) r.vlans (flat_across R of r.vlans (subst (λ (vids : List ℕ). EachBefore R (flat_map of vids)) (its_router r cr v.vid iv) (its_set v cv))) v.vid w.vid iv iw)
        where
          by : (v.vid ≡ w.vid) ⊎ (EachTo R (of v.vid) (of w.vid) ⊎ EachTo R (of w.vid) (of v.vid)) → EachTo R (f v) (f w)
          by (inl e) = absurd (other e)
          by (inr (inl each)) = λ a b i j. each a b (subst (λ l. IsIn l a) (sym (of_its v cv)) i) (subst (λ l. IsIn l b) (sym (of_its w cw)) j)
          by (inr (inr each)) = λ a b i j. back b a (each b a (subst (λ l. IsIn l b) (sym (of_its w cw)) j) (subst (λ l. IsIn l a) (sym (of_its v cv)) i))

      pub across_vlans : (v w : Vlan) → IsIn conf.vlans v → IsIn conf.vlans w → (v.vid ≡ w.vid → ⊥) → are_routed conf v.vid w.vid ≡ true → EachTo R (f v) (f w)
      across_vlans v w cv cw other routed = by (or_cases (v.vid == w.vid) (list_any (λ (r : Router). is_among r.vlans v.vid && is_among r.vlans w.vid) conf.routers) routed)
        where
          by : ((v.vid == w.vid) ≡ true) ⊎ (list_any (λ (r : Router). is_among r.vlans v.vid && is_among r.vlans w.vid) conf.routers ≡ true) → EachTo R (f v) (f w)
          by (inl same) = absurd (other (eqb-true v.vid w.vid same))
          by (inr is) =
              let m = some_of (λ (r : Router). is_among r.vlans v.vid && is_among r.vlans w.vid) conf.routers is in
              let parts = and_parts (is_among m.0.vlans v.vid) (is_among m.0.vlans w.vid) m.2 in
              in_router m.0 m.1 v w cv cw other (is_one_of m.0.vlans v.vid parts.0) (is_one_of m.0.vlans w.vid parts.1)

-- ---- the rules

module _ (o : OrderedConf) where
  abbrev conf : Configuration
  conf = resolved o

  abbrev vlan : PlacedVlan → Vlan
  vlan v = vlan_of v.vlan

  -- ---- routers

  not_again : (s : RawRouter) (e : List Router) → ((r : Router) → IsIn e r → AllByRecursion (λ vid. is_among (router_of o s).vlans vid ≡ false) r.vlans) → shared_of_router o (s, (e, router_of o s)) ≡ []
  not_again s e behind = all_empty (routed_twice o e) (routed_at s) (λ item i.
      let named = is_value (routed_at s) s.vlans (values_at (under (router_site s) (codes "vlans")) s.vlans) item i in
      all_empty (λ vid. fault_if (list_any (is_in_router vid) e) (Conflict 13) item.0) (to_list (vid_of o.vlans item.1)) (λ vid j.
      let here : IsIn (router_of o s).vlans vid = into_once (filter_map (vid_of o.vlans) s.vlans) vid (in_kept (vid_of o.vlans) s.vlans item.1 vid named (number_of (vid_of o.vlans item.1) vid j)) in
      no_fault (list_any (is_in_router vid) e) (Conflict 13) item.0 (none_any (is_in_router vid) e (λ r cr. false_from_ne_true (is_among r.vlans vid) (λ is.
      true≢false (sym (among (router_of o s).vlans vid here) ∙ of_all (λ vid. is_among (router_of o s).vlans vid ≡ false) r.vlans (behind r cr) vid (is_one_of r.vlans vid is)))))))

  pub routers_kept : EachBefore (λ r s. AllByRecursion (λ vid. is_among s.vlans vid ≡ false) r.vlans) conf.routers → shared_vlans o conf ≡ []
  routers_kept apart = empty_behind (router_of o) (λ (r : Router) (s : RawRouter). AllByRecursion (λ vid. is_among (router_of o s).vlans vid ≡ false) r.vlans) (shared_of_router o) [] o.routers (λ s cs e behind. not_again s e behind)
      (record { among = before_unmapped (λ (r s : Router). AllByRecursion (λ vid. is_among s.vlans vid ≡ false) r.vlans) (router_of o) o.routers apart; across = λ b y i j. absurd i })

  -- ---- routes

  networks : Vlan → List Net
  networks v = vips_in conf (routing_set conf v.vid)

  right_route : (v : Vlan) (site : List (List ℕ)) (r : Route) → (leads_inside conf v.vid r.dst ≡ false) × (is_gateway v r ≡ true) → wrong_route conf v (site, r) ≡ []
  right_route v site r is =
      both_empty (fault_if (leads_inside conf v.vid r.dst) (Conflict 14) (route_site site (codes "ip_dst"))) (fault_if (not (is_gateway v r)) (Conflict 14) (route_site site (codes "ip_gw")))
      (no_fault (leads_inside conf v.vid r.dst) (Conflict 14) (route_site site (codes "ip_dst")) is.0) (no_lack (is_gateway v r) (Conflict 14) (route_site site (codes "ip_gw")) is.1)

  none_of : (v : PlacedVlan) → RoutesAreValid conf (vlan_of v.vlan) → wrong_routes_of conf (v, vlan_of v.vlan) ≡ []
  unfolding networks
  none_of v is =
      let w = vlan_of v.vlan in
      let site = under v.site (codes "routes") in
      all_empty (wrong_route conf w) (each_at site w.routes) (λ item i.
      let r = is_value (each_at site w.routes) w.routes (values_at site w.routes) item i in
      right_route w item.0 item.1 (
        none_any (lies_in item.1.dst) (networks w) (λ vip j. not_inside item.1.dst vip (of_all (λ vip. LiesIn item.1.dst vip → ⊥) (networks w) (of_all (λ r. AllByRecursion (λ vip. LiesIn r.dst vip → ⊥) (networks w)) w.routes is.outside item.1 r) vip j)),
        and_from (is_neighbour_address w.vips item.1.gw) (is_same_family item.1.gw (address_of item.1.dst))
            (of_all (λ r. IsTrue (is_neighbour_address w.vips r.gw)) w.routes is.reached item.1 r)
            (of_all (λ r. IsTrue (is_same_family r.gw (address_of r.dst))) w.routes is.one_family item.1 r),
      ))

  pub leads_kept : AllByRecursion (RoutesAreValid conf) conf.vlans → wrong_routes o conf ≡ []
  leads_kept all = all_empty (wrong_routes_of conf) (vlans_of o conf) (λ e i.
      let z = of_zipped (λ (v : PlacedVlan). vlan_of v.vlan) o.vlans e i in
      ap (λ (v : Vlan). wrong_routes_of conf (e.0, v)) (sym z.1) ∙ none_of e.0 (of_all (RoutesAreValid conf) conf.vlans all (vlan e.0) (in_mapped (λ (v : PlacedVlan). vlan_of v.vlan) o.vlans e.0 z.0)))

  -- ---- VIPs and routes of a routing set of a valid configuration

  module _ (valid : IsValid conf) where
    is_vlan : (v : PlacedVlan) → IsIn o.vlans v → IsIn conf.vlans (vlan v)
    is_vlan v cv = in_mapped (λ (v : PlacedVlan). vlan_of v.vlan) o.vlans v cv

    -- no value is found alike where those of each VLAN stand apart, and those of each routing set
    none_alike : {X : Type 0} (f : Vlan → List X) (across within : X → X → Bool) (cause : ConfCause) (key : List ℕ) (place : List (List ℕ) → List (List ℕ)) (R : X → X → Type 0)
        → ((a b : X) → R a b → across a b ≡ false) → ((a b : X) → R a b → R b a) → AllByRecursion (λ v. EachBefore R (flat_map (λ vid. option_map_or f (vlan_with conf.vlans vid) []) (routing_set conf v.vid))) conf.vlans
        → ((v : Vlan) → IsIn conf.vlans v → EachBefore (λ a b. within a b ≡ false) (f v))
        → flat_map (alike_of conf f across within cause key place) (zip o.vlans (with_earlier [] conf.vlans)) ≡ []
    none_alike {X = X} f across within cause key place R told back sets own =
        empty_behind (λ (v : PlacedVlan). vlan_of v.vlan) (λ (u : Vlan) (v : PlacedVlan). are_routed conf u.vid (vlan v).vid ≡ true → EachTo (λ a b. across a b ≡ false) (f u) (f (vlan v))) (alike_of conf f across within cause key place) [] o.vlans
        (λ v cv e behind. all_empty (λ (item : List (List ℕ) × (List X × X)). fault_if (is_alike conf f across within cause key place (e, vlan v) item.1) cause (place item.0)) (each_at (under v.site key) (with_earlier [] (f (vlan v)))) (λ item i.
        let at = is_value (each_at (under v.site key) (with_earlier [] (f (vlan v)))) (with_earlier [] (f (vlan v))) (values_at (under v.site key) (with_earlier [] (f (vlan v)))) item i in
        no_fault (is_alike conf f across within cause key place (e, vlan v) item.1) cause (place item.0)
        (or_from (list_any (λ w. are_routed conf w.vid (vlan v).vid && list_any (λ other. across other item.1.1) (f w)) e) (is_repeat within item.1)
        (none_any (λ w. are_routed conf w.vid (vlan v).vid && list_any (λ other. across other item.1.1) (f w)) e (λ u cu. apart_from u (vlan v) item.1.1 (of_earlier [] (f (vlan v)) item.1 at) (are_routed conf u.vid (vlan v).vid) refl (behind u cu)))
        (repeat_free within (f (vlan v)) (own (vlan v) (is_vlan v cv)) item.1 at))))
        (record {
          among = before_by (λ (v w : PlacedVlan). (vlan v).vid < (vlan w).vid) (λ v w. are_routed conf (vlan v).vid (vlan w).vid ≡ true → EachTo (λ a b. across a b ≡ false) (f (vlan v)) (f (vlan w))) o.vlans
              (before_unmapped (λ (v w : Vlan). v.vid < w.vid) (λ (v : PlacedVlan). vlan_of v.vlan) o.vlans valid.vlans.in_order)
              (λ v w cv cw lt routed a b ia ib. told a b (across_vlans conf valid f R back sets (vlan v) (vlan w) (is_vlan v cv) (is_vlan w cw) (λ same. absurd (omega arith)) routed a b ia ib));
          across = λ b y i j. absurd i;
        })
      where
        apart_from : (u w : Vlan) (x : X) → IsIn (f w) x → (t : Bool) → are_routed conf u.vid w.vid ≡ t → (are_routed conf u.vid w.vid ≡ true → EachTo (λ a b. across a b ≡ false) (f u) (f w)) → (t && list_any (λ other. across other x) (f u)) ≡ false
        apart_from u w x i false is each = refl
        apart_from u w x i true is each = none_any (λ other. across other x) (f u) (λ other j. each is other x j i)

    pub vips_kept : overlapping_vips o conf ≡ []
    vips_kept = none_alike (λ v. v.vips) clash overlap (Conflict 12) (codes "faucet_vips") (λ site. site) AreApartOrLocal no_clash apart_back valid.routing.vips
        (λ v cv. before_by AreApart (λ a b. overlap a b ≡ false) v.vips (of_all (λ (v : Vlan). EachBefore AreApart v.vips) conf.vlans valid.routing.own_vips v cv) (λ a b ia ib r. no_overlap a b r))

    pub routes_kept : repeated_routes o conf ≡ []
    routes_kept =
        let differ : Route → Route → Type 0 = λ r s. AreSame r.dst s.dst → ⊥ in
        let back : (r s : Route) → differ r s → differ s r = λ r s other same. other (record { ip = sym same.ip; len = sym same.len }) in
        none_alike (λ v. v.routes) is_same_route is_same_route Duplicate (codes "routes") (λ site. route_site site (codes "ip_dst")) differ other_route back valid.routing.routes
        (λ v cv. before_by differ (λ r s. is_same_route r s ≡ false) v.routes (within_vlan conf valid (λ v. v.routes) differ back valid.routing.routes v cv) (λ r s ir is r_differ. other_route r s r_differ))
