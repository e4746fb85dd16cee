-- The limits on routes and gateways, and on what packets of VLANs are routed by.
use Rattle.std.specs.Prelude.{◌≡◌, ◌⊎◌, ℕ, zero, suc, ◌+◌, ◌*◌, ◌<◌, ◌==◌, Bool, true, false, List, [], ◌∷◌, length, map, filter, Option, Some, None, Contains, sum_by, if◌then◌else◌}
use Rattle.std.specs.Option.{option_map_or}
use Rattle.std.proofs.Common.{refl, sym, ap, ◌∙◌, subst, arith, inl, inr, true≢false, eqb-true, eq-eqb}
use Rattle.std.proofs.lemmas.Option.{same_Some, none-some}
use Rattle.std.proofs.lemmas.List.Concat.{length-flat_map}
use Rattle.std.proofs.lemmas.List.Sums.{sum_by-cons}
use Rattle.net_base.specs.declared.numbers.DpId.{DpId}
use Rattle.conf_types.specs.declared.address.Ip.{Ip}
use Rattle.conf_types.specs.declared.address.Ip.TheVariants as ip
use Rattle.conf_types.specs.declared.datapath.Dp.{Dp}
use Rattle.conf_types.specs.declared.family.Family.{Family}
use Rattle.conf_types.specs.declared.vlan.Route.{Route}
use Rattle.conf_types.specs.declared.vlan.Vlan.{Vlan}
use Rattle.conf_types.specs.Configuration.{Configuration, vlan_with}
use Rattle.conf_types.specs.Families.{ipv4, ipv6, family_of, ip_value, width_of, values_in, different_ips}
use Rattle.conf_types.specs.Groups.{IsDp, Walk, IsJoined, IsGroup, group_of}
use Rattle.conf_types.specs.Lists.{EachBefore, AreDistinct, is_among, different}
use Rattle.conf_types.specs.Routing.{routing_set, vips_of, vips_in, routes_of, routes_in}
use Rattle.conf_types.specs.Valid.{route_items, group_count}
use Rattle.conf_types.proofs.Families.{one_family, one_ip}
use Rattle.conf_types.proofs.Reached.{same_id, group_is}
use Rattle.law_checks.proofs.KeptLimits.{into_filtered}
use Rattle.law_checks.proofs.KeptLinks.{nil_length}
use Rattle.law_checks.proofs.Links.{empty}
use Rattle.law_checks.proofs.Members.{IsIn, all_by, in_mapped, of_mapped, of_filtered, among, is_one_of, before_by}
use Rattle.law_checks.proofs.Sets.{set_of}
use Rattle.law_rules.specs.Counted.{IsNumberOf}
use Rattle.law_rules.specs.Limits.{AreTold, IsRoute, IsGateway, Item, VipAt, RouteAt, IsItemOf, IsRouteItem}
use Rattle.law_rules.proofs.Counts.{contains, is_in, by_list, as_number, same_number, no_number, number_of_both, number_passing, number_of_pairs, number_of_products, number_below, number_mapped}
use Rattle.law_rules.proofs.PortLimits.{find_one, found_one}

-- ---- different numbers

number_different : (ns : List ℕ) → IsNumberOf (IsIn ns) (different ns)
number_different [] = no_number (IsIn []) (λ n i. i)
number_different (n ∷ ns) = by (is_among ns n) refl (number_different ns)
  where
    again : (x : ℕ) → (n ≡ x) ⊎ IsIn ns x → is_among ns n ≡ true → IsIn ns x
    again x (inl e) is = subst (IsIn ns) e (is_one_of ns n is)
    again x (inr i) is = i

    by : (b : Bool) → is_among ns n ≡ b → IsNumberOf (IsIn ns) (different ns) → IsNumberOf (IsIn (n ∷ ns)) ((if b then 0 else 1) + different ns)
    by true is more = as_number (IsIn (n ∷ ns)) (0 + different ns) (different ns) (omega arith) (same_number (IsIn ns) (IsIn (n ∷ ns)) (different ns) (λ x i. inr i) (λ x i. again x i is) more)
    by false is more =
        number_of_both (λ x. n ≡ x) (IsIn ns) 1 (different ns) (λ x e i. true≢false (sym (among ns n (subst (IsIn ns) (sym e) i)) ∙ is))
        (by_list (λ x. n ≡ x) (n ∷ []) (tt, tt) (λ x i. elim i [ inl e ↦ e | inr none ↦ absurd none ]) (λ x e. inl e)) more

-- ---- different addresses

-- the addresses of a family among others, where each number makes one of it
of_family : (f : Family) (make : ℕ → Ip) → ((n : ℕ) → (family_of (make n) ≡ f) × (ip_value (make n) ≡ n)) → (ips : List Ip) → IsNumberOf (λ a. IsIn ips a × (width_of a ≡ f.width)) (different (values_in f ips))
of_family f make made ips =
    same_number (λ a. (n : ℕ) × IsIn (values_in f ips) n × (make n ≡ a)) (λ a. IsIn ips a × (width_of a ≡ f.width)) (different (values_in f ips)) there back
    (number_mapped make (IsIn (values_in f ips)) (different (values_in f ips)) (λ m n e. sym (made m).1 ∙ ap ip_value e ∙ (made n).1) (number_different (values_in f ips)))
  where
    its : Ip → Bool
    its a = width_of a == f.width

    width_made : (n : ℕ) → width_of (make n) ≡ f.width
    width_made n = ap (λ (g : Family). g.width) (made n).0

    there : (a : Ip) → (n : ℕ) × IsIn (values_in f ips) n × (make n ≡ a) → IsIn ips a × (width_of a ≡ f.width)
    there a p =
        let m = of_mapped ip_value (filter its ips) p.0 p.1 in
        let k = of_filtered its ips m.0 m.1 in
        let width = eqb-true (width_of m.0) f.width k.1 in
        let same : m.0 ≡ a = one_ip m.0 (make p.0) (one_family m.0 (make p.0) (width ∙ sym (width_made p.0))) (m.2 ∙ sym (made p.0).1) ∙ p.2 in
        (subst (IsIn ips) same k.0, ap width_of (sym same) ∙ width)

    back : (a : Ip) → IsIn ips a × (width_of a ≡ f.width) → (n : ℕ) × IsIn (values_in f ips) n × (make n ≡ a)
    back a p = (
      ip_value a,
      in_mapped ip_value (filter its ips) a (into_filtered its ips a p.0 (eq-eqb (width_of a) f.width p.1)),
      one_ip (make (ip_value a)) a (one_family (make (ip_value a)) a (width_made (ip_value a) ∙ sym p.1)) (made (ip_value a)).1,
    )

number_different_ips : (ips : List Ip) → IsNumberOf (IsIn ips) (different_ips ips)
number_different_ips ips =
    same_number (λ a. Four a ⊎ Six a) (IsIn ips) (different_ips ips) (λ a p. elim p [ inl four ↦ four.0 | inr six ↦ six.0 ]) back
    (number_of_both Four Six (different (values_in ipv4 ips)) (different (values_in ipv6 ips)) (λ a four six. absurd (omega (arith, four.1, six.1)))
    (of_family ipv4 (λ n. ip.V4 (record { 0 = n })) (λ n. (refl, refl)) ips) (of_family ipv6 (λ n. ip.V6 (record { 0 = n })) (λ n. (refl, refl)) ips))
  where
    Four : Ip → Type 0
    Four a = IsIn ips a × (width_of a ≡ ipv4.width)

    Six : Ip → Type 0
    Six a = IsIn ips a × (width_of a ≡ ipv6.width)

    back : (a : Ip) → IsIn ips a → Four a ⊎ Six a
    back (ip.V4 a) i = inl (i, refl)
    back (ip.V6 a) i = inr (i, refl)

-- ---- groups

module _ (conf : Configuration) where
  -- walks in turn
  joined_on : (a b c : DpId) (m n : ℕ) → Walk conf a b m → Walk conf b c n → IsJoined conf a c
  joined_on a b c zero n w v = (n, subst (λ x. Walk conf x c n) (sym w.1) v)
  joined_on a b c (suc m) n w v = let more = joined_on w.0 b c m n w.2 v in (suc more.0, (w.0, w.1, more.1))

  end_is_dp : (a b : DpId) (n : ℕ) → Walk conf a b n → IsDp conf b
  end_is_dp a b zero w = subst (IsDp conf) w.1 w.0
  end_is_dp a b (suc n) w = end_is_dp w.0 b n w.2

  -- a group's number is its own group's
  own_group : (a g : DpId) → IsGroup conf a g → IsGroup conf g g
  own_group a g is = record {
    joined = (0, (end_is_dp a g is.joined.0 is.joined.1, refl));
    least = λ other j. let on = joined_on a g other is.joined.0 j.0 is.joined.1 j.1 in is.least other on;
  }

  one_group : (a g h : DpId) → IsGroup conf a g → IsGroup conf a h → g ≡ h
  one_group a g h one other = same_id g h (omega (arith, one.least h other.joined, other.least g one.joined))

  InGroup : DpId → Type 0
  InGroup g = (d : Dp) × Contains conf.dps d × IsGroup conf d.id g

  group_numbers : EachBefore (λ d e. d.id.0 ≡ e.id.0 → ⊥) conf.dps → IsNumberOf InGroup (group_count conf)
  unfolding InGroup
  group_numbers differ =
      same_number _ InGroup (group_count conf)
      (λ g p. let is : IsGroup conf p.0.id (group_of conf p.0.id) = group_is conf p.0.id (record { dp = p.0; here = contains conf.dps p.0 p.1; id_is = refl }) in
      (p.0, contains conf.dps p.0 p.1, subst (IsGroup conf p.0.id) (same_id (group_of conf p.0.id) p.0.id (eqb-true (group_of conf p.0.id).0 p.0.id.0 p.3) ∙ p.2) is))
      (λ g p.
      let end = end_is_dp p.0.id g p.2.joined.0 p.2.joined.1 in
      let e = end.dp in
      let own : IsGroup conf e.id e.id = subst (λ h. IsGroup conf h h) (sym end.id_is) (own_group p.0.id g p.2) in
      let is : IsGroup conf e.id (group_of conf e.id) = group_is conf e.id (record { dp = e; here = end.here; id_is = refl }) in
      (e, is_in conf.dps e end.here, end.id_is, eq-eqb (group_of conf e.id).0 e.id.0 (ap (λ (h : DpId). h.0) (one_group e.id (group_of conf e.id) e.id is own))))
      (number_passing (λ (d : Dp). d.id) (λ d. (group_of conf d.id).0 == d.id.0) conf.dps (before_by (λ d e. d.id.0 ≡ e.id.0 → ⊥) (λ d e. d.id ≡ e.id → ⊥) conf.dps differ (λ d e i j apart same. apart (ap (λ (h : DpId). h.0) same))))

module _ (conf : Configuration) (told : AreTold conf) where
  -- ---- routes

  pub route_pairs : IsNumberOf (IsRoute conf) (sum_by (λ v. length v.routes) conf.vlans)
  route_pairs =
      same_number _ (IsRoute conf) (sum_by (λ v. length v.routes) conf.vlans)
      (λ q p. (p.0, contains conf.vlans p.0 p.1, p.2, p.3))
      (λ q p. (p.0, is_in conf.vlans p.0 p.1, p.2, p.3))
      (number_of_pairs (λ (v : Vlan). v.vid) (λ v. length v.routes) (λ v k. k < length v.routes) conf.vlans told.vlans (all_by (λ v. IsNumberOf (λ k. k < length v.routes) (length v.routes)) conf.vlans (λ v i. number_below (length v.routes))))

  -- ---- gateways

  gateways_of : Vlan → List Ip
  gateways_of v = map (λ r. r.gw) v.routes

  HasGateway : ℕ × Ip → Type 0
  HasGateway pair = (v : Vlan) × Contains conf.vlans v × (v.vid ≡ pair.0) × ((r : Route) × Contains v.routes r × (r.gw ≡ pair.1))

  gateway_pairs : IsNumberOf HasGateway (sum_by (λ v. different_ips (map (λ r. r.gw) v.routes)) conf.vlans)
  unfolding gateways_of HasGateway
  gateway_pairs =
      same_number _ HasGateway (sum_by (λ v. different_ips (map (λ r. r.gw) v.routes)) conf.vlans)
      (λ q p. let m = of_mapped (λ (r : Route). r.gw) p.0.routes q.1 p.3 in (p.0, contains conf.vlans p.0 p.1, p.2, (m.0, contains p.0.routes m.0 m.1, m.2)))
      (λ q p. (p.0, is_in conf.vlans p.0 p.1, p.2, subst (IsIn (gateways_of p.0)) p.3.2 (in_mapped (λ (r : Route). r.gw) p.0.routes p.3.0 (is_in p.0.routes p.3.0 p.3.1))))
      (number_of_pairs (λ (v : Vlan). v.vid) (λ v. different_ips (gateways_of v)) (λ v a. IsIn (gateways_of v) a) conf.vlans told.vlans (all_by (λ v. IsNumberOf (IsIn (gateways_of v)) (different_ips (gateways_of v))) conf.vlans (λ v i. number_different_ips (gateways_of v))))

  pub gateway_triples : IsNumberOf (IsGateway conf) (group_count conf * sum_by (λ v. different_ips (map (λ r. r.gw) v.routes)) conf.vlans)
  unfolding InGroup HasGateway
  gateway_triples = number_of_products (InGroup conf) HasGateway (group_count conf) (sum_by (λ v. different_ips (map (λ r. r.gw) v.routes)) conf.vlans) (group_numbers conf told.dps) gateway_pairs

  -- ---- what packets are routed by

  -- VIPs and routes of the VLAN with a number
  ItemAt : ℕ → Item → Type 0
  ItemAt vid item = (w : Vlan) × Contains conf.vlans w × (w.vid ≡ vid) × IsItemOf w item

  vip_place : Item → ℕ
  vip_place (VipAt k) = k
  vip_place (RouteAt k) = 0

  route_place : Item → ℕ
  route_place (VipAt k) = 0
  route_place (RouteAt k) = k

  is_vip_at : Item → Bool
  is_vip_at (VipAt k) = true
  is_vip_at (RouteAt k) = false

  Below : (ℕ → Item) → ℕ → Item → Type 0
  Below g n item = (k : ℕ) × (k < n) × (g k ≡ item)

  items_of_vlan : (w : Vlan) → IsNumberOf (IsItemOf w) (length w.vips + length w.routes)
  unfolding Below vip_place route_place is_vip_at
  items_of_vlan w =
      same_number _ (IsItemOf w) (length w.vips + length w.routes) there back
      (number_of_both (Below VipAt (length w.vips)) (Below RouteAt (length w.routes)) (length w.vips) (length w.routes)
      (λ item p q. true≢false (ap is_vip_at p.2 ∙ sym (ap is_vip_at q.2)))
      (number_mapped VipAt (λ k. k < length w.vips) (length w.vips) (λ m n e. ap vip_place e) (number_below (length w.vips)))
      (number_mapped RouteAt (λ k. k < length w.routes) (length w.routes) (λ m n e. ap route_place e) (number_below (length w.routes))))
    where
      there : (item : Item) → Below VipAt (length w.vips) item ⊎ Below RouteAt (length w.routes) item → IsItemOf w item
      there item (inl p) = subst (IsItemOf w) p.2 p.1
      there item (inr p) = subst (IsItemOf w) p.2 p.1

      back : (item : Item) → IsItemOf w item → Below VipAt (length w.vips) item ⊎ Below RouteAt (length w.routes) item
      back (VipAt k) less = inl (k, less, refl)
      back (RouteAt k) less = inr (k, less, refl)

  items_of_one : (vid : ℕ) → IsNumberOf (ItemAt vid) (length (vips_of conf vid) + length (routes_of conf vid))
  unfolding ItemAt
  items_of_one vid = by (vlan_with conf.vlans vid) refl
    where
      is_with : (w : Vlan) → Contains conf.vlans w → w.vid ≡ vid → vlan_with conf.vlans vid ≡ Some w
      is_with w c is = find_one (λ (v : Vlan). v.vid) conf.vlans w vid told.vlans (is_in conf.vlans w c) is

      by : (o : Option Vlan) → vlan_with conf.vlans vid ≡ o → IsNumberOf (ItemAt vid) (length (option_map_or (λ vlan. vlan.vips) o []) + length (option_map_or (λ vlan. vlan.routes) o []))
      by None is = no_number (ItemAt vid) (λ item p. none-some p.0 (sym is ∙ is_with p.0 p.1 p.2))
      by (Some w) is =
          let f = found_one (λ (v : Vlan). v.vid) conf.vlans w vid is in
          same_number (IsItemOf w) (ItemAt vid) (length w.vips + length w.routes)
          (λ item p. (w, contains conf.vlans w f.0, f.1, p))
          (λ item p. subst (λ u. IsItemOf u item) (same_Some p.0 w (sym (is_with p.0 p.1 p.2) ∙ is)) p.3)
          (items_of_vlan w)

  items_of_set : (vids : List ℕ) → AreDistinct vids → IsNumberOf (λ (pair : ℕ × Item). Contains vids pair.0 × ItemAt pair.0 pair.1) (length (vips_in conf vids) + length (routes_in conf vids))
  items_of_set vids once =
      as_number P (length (vips_in conf vids) + length (routes_in conf vids)) (sum_by (λ vid. length (vips_of conf vid) + length (routes_of conf vid)) vids)
      (omega (arith, length-flat_map (vips_of conf) vids, length-flat_map (routes_of conf) vids, sum_of_two (λ vid. length (vips_of conf vid)) (λ vid. length (routes_of conf vid)) vids))
      (same_number _ P (sum_by (λ vid. length (vips_of conf vid) + length (routes_of conf vid)) vids)
      (λ q p. (subst (Contains vids) p.2 (contains vids p.0 p.1), subst (λ vid. ItemAt vid q.1) p.2 p.3))
      (λ q p. (q.0, is_in vids q.0 p.0, refl, p.1))
      (number_of_pairs (λ vid. vid) (λ vid. length (vips_of conf vid) + length (routes_of conf vid)) ItemAt vids once (all_by (λ vid. IsNumberOf (ItemAt vid) (length (vips_of conf vid) + length (routes_of conf vid))) vids (λ vid i. items_of_one vid))))
    where
      P : ℕ × Item → Type 0
      P pair = Contains vids pair.0 × ItemAt pair.0 pair.1

      sum_of_two : (f g : ℕ → ℕ) (ns : List ℕ) → sum_by (λ n. f n + g n) ns ≡ sum_by f ns + sum_by g ns
      sum_of_two f g [] = refl
      sum_of_two f g (n ∷ ns) = omega (arith, sum_of_two f g ns, sum_by-cons (λ n. f n + g n) n ns, sum_by-cons f n ns, sum_by-cons g n ns)

  Taken : Vlan → ℕ × Item → Type 0
  Taken v pair = (v.vips ≡ [] → ⊥) × Contains (routing_set conf v.vid) pair.0 × ItemAt pair.0 pair.1

  taken : (v : Vlan) → IsNumberOf (Taken v) (route_items conf v)
  unfolding Taken
  taken v = by (length v.vips == 0) refl
    where
      set : List ℕ
      set = routing_set conf v.vid

      by : (b : Bool) → (length v.vips == 0) ≡ b → IsNumberOf (Taken v) (if b then 0 else length (vips_in conf set) + length (routes_in conf set))
      by true is = no_number (Taken v) (λ q p. p.0 (empty v.vips is))
      by false is =
          same_number _ (Taken v) (length (vips_in conf set) + length (routes_in conf set))
          (λ q p. (λ none. true≢false (sym (nil_length v.vips none) ∙ is), p.0, p.1))
          (λ q p. (p.1, p.2))
          (items_of_set set (set_of conf told.routers v.vid).distinct)

  pub item_triples : IsNumberOf (IsRouteItem conf) (sum_by (route_items conf) conf.vlans)
  unfolding ItemAt Taken
  item_triples =
      same_number _ (IsRouteItem conf) (sum_by (route_items conf) conf.vlans)
      (λ q p. ((p.0, contains conf.vlans p.0 p.1, p.2, p.3.0), subst (λ vid. Contains (routing_set conf vid) q.1.0) p.2 p.3.1, p.3.2))
      (λ q p. (p.0.0, is_in conf.vlans p.0.0 p.0.1, p.0.2, (p.0.3, subst (λ vid. Contains (routing_set conf vid) q.1.0) (sym p.0.2) p.1, p.2)))
      (number_of_pairs (λ (v : Vlan). v.vid) (route_items conf) Taken conf.vlans told.vlans (all_by (λ v. IsNumberOf (Taken v) (route_items conf v)) conf.vlans (λ v i. taken v)))
