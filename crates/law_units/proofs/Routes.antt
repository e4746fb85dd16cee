-- The routes of a VLAN, where no neighbour of its routing set differs: the same entries, in the order of the
-- neighbours.
use Rattle.std.proofs.Common.{◌≡◌, ℕ, Bool, true, false, ◌==◌, ◌&&◌, if◌then◌else◌, List, [], ◌∷◌, ◌++◌, filter, map, Option, Some, None, IsPermutation, refl, sym, ap, ◌∙◌, subst, true≢false, eqb-true, eq-eqb}
use Rattle.std.specs.Prelude.{Contains}
use Rattle.std.specs.List.{cons_option, find, filter_map, flat_map, list_any}
use Rattle.std.proofs.lemmas.List.Elements.{filter-append}
use Rattle.std.specs.Option.{option_map, option_map_or, option_and_then}
use Rattle.std.proofs.lemmas.Bool.{and_parts, and_from}
use Rattle.std.proofs.lemmas.List.Sorted.{IsPermutation-refl, IsPermutation-append, IsPermutation-append_left, IsPermutation-append_right, IsPermutation-map}
use Rattle.std.proofs.lemmas.Option.{same_Some, none-some}
use Rattle.net_base.specs.declared.address.Mac.{Mac}
use Rattle.net_base.specs.declared.numbers.DpId.{DpId}
use Rattle.conf_types.specs.declared.address.Ip.{Ip}
use Rattle.conf_types.specs.declared.address.Net.{Net}
use Rattle.conf_types.specs.declared.datapath.Dp.{Dp}
use Rattle.conf_types.specs.declared.family.Family.{Family}
use Rattle.conf_types.specs.declared.state.NeighRec.{NeighRec}
use Rattle.conf_types.specs.declared.vlan.Route.{Route}
use Rattle.conf_types.specs.declared.vlan.Vlan.{Vlan}
use Rattle.conf_types.specs.Changes.{mac_of_neighbour, AreNamed}
use Rattle.conf_types.specs.Configuration.{Configuration, vlan_with}
use Rattle.conf_types.specs.Families.{ipv4, ipv6, width_of, is_same_ip, address_of, len_of}
use Rattle.conf_types.specs.Groups.{group_of}
use Rattle.conf_types.specs.Lists.{EachBefore, is_same}
use Rattle.conf_types.specs.Networks.{is_held}
use Rattle.conf_types.specs.Routing.{routing_set, vips_from}
use Rattle.conf_types.specs.State.{State, IsSameNeighbour}
use Rattle.conf_types.proofs.Families.{same_ip, is_that_ip}
use Rattle.packet_way.specs.declared.routes.RouteItem.{RouteItem}
use Rattle.packet_way.specs.Routes.{vip_item, hop_item, neighbour_item, network_item, route_item, items_of, items_for, route_list}
use Rattle.route_compile.specs.Gateways.{has_gateway}
use Rattle.route_compile.specs.Routes.{item_entry, no_route, is_item_of, family_fib, fib_of}
use Rattle.law_runs.specs.Members.{head_of, tail_of}
use Rattle.plan_units.specs.declared.unit.Unit.TheVariants as unit
use Rattle.plan_units.specs.Agrees.{same_bytes, equal_bytes}
use Rattle.plan_units.specs.Facts.{found, apart_or_one}
use Rattle.plan_units.specs.Laws.{IsSetting}
use Rattle.plan_units.specs.Units.{of_routes, entries}
use Rattle.conf_types.specs.declared.change.Change.{Change}
use Rattle.conf_types.specs.declared.change.Change.TheVariants as change
use Rattle.law_units.proofs.Around.{same_some}
use Rattle.law_units.proofs.Hosts.{is_found}
use Rattle.law_units.proofs.Rows.{Out, unnamed}
use Rattle.law_units.proofs.Shuffled.{shuffled}

-- ---- lists

flat_shuffled : {A B : Type 0} (f g : A → List B) (xs : List A) → ((x : A) → Contains xs x → IsPermutation (f x) (g x)) → IsPermutation (flat_map f xs) (flat_map g xs)
flat_shuffled f g [] h = IsPermutation-refl []
flat_shuffled f g (x ∷ xs) h = IsPermutation-append (f x) (g x) (flat_map f xs) (flat_map g xs) (h x (head_of x xs)) (flat_shuffled f g xs (λ y c. h y (tail_of x xs y c)))

-- those that pass of what lists give
filter_flat : {A B : Type 0} (p : B → Bool) (f : A → List B) (xs : List A) → filter p (flat_map f xs) ≡ flat_map (λ x. filter p (f x)) xs
filter_flat p f [] = refl
filter_flat p f (x ∷ xs) = filter-append p (f x) (flat_map f xs) ∙ ap (λ l. filter p (f x) ++ l) (filter_flat p f xs)

abbrev passing : {B : Type 0} → (B → Bool) → B → Option B
passing p y = if p y then Some y else None

filter_some : {A B : Type 0} (p : B → Bool) (f : A → Option B) (xs : List A) → filter p (filter_map f xs) ≡ filter_map (λ x. option_and_then (passing p) (f x)) xs
filter_some p f [] = refl
filter_some {B = B} p f (x ∷ xs) = one (f x) ∙ ap (cons_option (option_and_then (passing p) (f x))) (filter_some p f xs)
  where
    rest : List B
    rest = filter_map f xs

    one : (o : Option B) → filter p (cons_option o rest) ≡ cons_option (option_and_then (passing p) o) (filter p rest)
    one None = refl
    one (Some y) = kept (p y)
      where
        kept : (b : Bool) → (if b then y ∷ filter p rest else filter p rest) ≡ cons_option (if b then Some y else None) (filter p rest)
        kept true = refl
        kept false = refl

permutation_same : {A : Type 0} (xs ys : List A) → xs ≡ ys → IsPermutation xs ys
permutation_same xs ys same = subst (λ l. IsPermutation xs l) same (IsPermutation-refl xs)

-- ---- neighbours by their keys

pub stable_mac : (a b : Option Mac) → ((a ≡ b → ⊥) → ⊥) → a ≡ b
stable_mac None None h = refl
stable_mac None (Some b) h = absurd (h (λ e. none-some b e))
stable_mac (Some a) None h = absurd (h (λ e. none-some a (sym e)))
stable_mac (Some a) (Some b) h = by (is_same a.0 b.0) refl
  where
    by : (c : Bool) → is_same a.0 b.0 ≡ c → Some a ≡ Some b
    by true is = let bytes : a.0 ≡ b.0 = same_bytes a.0 b.0 is in λ i. Some (record { 0 = bytes i })
    by false is = absurd (h (λ e. true≢false (sym (equal_bytes a.0 b.0 (ap (λ (m : Mac). m.0) (same_Some a b e))) ∙ is)))

turn : (a b : NeighRec) → IsSameNeighbour a b → IsSameNeighbour b a
turn a b s = record { groups = sym s.groups; vlans = sym s.vlans; ips = sym s.ips }

join : (a b c : NeighRec) → IsSameNeighbour a b → IsSameNeighbour b c → IsSameNeighbour a c
join a b c s t = record { groups = s.groups ∙ t.groups; vlans = s.vlans ∙ t.vlans; ips = s.ips ∙ t.ips }

abbrev pub AreApart : List NeighRec → Type 0
AreApart ns = EachBefore (λ a b. IsSameNeighbour a b → ⊥) ns

record HasKey (group : DpId) (vid : ℕ) (ip : Ip) (n : NeighRec) : Type 0 where
  groups : n.group.0 ≡ group.0
  vids : n.vid ≡ vid
  ips : n.ip ≡ ip

keyed : (group : DpId) (vid : ℕ) (ip : Ip) (n : NeighRec) → (n.group.0 == group.0 && n.vid == vid && is_same_ip n.ip ip) ≡ true → HasKey group vid ip n
keyed group vid ip n is =
    let p = and_parts (n.group.0 == group.0 && n.vid == vid) (is_same_ip n.ip ip) is in
    let q = and_parts (n.group.0 == group.0) (n.vid == vid) p.0 in
    record { groups = eqb-true n.group.0 group.0 q.0; vids = eqb-true n.vid vid q.1; ips = same_ip n.ip ip p.1 }

-- its address is told under its key
pub own : (ns : List NeighRec) → AreApart ns → (n : NeighRec) → Contains ns n → (group : DpId) (vid : ℕ) → n.group.0 ≡ group.0 → n.vid ≡ vid → mac_of_neighbour ns group vid n.ip ≡ n.mac
own ns apart n c group vid groups vids =
    ap (λ (o : Option NeighRec). option_and_then (λ m. m.mac) o)
    (is_found (λ (m : NeighRec). m.group.0 == group.0 && m.vid == vid && is_same_ip m.ip n.ip) ns n c
    (and_from _ _ (and_from _ _ (eq-eqb n.group.0 group.0 groups) (eq-eqb n.vid vid vids)) (is_that_ip n.ip n.ip refl))
    (λ m cm is.
    let k = keyed group vid n.ip m is in
    let same : IsSameNeighbour m n = record { groups = k.groups ∙ sym groups; vlans = k.vids ∙ sym vids; ips = k.ips } in
    apart_or_one (λ (a b : NeighRec). IsSameNeighbour a b → ⊥) ns apart m n cm c (λ ne. ne same) (λ ne. ne (turn m n same))))

-- ---- the items of a VLAN of the routing set

module _ (group : DpId) (w : Vlan) (vips : List Net) where
  -- a neighbour's item, by what it reads
  abbrev item_by : ℕ → ℕ → Ip → Option Mac → Option RouteItem
  item_by number vid ip mac =
      option_map (hop_item w ip (width_of ip)) (if number == group.0 && vid == w.vid && list_any (λ vip. is_held vip ip) vips then mac else None)

  module _ (s t : List NeighRec) (apart : AreApart s) (still : (ip : Ip) → mac_of_neighbour s group w.vid ip ≡ mac_of_neighbour t group w.vid ip) where
    other : (n : NeighRec) (item : RouteItem) → Contains s n → neighbour_item group w vips n ≡ Some item → (y : NeighRec) × Contains t y × IsSameNeighbour n y × (neighbour_item group w vips y ≡ Some item)
    other n item c is = by (n.group.0 == group.0 && n.vid == w.vid && list_any (λ vip. is_held vip n.ip) vips) refl n.mac refl is
      where
        there : (mac : Mac) → n.mac ≡ Some mac → n.group.0 ≡ group.0 → n.vid ≡ w.vid → (o : Option NeighRec) → find (λ m. m.group.0 == group.0 && m.vid == w.vid && is_same_ip m.ip n.ip) t ≡ o → option_and_then (λ m. m.mac) o ≡ Some mac
            → (y : NeighRec) × Contains t y × IsSameNeighbour n y × (neighbour_item group w vips y ≡ Some item)
        there mac em groups vids None e told = absurd (none-some mac told)
        there mac em groups vids (Some y) e told =
            let f = found (λ (m : NeighRec). m.group.0 == group.0 && m.vid == w.vid && is_same_ip m.ip n.ip) t y e in
            let k = keyed group w.vid n.ip y f.passes in
            let same : IsSameNeighbour n y = record { groups = groups ∙ sym k.groups; vlans = vids ∙ sym k.vids; ips = sym k.ips } in
            let macs : y.mac ≡ n.mac = told ∙ sym em in
            (y, f.within, same, (λ i. item_by (sym same.groups i) (sym same.vlans i) (k.ips i) (macs i)) ∙ is)

        by : (b : Bool) → (n.group.0 == group.0 && n.vid == w.vid && list_any (λ vip. is_held vip n.ip) vips) ≡ b → (m : Option Mac) → n.mac ≡ m → option_map (hop_item w n.ip (width_of n.ip)) (if b then m else None) ≡ Some item
            → (y : NeighRec) × Contains t y × IsSameNeighbour n y × (neighbour_item group w vips y ≡ Some item)
        by false passes m em e = absurd (none-some item e)
        by true passes None em e = absurd (none-some item e)
        by true passes (Some mac) em e =
            let p = and_parts (n.group.0 == group.0 && n.vid == w.vid) _ passes in
            let q = and_parts (n.group.0 == group.0) (n.vid == w.vid) p.0 in
            let groups : n.group.0 ≡ group.0 = eqb-true n.group.0 group.0 q.0 in
            let vids : n.vid ≡ w.vid = eqb-true n.vid w.vid q.1 in
            there mac em groups vids (find (λ m. m.group.0 == group.0 && m.vid == w.vid && is_same_ip m.ip n.ip) t) refl (sym (still n.ip) ∙ own s apart n c group w.vid groups vids ∙ em)

  -- those that pass
  module _ (p : RouteItem → Bool) where
    abbrev picked : NeighRec → Option RouteItem
    picked n = option_and_then (passing p) (neighbour_item group w vips n)

    picks : (s t : List NeighRec) → AreApart s → ((ip : Ip) → mac_of_neighbour s group w.vid ip ≡ mac_of_neighbour t group w.vid ip)
        → (n : NeighRec) (item : RouteItem) → Contains s n → picked n ≡ Some item → (y : NeighRec) × Contains t y × IsSameNeighbour n y × (picked y ≡ Some item)
    picks s t apart still n item c is = by (neighbour_item group w vips n) refl is
      where
        by : (o : Option RouteItem) → neighbour_item group w vips n ≡ o → option_and_then (passing p) o ≡ Some item → (y : NeighRec) × Contains t y × IsSameNeighbour n y × (picked y ≡ Some item)
        by None none e = absurd (none-some item e)
        by (Some made) one e = let o = other s t apart still n made c one in (o.0, o.1, o.2, ap (option_and_then (passing p)) o.3 ∙ e)

    parts : (s : List NeighRec) → filter p (items_of s group w vips) ≡ ((filter p (map vip_item vips) ++ filter_map picked s) ++ filter p (map network_item vips)) ++ filter p (filter_map (route_item s group w) w.routes)
    parts s =
        let alone = map vip_item vips in
        let near = filter_map (neighbour_item group w vips) s in
        let networks = map network_item vips in
        let led = filter_map (route_item s group w) w.routes in
        filter-append p ((alone ++ near) ++ networks) led
        ∙ ap (λ l. l ++ filter p led) (filter-append p (alone ++ near) networks ∙ ap (λ l. l ++ filter p networks) (filter-append p alone near ∙ ap (λ l. filter p alone ++ l) (filter_some p (neighbour_item group w vips) s)))

    items_shuffled : (s t : List NeighRec) → AreApart s → AreApart t → ((ip : Ip) → mac_of_neighbour s group w.vid ip ≡ mac_of_neighbour t group w.vid ip)
        → IsPermutation (filter p (items_of s group w vips)) (filter p (items_of t group w vips))
    items_shuffled s t sa ta still =
        let met = shuffled picked IsSameNeighbour turn join s t sa ta (picks s t sa still) (picks t s ta (λ ip. sym (still ip))) in
        let led : filter_map (route_item s group w) w.routes ≡ filter_map (route_item t group w) w.routes =
        same_some (route_item s group w) (route_item t group w) w.routes (λ (r : Route) c. ap (option_map (hop_item w (address_of r.dst) (len_of r.dst))) (still r.gw)) in
        let alone = filter p (map vip_item vips) in
        let networks = filter p (map network_item vips) in
        let before = filter_map picked s in
        let after = filter_map picked t in
        subst (λ l. IsPermutation l (filter p (items_of t group w vips))) (sym (parts s))
        (subst (λ l. IsPermutation (((alone ++ before) ++ networks) ++ filter p (filter_map (route_item s group w) w.routes)) l) (sym (parts t))
        (IsPermutation-append ((alone ++ before) ++ networks) ((alone ++ after) ++ networks) (filter p (filter_map (route_item s group w) w.routes)) (filter p (filter_map (route_item t group w) w.routes))
        (IsPermutation-append_left networks (alone ++ before) (alone ++ after) (IsPermutation-append_right alone before after met))
        (permutation_same _ _ (ap (filter p) led))))

-- ---- the entries

module _ (conf : Configuration) (old new : State) (d : Dp) (changes : List Change) (so : IsSetting conf old d) (sn : IsSetting conf new d) (named : AreNamed conf old new changes) (vid : ℕ) (out : Out conf old new d changes so sn named (unit.Route vid)) where
  still : (w : ℕ) → Contains (routing_set conf vid) w → (ip : Ip) → mac_of_neighbour old.neighbours (group_of conf d.id) w ip ≡ mac_of_neighbour new.neighbours (group_of conf d.id) w ip
  still w c ip =
      stable_mac _ _ (λ differ. unnamed conf old new d changes so sn named (unit.Route vid) out (change.Neighbour (group_of conf d.id) w ip) (refl, c) (named.neighbours (group_of conf d.id) w ip differ))

  -- of a family
  module _ (f : Family) where
    abbrev list : List NeighRec → List RouteItem
    list neighbours = filter (is_item_of f) (route_list conf neighbours (group_of conf d.id) vid)

    abbrev own_items : List NeighRec → Option Vlan → List RouteItem
    own_items neighbours o = option_map_or (items_for neighbours (group_of conf d.id) vid) o []

    by_vlans : (neighbours : List NeighRec) → list neighbours ≡ flat_map (λ w. filter (is_item_of f) (own_items neighbours (vlan_with conf.vlans w))) (routing_set conf vid)
    unfolding route_list
    by_vlans neighbours = filter_flat (is_item_of f) (λ w. own_items neighbours (vlan_with conf.vlans w)) (routing_set conf vid)

    list_shuffled : IsPermutation (list old.neighbours) (list new.neighbours)
    list_shuffled =
        subst (λ l. IsPermutation l (list new.neighbours)) (sym (by_vlans old.neighbours))
        (subst (λ l. IsPermutation (flat_map (λ w. filter (is_item_of f) (own_items old.neighbours (vlan_with conf.vlans w))) (routing_set conf vid)) l) (sym (by_vlans new.neighbours))
        (flat_shuffled (λ w. filter (is_item_of f) (own_items old.neighbours (vlan_with conf.vlans w))) (λ w. filter (is_item_of f) (own_items new.neighbours (vlan_with conf.vlans w))) (routing_set conf vid) (λ w c. one w c (vlan_with conf.vlans w) refl)))
      where
        one : (w : ℕ) → Contains (routing_set conf vid) w → (o : Option Vlan) → vlan_with conf.vlans w ≡ o → IsPermutation (filter (is_item_of f) (own_items old.neighbours o)) (filter (is_item_of f) (own_items new.neighbours o))
        one w c None is = IsPermutation-refl []
        one w c (Some v) is =
            let same : v.vid ≡ w = eqb-true v.vid w (found (λ (x : Vlan). x.vid == w) conf.vlans v is).passes in
            items_shuffled (group_of conf d.id) v (vips_from vid v) (is_item_of f) old.neighbours new.neighbours so.state.neighbour_keys sn.state.neighbour_keys (still v.vid (subst (Contains (routing_set conf vid)) (sym same) c))

    family_shuffled : (v : Vlan) → v.vid ≡ vid → IsPermutation (fib_of f conf old.neighbours d v) (fib_of f conf new.neighbours d v)
    family_shuffled v is = by (has_gateway d v)
      where
        in_vlan : List NeighRec → List RouteItem
        in_vlan neighbours = route_list conf neighbours (group_of conf d.id) v.vid

        by : (b : Bool) → IsPermutation (if b then family_fib f v (in_vlan old.neighbours) else []) (if b then family_fib f v (in_vlan new.neighbours) else [])
        by true =
            IsPermutation-append_left (no_route f v ∷ []) _ _
            (IsPermutation-map (item_entry f v) _ _
            (subst (λ n. IsPermutation (filter (is_item_of f) (route_list conf old.neighbours (group_of conf d.id) n)) (filter (is_item_of f) (route_list conf new.neighbours (group_of conf d.id) n))) (sym is) list_shuffled))
        by false = IsPermutation-refl []

  pub route_entries : IsPermutation (entries conf old d (unit.Route vid)) (entries conf new d (unit.Route vid))
  route_entries = by (vlan_with conf.vlans vid) refl
    where
      by : (o : Option Vlan) → vlan_with conf.vlans vid ≡ o → IsPermutation (option_map_or (of_routes conf old d) o []) (option_map_or (of_routes conf new d) o [])
      by None is = IsPermutation-refl []
      by (Some v) is =
          let same : v.vid ≡ vid = eqb-true v.vid vid (found (λ (x : Vlan). x.vid == vid) conf.vlans v is).passes in
          IsPermutation-append (fib_of ipv4 conf old.neighbours d v) (fib_of ipv4 conf new.neighbours d v) (fib_of ipv6 conf old.neighbours d v) (fib_of ipv6 conf new.neighbours d v)
          (family_shuffled ipv4 v same) (family_shuffled ipv6 v same)
