-- The order in which hosts were learned changes nothing, since no two have one key.
use Rattle.std.proofs.Common.{◌≡◌, ◌∙◌, ℕ, ◌==◌, ◌&&◌, ◌||◌, Bool, true, false, not, cond, Option, Some, None, List, [], ◌∷◌, ◌++◌, length, find, count_by, nat_le, refl, sym, ap, inl, inr, subst, arith}
use Rattle.std.specs.Prelude.{Contains, IsPermutation}
use Rattle.std.specs.List.{list_any}
use Rattle.std.specs.Option.{option_map_or, option_and_then}
use Rattle.std.specs.Str.{bytes_eq}
use Rattle.std.proofs.lemmas.Bool.{both_ways, eqb-true, and_parts}
use Rattle.std.proofs.lemmas.List.Sorted.{IsPermutation-sym, Contains-permutation, list_any-IsPermutation, sum_by-IsPermutation, length_permutation}
use Rattle.std.proofs.lemmas.Map.Text.{is_eq-slice_cmp}
use Rattle.stack_paths.proofs.ChosenWalks.{same_dp}
use Rattle.stack_paths.proofs.Finite.{contains_cons}
use Rattle.net_base.specs.Address.{is_group}
use Rattle.net_base.specs.declared.address.Mac.{Mac}
use Rattle.net_base.specs.declared.numbers.DpId.{DpId}
use Rattle.of_match.specs.Hit.{outermost}
use Rattle.of_match.specs.declared.packet.Packet.{Packet}
use Rattle.of_match.specs.declared.packet.Sent.{Sent}
use Rattle.conf_types.specs.declared.datapath.Dp.{Dp}
use Rattle.conf_types.specs.declared.datapath.Port.{Port}
use Rattle.conf_types.specs.declared.state.HostRec.{HostRec}
use Rattle.conf_types.specs.declared.vlan.Vlan.{Vlan}
use Rattle.conf_types.specs.Configuration.{Configuration, dp_with, port_with, vlan_with}
use Rattle.conf_types.specs.Groups.{group_of}
use Rattle.conf_types.specs.Lists.{EachBefore, is_same}
use Rattle.conf_types.specs.Membership.{is_stack, is_accepting, mirrors_of}
use Rattle.conf_types.specs.State.{State, IsValidState, IsSameHost, is_host_at, is_host_in, is_permanent, is_barred, most_hosts}
use Rattle.packet_way.specs.declared.known.Onward.TheVariants.{Everywhere}
use Rattle.packet_way.specs.declared.source.Heard.{Heard}
use Rattle.packet_way.specs.declared.source.Heard.TheVariants as heard_case
use Rattle.packet_way.specs.declared.routes.Routed.{Routed}
use Rattle.packet_way.specs.declared.routes.Routed.TheVariants.{GoesOn, ToController, Ends}
use Rattle.packet_way.specs.Admission.{admitted_to, tagged_with}
use Rattle.packet_way.specs.Description.{sent_onward, leaving, leaving_in, behind_routing, by_routing, behind_source, in_vlan, admitted, from_edge, is_bare_lldp, from_stack, from_port, sends}
use Rattle.packet_way.specs.Drops.{is_dropped}
use Rattle.packet_way.specs.Known.{stack_of, host_with, onward_to, onward}
use Rattle.packet_way.specs.Leaving.{copies, to_controller}
use Rattle.packet_way.specs.Routes.{route_list, routed}
use Rattle.packet_way.specs.Source.{host_here, is_full, heard_from, heard}
use Rattle.packet_way.specs.Verdict.{acl_sends, is_allowed}
use Rattle.packet_way.proofs.Ports.{of_all, found}

-- ---- what is found in a list in another order

not_found : {X : Type 0} (t : X → Bool) (xs : List X) → find t xs ≡ None → (x : X) → Contains xs x → t x ≡ true → ⊥
not_found t [] none x c passes = omega (arith, c.1)
not_found t (y ∷ ys) none x c passes =
    elim (t y) as (λ b. t y ≡ b → cond b (Some y) (find t ys) ≡ None → ⊥) [
      | true ↦ λ is e. absurd cc
      | false ↦ λ is e. elim (contains_cons y x ys c) [
        | inl first ↦ both_ways (t y) is (ap t first ∙ passes)
        | inr more ↦ not_found t ys e x more passes
      ]
    ] refl none

find_moved : {X : Type 0} (t : X → Bool) (xs ys : List X) → IsPermutation xs ys → ((x y : X) → Contains xs x → Contains xs y → t x ≡ true → t y ≡ true → x ≡ y) → find t ys ≡ find t xs
find_moved {X = X} t xs ys moved alone = by (find t xs) (find t ys) refl refl
  where
    by : (o q : Option X) → find t xs ≡ o → find t ys ≡ q → q ≡ o
    by None None before after = refl
    by None (Some y) before after = let is = found t ys y after in absurd (not_found t xs before y (Contains-permutation ys xs y (IsPermutation-sym xs ys moved) is.0) is.1)
    by (Some x) None before after = let is = found t xs x before in absurd (not_found t ys after x (Contains-permutation xs ys x moved is.0) is.1)
    by (Some x) (Some y) before after =
        let was = found t xs x before in
        let is = found t ys y after in
        ap Some (alone y x (Contains-permutation ys xs y (IsPermutation-sym xs ys moved) is.0) was.0 is.1 was.1)

-- of those of which no two have one key, two with one key are one
only_one : {X : Type 0} (K : X → X → Type 0) → ((a b : X) → K a b → K b a) → (xs : List X) → EachBefore (λ a b. K a b → ⊥) xs → (x y : X) → Contains xs x → Contains xs y → K x y → x ≡ y
only_one K turned [] apart x y c d same = absurd (omega (arith, c.1))
only_one K turned (z ∷ zs) apart x y c d same =
    elim (contains_cons z x zs c) [
      | inl x_is ↦ elim (contains_cons z y zs d) [
        | inl y_is ↦ sym x_is ∙ y_is
        | inr y_in ↦ absurd (of_all (λ b. K z b → ⊥) zs y apart.0 y_in (subst (λ w. K w y) (sym x_is) same))
      ]
      | inr x_in ↦ elim (contains_cons z y zs d) [
        | inl y_is ↦ absurd (of_all (λ b. K z b → ⊥) zs x apart.0 x_in (turned x z (subst (λ w. K x w) (sym y_is) same)))
        | inr y_in ↦ only_one K turned zs apart.1 x y x_in y_in same
      ]
    ]

same_bytes : (a b : List ℕ) → bytes_eq a b ≡ true → a ≡ b
same_bytes [] [] e = refl
same_bytes [] (y ∷ ys) e = absurd cc
same_bytes (x ∷ xs) [] e = absurd cc
same_bytes (x ∷ xs) (y ∷ ys) e =
    let both = and_parts (x == y) (bytes_eq xs ys) e in
    ap (λ n. n ∷ xs) (eqb-true x y both.0) ∙ ap (λ ns. y ∷ ns) (same_bytes xs ys both.1)

pub same_address : (a b : List ℕ) → is_same a b ≡ true → a ≡ b
same_address a b e = same_bytes a b (sym (is_eq-slice_cmp a b) ∙ e)

some_same : {X : Type 0} (f g : X → List Sent) (o : Option X) → ((x : X) → f x ≡ g x) → option_map_or f o [] ≡ option_map_or g o []
some_same f g None h = refl
some_same f g (Some x) h = h x

-- ---- hosts

module _ (conf : Configuration) (now : State) (hosts : List HostRec) (valid : IsValidState conf now) (moved : IsPermutation now.hosts hosts) where
  abbrev later : State
  later = record now { hosts = hosts }

  one_host : (x y : HostRec) → Contains now.hosts x → Contains now.hosts y → IsSameHost conf x y → x ≡ y
  one_host x y c e same = only_one (IsSameHost conf) (λ a b k. record { groups = sym k.groups; vlans = sym k.vlans; macs = sym k.macs }) now.hosts valid.host_keys x y c e same

  any_same : (t : HostRec → Bool) → list_any t hosts ≡ list_any t now.hosts
  any_same t = sym (list_any-IsPermutation t now.hosts hosts moved)

  count_same : (t : HostRec → Bool) → count_by t hosts ≡ count_by t now.hosts
  count_same t = sum_by-IsPermutation (λ h. cond (t h) 1 0) now.hosts hosts moved

  here_same : (id : DpId) (port vid : ℕ) (mac : Mac) → host_here hosts id port vid mac ≡ host_here now.hosts id port vid mac
  here_same id port vid mac =
      find_moved (λ h. is_host_at id port h && h.vid == vid && is_same h.mac.0 mac.0) now.hosts hosts moved (λ x y c e tx ty.
      let a = parts x tx in
      let b = parts y ty in
      one_host x y c e (record { groups = ap (λ (dp : DpId). (group_of conf dp).0) (a.0 ∙ sym b.0); vlans = a.1 ∙ sym b.1; macs = a.2 ∙ sym b.2 }))
    where
      parts : (h : HostRec) → (is_host_at id port h && h.vid == vid && is_same h.mac.0 mac.0) ≡ true → (h.dp ≡ id) × (h.vid ≡ vid) × (h.mac.0 ≡ mac.0)
      parts h e =
          let both = and_parts (is_host_at id port h && h.vid == vid) (is_same h.mac.0 mac.0) e in
          let place = and_parts (is_host_at id port h) (h.vid == vid) both.0 in
          (same_dp h.dp id (and_parts (h.dp.0 == id.0) (h.port == port) place.0).0, eqb-true h.vid vid place.1, same_address h.mac.0 mac.0 both.1)

  with_same : (d : Dp) (vid : ℕ) (mac : Mac) → host_with conf hosts d vid mac ≡ host_with conf now.hosts d vid mac
  with_same d vid mac =
      find_moved (λ h. is_host_in conf (group_of conf d.id) vid h && is_same h.mac.0 mac.0) now.hosts hosts moved (λ x y c e tx ty.
      let a = parts x tx in
      let b = parts y ty in
      one_host x y c e (record { groups = a.0 ∙ sym b.0; vlans = a.1 ∙ sym b.1; macs = a.2 ∙ sym b.2 }))
    where
      parts : (h : HostRec) → (is_host_in conf (group_of conf d.id) vid h && is_same h.mac.0 mac.0) ≡ true → ((group_of conf h.dp).0 ≡ (group_of conf d.id).0) × (h.vid ≡ vid) × (h.mac.0 ≡ mac.0)
      parts h e =
          let both = and_parts (is_host_in conf (group_of conf d.id) vid h) (is_same h.mac.0 mac.0) e in
          let place = and_parts ((group_of conf h.dp).0 == (group_of conf d.id).0) (h.vid == vid) both.0 in
          (eqb-true (group_of conf h.dp).0 (group_of conf d.id).0 place.0, eqb-true h.vid vid place.1, same_address h.mac.0 mac.0 both.1)

  -- ---- the source

  barred_same : (id : DpId) (i : Port) (vid : ℕ) (mac : List ℕ) → is_barred conf hosts id i vid mac ≡ is_barred conf now.hosts id i vid mac
  barred_same id i vid mac =
      ap (λ (b : Bool). not b && (list_any (λ h. is_host_in conf (group_of conf id) vid h && is_same h.mac.0 mac && is_permanent conf h) hosts || (i.permanent_learn && list_any (λ h. is_host_at id i.no h && h.vid == vid) hosts)))
      (any_same (λ h. is_host_at id i.no h && h.vid == vid && is_same h.mac.0 mac))
      ∙ ap (λ (b : Bool). not (list_any (λ h. is_host_at id i.no h && h.vid == vid && is_same h.mac.0 mac) now.hosts) && (b || (i.permanent_learn && list_any (λ h. is_host_at id i.no h && h.vid == vid) hosts)))
      (any_same (λ h. is_host_in conf (group_of conf id) vid h && is_same h.mac.0 mac && is_permanent conf h))
      ∙ ap (λ (b : Bool). not (list_any (λ h. is_host_at id i.no h && h.vid == vid && is_same h.mac.0 mac) now.hosts) && (list_any (λ h. is_host_in conf (group_of conf id) vid h && is_same h.mac.0 mac && is_permanent conf h) now.hosts || (i.permanent_learn && b)))
      (any_same (λ h. is_host_at id i.no h && h.vid == vid))

  full_same : (d : Dp) (i : Port) (v : Vlan) → is_full conf hosts d i v ≡ is_full conf now.hosts d i v
  full_same d i v =
      let in_vlan : HostRec → Bool = is_host_in conf (group_of conf d.id) v.vid in
      ap (λ (n : ℕ). nat_le i.max_hosts n || nat_le v.max_hosts (count_by in_vlan hosts) || nat_le most_hosts (length hosts)) (count_same (is_host_at d.id i.no))
      ∙ ap (λ (n : ℕ). nat_le i.max_hosts (count_by (is_host_at d.id i.no) now.hosts) || nat_le v.max_hosts n || nat_le most_hosts (length hosts)) (count_same in_vlan)
      ∙ ap (λ (n : ℕ). nat_le i.max_hosts (count_by (is_host_at d.id i.no) now.hosts) || nat_le v.max_hosts (count_by in_vlan now.hosts) || nat_le most_hosts n) (length_permutation now.hosts hosts moved)

  from_same : (o : Option HostRec) (d : Dp) (i : Port) (v : Vlan) (mac : Mac) → heard_from o conf later d i v mac ≡ heard_from o conf now d i v mac
  from_same (Some h) d i v mac = refl
  from_same None d i v mac =
      ap (λ (b : Bool). cond b heard_case.Ends (cond (is_full conf hosts d i v) heard_case.GoesOn heard_case.IsCopied)) (barred_same d.id i v.vid mac.0)
      ∙ ap (λ (b : Bool). cond (is_barred conf now.hosts d.id i v.vid mac.0) heard_case.Ends (cond b heard_case.GoesOn heard_case.IsCopied)) (full_same d i v)

  heard_same : (d : Dp) (i : Port) (v : Vlan) (mac : Mac) → heard conf later d i v mac ≡ heard conf now d i v mac
  unfolding heard
  heard_same d i v mac =
      ap (λ (h : Heard). cond (is_group mac) heard_case.GoesOn h)
      (ap (λ (o : Option HostRec). heard_from o conf later d i v mac) (here_same d.id i.no v.vid mac) ∙ from_same (host_here now.hosts d.id i.no v.vid mac) d i v mac)

  -- ---- the way

  leaving_same : (d : Dp) (port : ℕ) (v : Vlan) (p : Packet) → leaving conf later d port v p ≡ leaving conf now d port v p
  unfolding leaving onward
  leaving_same d port v p = let s = stack_of conf now.ups in ap (λ (o : Option HostRec). sent_onward s d port v p (option_map_or (onward_to s d) o Everywhere)) (with_same d v.vid p.dst)

  leaving_in_same : (d : Dp) (port vid : ℕ) (p : Packet) → leaving_in conf later d port vid p ≡ leaving_in conf now d port vid p
  leaving_in_same d port vid p = some_same (λ v. leaving conf later d port v p) (λ v. leaving conf now d port v p) (vlan_with conf.vlans vid) (λ v. leaving_same d port v p)

  behind_routing_same : (d : Dp) (port : ℕ) (p : Packet) (r : Routed) → behind_routing conf later d port p r ≡ behind_routing conf now d port p r
  behind_routing_same d port p (GoesOn vid q) = leaving_in_same d port vid q
  behind_routing_same d port p ToController = refl
  behind_routing_same d port p Ends = refl

  by_routing_same : (d : Dp) (port : ℕ) (v : Vlan) (p : Packet) → by_routing conf later d port v p ≡ by_routing conf now d port v p
  unfolding by_routing
  by_routing_same d port v p = behind_routing_same d port p (routed (route_list conf now.neighbours (group_of conf d.id) v.vid) v p)

  behind_source_same : (d : Dp) (port : ℕ) (v : Vlan) (p : Packet) (h : Heard) → behind_source conf later d port v p h ≡ behind_source conf now d port v p h
  behind_source_same d port v p heard_case.GoesOn = by_routing_same d port v p
  behind_source_same d port v p heard_case.IsCopied = ap (λ rest. to_controller p ++ rest) (by_routing_same d port v p)
  behind_source_same d port v p heard_case.Ends = refl

  in_vlan_same : (d : Dp) (i : Port) (v : Vlan) (p : Packet) → in_vlan conf later d i v p ≡ in_vlan conf now d i v p
  unfolding in_vlan
  in_vlan_same d i v p =
      ap (λ (rest : List Sent). acl_sends conf d v.acls i.no p ++ cond (is_allowed conf v.acls i.no p) rest [])
      (ap (λ (h : Heard). behind_source conf later d i.no v p h) (heard_same d i v p.src) ∙ behind_source_same d i.no v p (heard conf now d i v p.src))

  admitted_same : (d : Dp) (i : Port) (p : Packet) (v : Vlan) → admitted conf later d i p v ≡ admitted conf now d i p v
  unfolding admitted
  admitted_same d i p v = ap (λ (rest : List Sent). copies (mirrors_of d i.no) p ++ rest) (in_vlan_same d i v (tagged_with v.vid p))

  from_edge_same : (d : Dp) (p : Packet) (i : Port) → from_edge conf later d p i ≡ from_edge conf now d p i
  unfolding from_edge
  from_edge_same d p i =
      ap (λ (rest : List Sent). acl_sends conf d i.acls i.no p ++ cond (is_allowed conf i.acls i.no p) (cond (is_dropped conf d p) [] rest) [])
      (some_same (admitted conf later d i p) (admitted conf now d i p) (option_and_then (vlan_with conf.vlans) (admitted_to i p)) (admitted_same d i p))

  from_stack_same : (d : Dp) (p : Packet) (i : Port) → from_stack conf later d p i ≡ from_stack conf now d p i
  unfolding from_stack
  from_stack_same d p i =
      ap (λ (rest : List Sent). cond (is_bare_lldp p) (to_controller p) rest)
      (some_same (λ tag. leaving_in conf later d i.no tag.vid p) (λ tag. leaving_in conf now d i.no tag.vid p) (outermost p.tags) (λ tag. leaving_in_same d i.no tag.vid p))

  from_port_same : (d : Dp) (p : Packet) (i : Port) → from_port conf later d p i ≡ from_port conf now d p i
  from_port_same d p i =
      ap (λ (rest : List Sent). cond (is_stack i) rest (cond (is_accepting i) (from_edge conf later d p i) [])) (from_stack_same d p i)
      ∙ ap (λ (rest : List Sent). cond (is_stack i) (from_stack conf now d p i) (cond (is_accepting i) rest [])) (from_edge_same d p i)

  pub sends_same : (id : DpId) (port : ℕ) (p : Packet) → sends conf later id port p ≡ sends conf now id port p
  sends_same id port p =
      some_same (λ d. option_map_or (from_port conf later d p) (port_with d.ports port) []) (λ d. option_map_or (from_port conf now d p) (port_with d.ports port) []) (dp_with conf.dps id)
      (λ d. some_same (from_port conf later d p) (from_port conf now d p) (port_with d.ports port) (from_port_same d p))
