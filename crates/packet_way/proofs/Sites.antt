-- All that a datapath sends, place by place: what holds of each send holds of all of them together.
-- `R n` says it of a list, and n bounds what the copies for the controller add.
use Rattle.std.proofs.Common.{◌≡◌, ◌⊎◌, ℕ, ◌+◌, ◌≤◌, ◌==◌, ◌&&◌, ◌||◌, Bool, true, false, not, cond, Option, Some, None, List, [], ◌∷◌, ◌++◌, All, length, filter, count_by, refl, inl, inr, subst, arith}
use Rattle.std.specs.Prelude.{Contains}
use Rattle.std.specs.List.{flat_map}
use Rattle.std.specs.Option.{option_map_or, option_and_then}
use Rattle.std.proofs.lemmas.Bool.{and_parts, not-true, ne_eqb}
use Rattle.std.proofs.lemmas.List.Elements.{All-nil, All-cons, All-append}
use Rattle.std.proofs.lemmas.List.Sums.{sum_by-append}
use Rattle.stack_paths.proofs.Finite.{contains_here, contains_there}
use Rattle.stack_paths.specs.Chosen.{hop_of}
use Rattle.stack_paths.specs.Stack.{Stack}
use Rattle.net_base.specs.Address.{is_group}
use Rattle.net_base.specs.declared.address.Mac.{Mac}
use Rattle.net_base.specs.declared.numbers.DpId.{DpId}
use Rattle.of_match.specs.Hit.{outermost}
use Rattle.of_match.specs.declared.packet.Packet.{Packet}
use Rattle.of_match.specs.declared.packet.Sent.{Sent}
use Rattle.conf_types.specs.declared.datapath.Dp.{Dp}
use Rattle.conf_types.specs.declared.datapath.Port.{Port}
use Rattle.conf_types.specs.declared.state.HostRec.{HostRec}
use Rattle.conf_types.specs.declared.vlan.Vlan.{Vlan}
use Rattle.conf_types.specs.Configuration.{Configuration, port_with, vlan_with}
use Rattle.conf_types.specs.Groups.{group_of}
use Rattle.conf_types.specs.Lists.{is_same}
use Rattle.conf_types.specs.Membership.{is_stack, is_accepting, is_mirror_of, mirrors_of}
use Rattle.conf_types.specs.State.{State, is_host_in}
use Rattle.packet_way.specs.declared.known.Onward.TheVariants.{ByPort, OverStack, Everywhere}
use Rattle.packet_way.specs.declared.source.Heard.{Heard}
use Rattle.packet_way.specs.declared.source.Heard.TheVariants as heard_case
use Rattle.packet_way.specs.declared.routes.Routed.{Routed}
use Rattle.packet_way.specs.declared.routes.Routed.TheVariants.{GoesOn, ToController, Ends}
use Rattle.packet_way.specs.Admission.{admitted_to, is_tagged, with_tag, tagged_with}
use Rattle.packet_way.specs.Description.{sent_onward, leaving, leaving_in, behind_routing, by_routing, behind_source, in_vlan, admitted, from_edge, is_bare_lldp, from_stack, from_port}
use Rattle.packet_way.specs.Drops.{is_dropped}
use Rattle.packet_way.specs.Flood.{is_flooded, gets_flood, flooded}
use Rattle.packet_way.specs.Known.{stack_of, host_with, onward_to, onward, to_port, to_hop}
use Rattle.packet_way.specs.Leaving.{sent, copies, to_controller, as_sent, delivered}
use Rattle.packet_way.specs.Routes.{route_list, routed}
use Rattle.packet_way.specs.Source.{heard, heard_from, host_here}
use Rattle.packet_way.specs.Verdict.{rule_for, names_port, targets, acl_sends, is_allowed}
use Rattle.packet_way.proofs.Ports.{found}

module _ (R : ℕ → List Sent → Type 0) where
  -- it holds of nothing, of two lists joined, and with a greater bound
  pub record Joins : Type 0 where
    pub nil : R 0 []
    pub both : (m n : ℕ) (xs ys : List Sent) → R m xs → R n ys → R (m + n) (xs ++ ys)
    pub more : (m n : ℕ) (xs : List Sent) → m ≤ n → R m xs → R n xs

  module _ (j : Joins) where
    none : (n : ℕ) → R n []
    none n = j.more 0 n [] (omega arith) j.nil

    with_none : (n : ℕ) (xs ys : List Sent) → R 0 xs → R n ys → R n (xs ++ ys)
    with_none n xs ys a b = j.more (0 + n) n (xs ++ ys) (omega arith) (j.both 0 n xs ys a b)

    if_some : {X : Type 0} (n : ℕ) (f : X → List Sent) (o : Option X) → ((x : X) → o ≡ Some x → R n (f x)) → R n (option_map_or f o [])
    if_some n f None h = none n
    if_some n f (Some x) h = h x refl

    if_true : (n : ℕ) (b : Bool) (xs ys : List Sent) → (b ≡ true → R n xs) → (b ≡ false → R n ys) → R n (cond b xs ys)
    if_true n true xs ys first second = first refl
    if_true n false xs ys first second = second refl

    -- the copies for those ports that pass a test
    pub copied : (t : Port → Bool) (x : Packet) (qs : List Port) → ((q : Port) → Contains qs q → t q ≡ true → R 0 (sent q.no x ∷ [])) → R 0 (copies (filter t qs) x)
    copied t x [] h = j.nil
    copied t x (q ∷ qs) h =
        let rest = copied t x qs (λ r c. h r (contains_there q r qs c)) in
        elim (t q) as (λ b. t q ≡ b → R 0 (copies (cond b (q ∷ filter t qs) (filter t qs)) x)) [
          | true ↦ λ passes. with_none 0 (sent q.no x ∷ []) (copies (filter t qs) x) (h q (contains_here q qs) passes) rest
          | false ↦ λ fails. rest
        ] refl

    pub joined : (t : Port → Bool) (f : Port → List Sent) (qs : List Port) → ((q : Port) → Contains qs q → t q ≡ true → R 0 (f q)) → R 0 (flat_map f (filter t qs))
    joined t f [] h = j.nil
    joined t f (q ∷ qs) h =
        let rest = joined t f qs (λ r c. h r (contains_there q r qs c)) in
        elim (t q) as (λ b. t q ≡ b → R 0 (flat_map f (cond b (q ∷ filter t qs) (filter t qs)))) [
          | true ↦ λ passes. with_none 0 (f q) (flat_map f (filter t qs)) (h q (contains_here q qs) passes) rest
          | false ↦ λ fails. rest
        ] refl

    -- ---- a packet that leaves

    module _ (conf : Configuration) (now : State) (d : Dp) (port : ℕ) where
      abbrev stack : Stack
      stack = stack_of conf now.ups

      -- a packet goes back only with `hairpin`
      abbrev pub may_leave : Port → Bool
      may_leave q = not (q.no == port) || q.hairpin

      -- by an interface that gets floods of the VLAN, or where a host of it stands
      abbrev pub IsReached : Vlan → Port → Type 0
      IsReached v q = ((x : Packet) × (is_flooded stack d v x q ≡ true)) ⊎ ((h : HostRec) × Contains now.hosts h × ((h.dp.0 == d.id.0) ≡ true) × ((h.vid == v.vid) ≡ true) × (port_with d.ports h.port ≡ Some q))

      -- by an interface and by those that mirror it
      pub by_port : (vid : ℕ) (x : Packet) (q : Port) → R 0 (sent q.no (as_sent q vid x) ∷ [])
          → ((m : Port) → Contains d.ports m → (m.enabled && is_mirror_of m q.no) ≡ true → R 0 (sent m.no (as_sent q vid x) ∷ []))
          → R 0 (delivered d vid x q)
      by_port vid x q here mirror = with_none 0 (sent q.no (as_sent q vid x) ∷ []) (copies (mirrors_of d q.no) (as_sent q vid x)) here (copied (λ m. m.enabled && is_mirror_of m q.no) (as_sent q vid x) d.ports mirror)

      module _ (v : Vlan) (x : Packet)
          (out : (q : Port) → Contains d.ports q → may_leave q ≡ true → IsReached v q → R 0 (delivered d v.vid x q))
          (hop : (b : DpId) (n : ℕ) → hop_of stack d.id b ≡ Some n → (n == port) ≡ false → R 0 (sent n x ∷ [])) where
        to_port_all : (q : Port) → Contains d.ports q → IsReached v q → R 0 (to_port d port v.vid x q)
        to_port_all q c reached =
            elim (q.no == port) as (λ b. (q.no == port) ≡ b → R 0 (cond (b && not q.hairpin) [] (delivered d v.vid x q))) [
              | true ↦ λ same. elim q.hairpin as (λ b. q.hairpin ≡ b → R 0 (cond (true && not b) [] (delivered d v.vid x q))) [
                | true ↦ λ back. out q c (rw same back) reached
                | false ↦ λ fails. j.nil
              ] refl
              | false ↦ λ other. out q c (rw other refl) reached
            ] refl

        to_hop_all : (b : DpId) (n : ℕ) → hop_of stack d.id b ≡ Some n → R 0 (to_hop port x n)
        to_hop_all b n is = if_true 0 (n == port) [] (sent n x ∷ []) (λ same. j.nil) (hop b n is)

        flooded_all : R 0 (flooded stack d port v x)
        unfolding flooded
        flooded_all = if_true 0 (is_group x.dst || v.unicast_flood) (flat_map (delivered d v.vid x) (filter (gets_flood stack d port v x) d.ports)) []
            (λ passes. joined (gets_flood stack d port v x) (delivered d v.vid x) d.ports (λ q c gets. let both = and_parts (is_flooded stack d v x q) (may_leave q) gets in out q c both.1 (inl (x, both.0))))
            (λ fails. j.nil)

        to_host_all : (h : HostRec) → Contains now.hosts h → (h.vid == v.vid) ≡ true → R 0 (sent_onward stack d port v x (onward_to stack d h))
        to_host_all h c of_vlan =
            elim (h.dp.0 == d.id.0) as (λ b. (h.dp.0 == d.id.0) ≡ b → R 0 (sent_onward stack d port v x (cond b (ByPort h.port) (option_map_or OverStack (hop_of stack d.id h.dp) Everywhere)))) [
              | true ↦ λ here. if_some 0 (to_port d port v.vid x) (port_with d.ports h.port) (λ q is. to_port_all q (found (λ (p : Port). p.no == h.port) d.ports q is).0 (inr (h, c, here, of_vlan, is)))
              | false ↦ λ there. elim (hop_of stack d.id h.dp) as (λ o. hop_of stack d.id h.dp ≡ o → R 0 (sent_onward stack d port v x (option_map_or OverStack o Everywhere))) [
                | None ↦ λ fails. flooded_all
                | Some n ↦ λ is. to_hop_all h.dp n is
              ] refl
            ] refl

        pub leaving_all : R 0 (leaving conf now d port v x)
        unfolding leaving onward
        leaving_all =
            elim (host_with conf now.hosts d v.vid x.dst) as (λ o. host_with conf now.hosts d v.vid x.dst ≡ o → R 0 (sent_onward stack d port v x (option_map_or (onward_to stack d) o Everywhere))) [
              | None ↦ λ none. flooded_all
              | Some h ↦ λ is.
                  let f = found (λ (g : HostRec). is_host_in conf (group_of conf d.id) v.vid g && is_same g.mac.0 x.dst.0) now.hosts h is in
                  let in_vlan = (and_parts (is_host_in conf (group_of conf d.id) v.vid h) (is_same h.mac.0 x.dst.0) f.1).0 in
                  to_host_all h f.0 (and_parts ((group_of conf h.dp).0 == (group_of conf d.id).0) (h.vid == v.vid) in_vlan).1
            ] refl

      -- ---- the steps before

      -- what holds of each send, wherever it goes
      pub record Sites : Type 0 where
        pub target : (q : Port) (x : Packet) → Contains d.ports q → q.enabled ≡ true → (q.no == port) ≡ false → R 0 (sent q.no x ∷ [])
        pub mirror : (m : Port) (n : ℕ) (x : Packet) → Contains d.ports m → m.enabled ≡ true → is_mirror_of m n ≡ true → R 0 (sent m.no x ∷ [])
        pub out : (v : Vlan) (q : Port) (x : Packet) → Contains d.ports q → may_leave q ≡ true → IsReached v q → R 0 (sent q.no x ∷ [])
        pub hop : (b : DpId) (n : ℕ) (x : Packet) → hop_of stack d.id b ≡ Some n → (n == port) ≡ false → R 0 (sent n x ∷ [])

      module _ (s : Sites) (p : Packet) (learned by_vip : ℕ)
          (learns : (x : Packet) → is_group p.src ≡ false → R learned (to_controller x))
          (routes : (v : Vlan) (x : Packet) → Contains conf.vlans v → (length v.vips == 0) ≡ false → R by_vip (to_controller x)) where
        mirrors_all : (n : ℕ) (x : Packet) → R 0 (copies (mirrors_of d n) x)
        mirrors_all n x = copied (λ m. m.enabled && is_mirror_of m n) x d.ports (λ m c e. let both = and_parts m.enabled (is_mirror_of m n) e in s.mirror m n x c both.0 both.1)

        delivered_all : (v : Vlan) (x : Packet) (q : Port) → Contains d.ports q → may_leave q ≡ true → IsReached v q → R 0 (delivered d v.vid x q)
        delivered_all v x q c e reached = by_port v.vid x q (s.out v q (as_sent q v.vid x) c e reached) (λ m c' e'. let both = and_parts m.enabled (is_mirror_of m q.no) e' in s.mirror m q.no (as_sent q v.vid x) c' both.0 both.1)

        acl_all : (acls : List (List ℕ)) (x : Packet) → R 0 (acl_sends conf d acls port x)
        acl_all acls x =
            if_some 0 (λ rule. copies (targets d port rule) x) (rule_for conf acls port x) (λ rule is.
            copied (λ q. q.enabled && names_port rule q && not (q.no == port)) x d.ports (λ q c e.
            let both = and_parts (q.enabled && names_port rule q) (not (q.no == port)) e in
            s.target q x c (and_parts q.enabled (names_port rule q) both.0).0 (not-true (q.no == port) both.1)))

        leaving_in_all : (vid : ℕ) (x : Packet) → R 0 (leaving_in conf now d port vid x)
        leaving_in_all vid x = if_some 0 (λ v. leaving conf now d port v x) (vlan_with conf.vlans vid) (λ v is. leaving_all v x (delivered_all v x) (λ b n. s.hop b n x))

        behind_routing_all : (x : Packet) (r : Routed) → R by_vip (to_controller x) → R by_vip (behind_routing conf now d port x r)
        behind_routing_all x (GoesOn vid q) h = j.more 0 by_vip (leaving_in conf now d port vid q) (omega arith) (leaving_in_all vid q)
        behind_routing_all x ToController h = h
        behind_routing_all x Ends h = none by_vip

        by_routing_all : (v : Vlan) (x : Packet) → Contains conf.vlans v → R by_vip (by_routing conf now d port v x)
        unfolding by_routing routed
        by_routing_all v x c =
            elim (length v.vips == 0) as (λ b. (length v.vips == 0) ≡ b → R by_vip (by_routing conf now d port v x)) [
              | true ↦ λ empty. rw empty (j.more 0 by_vip (leaving_in conf now d port v.vid x) (omega arith) (leaving_in_all v.vid x))
              | false ↦ λ some. behind_routing_all x (routed (route_list conf now.neighbours (group_of conf d.id) v.vid) v x) (routes v x c some)
            ] refl

        behind_source_all : (v : Vlan) (x : Packet) (h : Heard) → Contains conf.vlans v → (h ≡ heard_case.IsCopied → R learned (to_controller x)) → R (learned + by_vip) (behind_source conf now d port v x h)
        behind_source_all v x heard_case.GoesOn c copy = j.more by_vip (learned + by_vip) (by_routing conf now d port v x) (omega arith) (by_routing_all v x c)
        behind_source_all v x heard_case.IsCopied c copy = j.both learned by_vip (to_controller x) (by_routing conf now d port v x) (copy refl) (by_routing_all v x c)
        behind_source_all v x heard_case.Ends c copy = none (learned + by_vip)

-- ---- counts

-- at most so many go to this number
abbrev pub Few : ℕ → ℕ → List Sent → Type 0
Few number n xs = count_by (λ s. s.port == number) xs ≤ n

pub few : (number : ℕ) → Joins (Few number)
few number = record {
  nil = omega arith;
  both = λ m n xs ys a b. rw (sum_by-append (λ s. cond (s.port == number) 1 0) xs ys) (omega (arith, a, b));
  more = λ m n xs le a. omega (arith, le, a);
}

pub goes_elsewhere : (number n : ℕ) (x : Packet) → (n ≡ number → ⊥) → Few number 0 (sent n x ∷ [])
goes_elsewhere number n x other = rw (ne_eqb n number other) (omega arith)

-- ---- the whole way

copied_is_single : (conf : Configuration) (now : State) (d : Dp) (i : Port) (v : Vlan) (mac : Mac) → heard conf now d i v mac ≡ heard_case.IsCopied → is_group mac ≡ false
unfolding heard
copied_is_single conf now d i v mac is =
    elim (is_group mac) as (λ b. cond b heard_case.GoesOn (heard_from (host_here now.hosts d.id i.no v.vid mac) conf now d i v mac) ≡ heard_case.IsCopied → b ≡ false) [
      | true ↦ λ e. absurd cc
      | false ↦ λ e. refl
    ] is

-- a tag more or less leaves the source as it is
tagged_source : (vid : ℕ) (p : Packet) → (tagged_with vid p).src ≡ p.src
tagged_source vid p = elim (is_tagged p.tags) as (λ b. (cond b p (with_tag vid p)).src ≡ p.src) [ true ↦ refl | false ↦ refl ]

module _ (R : ℕ → List Sent → Type 0) (j : Joins R) (conf : Configuration) (now : State) (d : Dp) (i : Port) (s : Sites R j conf now d i.no) (p : Packet) (learned by_vip : ℕ)
    (learns : (x : Packet) → is_group p.src ≡ false → R learned (to_controller x))
    (routes : (v : Vlan) (x : Packet) → Contains conf.vlans v → (length v.vips == 0) ≡ false → R by_vip (to_controller x)) (told : (x : Packet) → R (learned + by_vip) (to_controller x)) where
  in_vlan_all : (v : Vlan) (x : Packet) → Contains conf.vlans v → x.src ≡ p.src → R (learned + by_vip) (in_vlan conf now d i v x)
  unfolding in_vlan
  in_vlan_all v x c same =
      let h = heard conf now d i v x.src in
      with_none R j (learned + by_vip) (acl_sends conf d v.acls i.no x) (cond (is_allowed conf v.acls i.no x) (behind_source conf now d i.no v x h) [])
      (acl_all R j conf now d i.no s p learned by_vip learns routes v.acls x)
      (if_true R j (learned + by_vip) (is_allowed conf v.acls i.no x) (behind_source conf now d i.no v x h) []
      (λ allowed. behind_source_all R j conf now d i.no s p learned by_vip learns routes v x h c (λ is. learns x (subst (λ mac. is_group mac ≡ false) same (copied_is_single conf now d i v x.src is))))
      (λ denied. none R j (learned + by_vip)))

  admitted_all : (v : Vlan) → Contains conf.vlans v → R (learned + by_vip) (admitted conf now d i p v)
  unfolding admitted
  admitted_all v c =
      with_none R j (learned + by_vip) (copies (mirrors_of d i.no) p) (in_vlan conf now d i v (tagged_with v.vid p))
      (mirrors_all R j conf now d i.no s p learned by_vip learns routes i.no p)
      (in_vlan_all v (tagged_with v.vid p) c (tagged_source v.vid p))

  behind_acls_all : R (learned + by_vip) (option_map_or (admitted conf now d i p) (option_and_then (vlan_with conf.vlans) (admitted_to i p)) [])
  behind_acls_all =
      elim (admitted_to i p) as (λ o. R (learned + by_vip) (option_map_or (admitted conf now d i p) (option_and_then (vlan_with conf.vlans) o) [])) [
        | None ↦ none R j (learned + by_vip)
        | Some vid ↦ if_some R j (learned + by_vip) (admitted conf now d i p) (vlan_with conf.vlans vid) (λ v is. admitted_all v (found (λ (w : Vlan). w.vid == vid) conf.vlans v is).0)
      ]

  from_edge_all : R (learned + by_vip) (from_edge conf now d p i)
  unfolding from_edge
  from_edge_all =
      let n = learned + by_vip in
      let rest = option_map_or (admitted conf now d i p) (option_and_then (vlan_with conf.vlans) (admitted_to i p)) [] in
      with_none R j n (acl_sends conf d i.acls i.no p) (cond (is_allowed conf i.acls i.no p) (cond (is_dropped conf d p) [] rest) [])
      (acl_all R j conf now d i.no s p learned by_vip learns routes i.acls p)
      (if_true R j n (is_allowed conf i.acls i.no p) (cond (is_dropped conf d p) [] rest) []
      (λ allowed. if_true R j n (is_dropped conf d p) [] rest (λ drops. none R j n) (λ goes_on. behind_acls_all))
      (λ denied. none R j n))

  from_stack_all : R (learned + by_vip) (from_stack conf now d p i)
  unfolding from_stack
  from_stack_all =
      if_true R j (learned + by_vip) (is_bare_lldp p) (to_controller p) (option_map_or (λ tag. leaving_in conf now d i.no tag.vid p) (outermost p.tags) []) (λ bare. told p) (λ other.
      if_some R j (learned + by_vip) (λ tag. leaving_in conf now d i.no tag.vid p) (outermost p.tags) (λ tag is.
      j.more 0 (learned + by_vip) (leaving_in conf now d i.no tag.vid p) (omega arith) (leaving_in_all R j conf now d i.no s p learned by_vip learns routes tag.vid p)))

  pub from_port_all : R (learned + by_vip) (from_port conf now d p i)
  from_port_all =
      if_true R j (learned + by_vip) (is_stack i) (from_stack conf now d p i) (cond (is_accepting i) (from_edge conf now d p i) [])
      (λ is. from_stack_all)
      (λ other. if_true R j (learned + by_vip) (is_accepting i) (from_edge conf now d p i) [] (λ is. from_edge_all) (λ fails. none R j (learned + by_vip)))

-- ---- of what holds of each send

abbrev pub Each : (Sent → Type 0) → ℕ → List Sent → Type 0
Each P n xs = All P xs

module _ (P : Sent → Type 0) where
  pub each_joins : Joins (Each P)
  each_joins = record {
    nil = All-nil P;
    both = λ m n xs ys a b. All-append P xs ys a b;
    more = λ m n xs le a. a;
  }

  pub alone : (n : ℕ) (x : Packet) → P (sent n x) → All P (sent n x ∷ [])
  alone n x h = All-cons P (sent n x) [] h (All-nil P)
