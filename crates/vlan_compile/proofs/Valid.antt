-- What a valid configuration and state say of the numbers that entries are made of.
use Rattle.std.proofs.Common.{◌≡◌, ℕ, ◌==◌, ◌&&◌, ◌||◌, Bool, true, false, cond, Option, Some, None, List, [], ◌∷◌, filter, is_some, nat_lt, if◌then◌else◌, refl, sym, ap, ◌∙◌, subst}
use Rattle.std.specs.Prelude.{Contains, IsTrue, IsSomeAnd}
use Rattle.std.specs.List.{AllByRecursion, find, list_any, filter_map, flat_map}
use Rattle.std.specs.Option.{option_map, option_map_or, option_and_then}
use Rattle.std.proofs.lemmas.Bool.{and_parts, eqb-true}
use Rattle.std.proofs.lemmas.Option.{none-some, same_Some, option_and_then_some}
use Rattle.net_base.specs.declared.numbers.DpId.{DpId}
use Rattle.net_base.specs.declared.stack.StackLink.{StackLink}
use Rattle.net_base.specs.Numbers.{IsVid, IsPortNo}
use Rattle.stack_paths.specs.Stack.{Stack}
use Rattle.stack_paths.specs.Chosen.{Step, steps, first_in, leads_nearer, is_chosen_before, hop_link, hop_of}
use Rattle.conf_types.specs.declared.datapath.Dp.{Dp}
use Rattle.conf_types.specs.declared.datapath.Port.{Port}
use Rattle.conf_types.specs.declared.datapath.StackEnd.{StackEnd}
use Rattle.conf_types.specs.declared.state.HostRec.{HostRec}
use Rattle.conf_types.specs.declared.state.UpRec.{UpRec}
use Rattle.conf_types.specs.declared.vlan.Vlan.{Vlan}
use Rattle.conf_types.specs.Configuration.{Configuration, dp_with, port_with, port_at, vlan_with}
use Rattle.conf_types.specs.Links.{is_live, is_far_live, link_from, links_of, links}
use Rattle.conf_types.specs.Membership.{is_accepting, is_edge, is_edge_member, is_native_in}
use Rattle.conf_types.specs.State.{State, IsHost, IsValidState}
use Rattle.conf_types.specs.Valid.{IsValid, IsDatapath, IsPort, IsVlan, vlans_named}
use Rattle.conf_types.proofs.Found.{all_found}
use Rattle.plan_base.proofs.Each.{all_from, all_filter, all_filter_map, all_flat_map, all_contains}
use Rattle.vlan_compile.specs.Vlans.{native_vlan, tagged_vlans}

-- ---- what is found

pub found_passes : {X : Type 0} (p : X → Bool) (xs : List X) (x : X) → find p xs ≡ Some x → p x ≡ true
found_passes p [] x e = absurd (none-some x e)
found_passes {X = X} p (y ∷ ys) x e = one (p y) refl (found_passes p ys x) e
  where
    one : (b : Bool) → p y ≡ b → (find p ys ≡ Some x → p x ≡ true) → cond b (Some y) (find p ys) ≡ Some x → p x ≡ true
    one true is more here = ap p (sym (same_Some y x here)) ∙ is
    one false is more here = more here

pub always : {X : Type 0} {P : X → Type 0} → ((x : X) → P x) → (xs : List X) → AllByRecursion P xs
always h [] = tt
always {P = P} h (x ∷ xs) = (h x, always {P = P} h xs)

-- both ends of a link are ports
abbrev pub AreEnds : StackLink → Type 0
AreEnds l = IsPortNo l.a_port × IsPortNo l.b_port

module _ (conf : Configuration) (valid : IsValid conf) where
  -- ---- VLANs

  pub vlans_numbered : AllByRecursion (λ (v : Vlan). IsVid v.vid) conf.vlans
  vlans_numbered = all_from {P = IsVlan} {Q = λ (v : Vlan). IsVid v.vid} (λ v is. is.number) conf.vlans valid.vlans.each

  pub vlan_numbered : (vid : ℕ) (v : Vlan) → vlan_with conf.vlans vid ≡ Some v → IsVid v.vid
  vlan_numbered vid v e = all_found (λ (w : Vlan). IsVid w.vid) (λ (w : Vlan). w.vid == vid) conf.vlans v vlans_numbered e

  pub vlan_is : (vid : ℕ) (v : Vlan) → vlan_with conf.vlans vid ≡ Some v → v.vid ≡ vid
  vlan_is vid v e = eqb-true v.vid vid (found_passes (λ (w : Vlan). w.vid == vid) conf.vlans v e)

  pub native_numbered : (i : Port) (v : Vlan) → native_vlan conf i ≡ Some v → IsVid v.vid
  native_numbered i v e = option_and_then_some (vlan_with conf.vlans) i.native v e (λ vid _ found. vlan_numbered vid v found)

  pub tagged_numbered : (i : Port) → AllByRecursion (λ (v : Vlan). IsVid v.vid) (tagged_vlans conf i)
  tagged_numbered i =
      all_filter_map (vlan_with conf.vlans) (λ (v : Vlan). IsVid v.vid) i.tagged (always {P = λ vid. (v : Vlan) → vlan_with conf.vlans vid ≡ Some v → IsVid v.vid} (λ vid v e. vlan_numbered vid v e) i.tagged)

  -- the identifier of a VLAN that is there
  there : (vid : ℕ) (o : Option Vlan) → vlan_with conf.vlans vid ≡ o → is_some o ≡ true → IsVid vid
  there vid None e is = absurd (cc)
  there vid (Some v) e is = let P : ℕ → Type 0 = λ n. IsVid n in subst P (vlan_is vid v e) (vlan_numbered vid v e)

  -- ---- ports

  pub ports_numbered : (d : Dp) → IsDatapath conf d → AllByRecursion (λ (p : Port). IsPortNo p.no) d.ports
  ports_numbered d is = all_from {P = IsPort conf} {Q = λ (p : Port). IsPortNo p.no} (λ p port. port.number) d.ports is.ports

  pub is_datapath : (d : Dp) → Contains conf.dps d → IsDatapath conf d
  is_datapath d here = all_contains (IsDatapath conf) conf.dps valid.datapaths.each d here

  is_port : (id : DpId) (number : ℕ) (p : Port) → port_at conf id number ≡ Some p → IsPort conf p
  is_port id number p e =
      option_and_then_some (λ (d : Dp). port_with d.ports number) (dp_with conf.dps id) p e
      (λ d of_dp of_port.
      let is : IsDatapath conf d = all_found (IsDatapath conf) (λ (x : Dp). x.id.0 == id.0) conf.dps d valid.datapaths.each of_dp in
      all_found (IsPort conf) (λ (x : Port). x.no == number) d.ports p is.ports of_port)

  port_numbered : (id : DpId) (number : ℕ) (p : Port) → port_at conf id number ≡ Some p → IsPortNo number
  port_numbered id number p e =
      let same : p.no ≡ number = option_and_then_some (λ (d : Dp). port_with d.ports number) (dp_with conf.dps id) p e
      (λ d of_dp of_port. eqb-true p.no number (found_passes (λ (x : Port). x.no == number) d.ports p of_port)) in
      let P : ℕ → Type 0 = λ n. IsPortNo n in
      subst P same (is_port id number p e).number

  -- ---- hosts

  -- a number that is among others of which each has a property
  among : (P : ℕ → Type 0) (ns : List ℕ) (n : ℕ) → AllByRecursion P ns → list_any (λ m. m == n) ns ≡ true → P n
  among P [] n all e = absurd (cc)
  among P (m ∷ ns) n all e = one (m == n) refl (λ more. among P ns n all.1 more) e
    where
      one : (b : Bool) → (m == n) ≡ b → (list_any (λ k. k == n) ns ≡ true → P n) → (b || list_any (λ k. k == n) ns) ≡ true → P n
      one true is more here = subst P (eqb-true m n is) all.0
      one false is more here = more here

  named : (vid : ℕ) → IsTrue (is_some (vlan_with conf.vlans vid)) → IsVid vid
  named vid is = there vid (vlan_with conf.vlans vid) refl is

  -- the VLAN of a member is one
  member_numbered : (p : Port) (native : Option ℕ) → AllByRecursion (λ vid. IsTrue (is_some (vlan_with conf.vlans vid))) (option_map_or (λ vid. vid ∷ p.tagged) native p.tagged) → (vid : ℕ) → (option_map_or (λ v. v == vid) native false || list_any (λ v. v == vid) p.tagged) ≡ true → IsVid vid
  member_numbered p None all vid e = among IsVid p.tagged vid (all_from {P = λ (n : ℕ). IsTrue (is_some (vlan_with conf.vlans n))} {Q = IsVid} named p.tagged all) e
  member_numbered p (Some n) all vid e = one (n == vid) refl e
    where
      one : (b : Bool) → (n == vid) ≡ b → (b || list_any (λ v. v == vid) p.tagged) ≡ true → IsVid vid
      one true is here = subst IsVid (eqb-true n vid is) (named n all.0)
      one false is here = among IsVid p.tagged vid (all_from {P = λ (m : ℕ). IsTrue (is_some (vlan_with conf.vlans m))} {Q = IsVid} named p.tagged all.1) here

  host_numbered : (h : HostRec) (o : Option Port) → port_at conf h.dp h.port ≡ o → IsSomeAnd o (λ p. IsTrue (is_accepting p && is_edge_member p h.vid)) → IsPortNo h.port × IsVid h.vid
  host_numbered h None e is = absurd is
  host_numbered h (Some p) e is =
      let member : is_edge_member p h.vid ≡ true = (and_parts (is_accepting p) (is_edge_member p h.vid) is).1 in
      let listed = (and_parts (is_edge p) (is_native_in p h.vid || list_any (λ v. v == h.vid) p.tagged) member).1 in
      (port_numbered h.dp h.port p e, member_numbered p p.native (is_port h.dp h.port p e).vlans h.vid listed)

  pub are_host_numbers : (state : State) → IsValidState conf state → (h : HostRec) → Contains state.hosts h → IsPortNo h.port × IsVid h.vid
  are_host_numbers state now h here =
      host_numbered h (port_at conf h.dp h.port) refl (all_contains (IsHost conf state) state.hosts now.hosts h here).place

  -- ---- stack links

  far_numbered : (ups : List UpRec) (far : StackEnd) (o : Option Port) → port_at conf far.dp far.port ≡ o → option_map_or (λ q. is_live ups far.dp q) o false ≡ true → IsPortNo far.port
  far_numbered ups far None e is = absurd (cc)
  far_numbered ups far (Some q) e is = port_numbered far.dp far.port q e

  abbrev link : Dp → Port → StackEnd → StackLink
  link d p far = record { a = d.id; a_port = p.no; b = far.dp; b_port = far.port }

  begun : (ups : List UpRec) (d : Dp) (p : Port) → IsPort conf p → (far : StackEnd) (l : StackLink) (b : Bool) → (nat_lt d.id.0 far.dp.0 && (is_live ups d.id p && is_far_live conf ups far)) ≡ b → cond b (Some (link d p far)) None ≡ Some l → AreEnds l
  begun ups d p is far l true live e =
      let both = (and_parts (nat_lt d.id.0 far.dp.0) (is_live ups d.id p && is_far_live conf ups far) live).1 in
      let far_live = (and_parts (is_live ups d.id p) (is_far_live conf ups far) both).1 in
      subst AreEnds (same_Some (link d p far) l e) (is.number, far_numbered ups far (port_at conf far.dp far.port) refl far_live)
  begun ups d p is far l false live e = absurd (none-some l e)

  link_ends : (ups : List UpRec) (d : Dp) (p : Port) → IsPort conf p → (l : StackLink) → link_from conf ups d p ≡ Some l → AreEnds l
  link_ends ups d p is l e =
      option_and_then_some (λ (far : StackEnd). if nat_lt d.id.0 far.dp.0 && (is_live ups d.id p && is_far_live conf ups far) then Some (link d p far) else None) p.stack l e
      (λ far _ made. begun ups d p is far l (nat_lt d.id.0 far.dp.0 && (is_live ups d.id p && is_far_live conf ups far)) refl made)

  pub links_end : (ups : List UpRec) → AllByRecursion AreEnds (links conf ups)
  links_end ups =
      all_flat_map (links_of conf ups) AreEnds conf.dps
      (all_from {P = IsDatapath conf} {Q = λ (d : Dp). AllByRecursion AreEnds (links_of conf ups d)}
      (λ d is. all_filter_map (link_from conf ups d) AreEnds d.ports
      (all_from {P = IsPort conf} {Q = λ (p : Port). (l : StackLink) → link_from conf ups d p ≡ Some l → AreEnds l} (λ p port l e. link_ends ups d p port l e) d.ports is.ports))
      conf.dps valid.datapaths.each)

-- ---- next hops

steps_numbered : (ls : List StackLink) → AllByRecursion AreEnds ls → AllByRecursion (λ (t : Step). IsPortNo t.port) (steps ls)
steps_numbered [] all = tt
steps_numbered (l ∷ ls) all = (all.0.0, (all.0.1, steps_numbered ls all.1))

first_of : {X : Type 0} (before : X → X → Bool) (P : X → Type 0) (xs : List X) → AllByRecursion P xs → (x : X) → first_in before xs ≡ Some x → P x
first_of before P [] all x e = absurd (none-some x e)
first_of {X = X} before P (y ∷ ys) all x e = subst P (same_Some _ x e) (picked (first_in before ys) (first_of before P ys all.1))
  where
    one : (b : Bool) (z : X) → P z → P (cond b z y)
    one true z h = h
    one false z h = all.0

    picked : (o : Option X) → ((z : X) → o ≡ Some z → P z) → P (option_map_or (λ z. if before z y then z else y) o y)
    picked None h = all.0
    picked (Some z) h = one (before z y) z (h z refl)

mapped : (o : Option Step) (n : ℕ) → ((t : Step) → o ≡ Some t → IsPortNo t.port) → option_map (λ (t : Step). t.port) o ≡ Some n → IsPortNo n
mapped None n h e = absurd (none-some n e)
mapped (Some t) n h e = subst IsPortNo (same_Some t.port n e) (h t refl)

pub hop_numbered : (s : Stack) → AllByRecursion AreEnds s.links → (a b : DpId) (n : ℕ) → hop_of s a b ≡ Some n → IsPortNo n
unfolding hop_of hop_link
hop_numbered s ends a b n e =
    mapped (first_in (is_chosen_before s) (filter (leads_nearer s a b) (steps s.links))) n
    (λ t is. first_of (is_chosen_before s) (λ (u : Step). IsPortNo u.port) (filter (leads_nearer s a b) (steps s.links)) (all_filter (λ (u : Step). IsPortNo u.port) (leads_nearer s a b) (steps s.links) (steps_numbered s.links ends)) t is) e
