-- The VLANs of an interface, and where hosts stand.
use Rattle.std.specs.Prelude.{◌≡◌, ℕ, zero, suc, ◌<◌, ◌==◌, ◌&&◌, ◌||◌, Bool, true, false, cond, List, [], ◌∷◌, ◌++◌, Option, Some, None, Contains, IsTrue, IsSomeAnd, is_some, option_and_then, option_to_list}
use Rattle.std.specs.List.{AllByRecursion, find, list_any, filter_map, cons_option}
use Rattle.std.specs.Option.{option_map_or}
use Rattle.std.proofs.Common.{refl, sym, ap, ◌∙◌, subst, arith, true≢false, eqb-true, eq-eqb, inl, inr}
use Rattle.std.proofs.lemmas.Bool.{and_parts, or_cases}
use Rattle.std.proofs.lemmas.Option.{same_Some, none-some}
use Rattle.net_base.specs.Numbers.{IsVid, IsPortNo}
use Rattle.conf_types.specs.declared.datapath.Dp.{Dp}
use Rattle.conf_types.specs.declared.datapath.Port.{Port}
use Rattle.conf_types.specs.declared.state.HostRec.{HostRec}
use Rattle.conf_types.specs.declared.vlan.Vlan.{Vlan}
use Rattle.conf_types.specs.Configuration.{Configuration, dp_with, port_with, port_at, vlan_with}
use Rattle.conf_types.specs.Lists.{is_among}
use Rattle.conf_types.specs.Membership.{is_edge, is_accepting, is_edge_member, is_native_in, is_tagged_in}
use Rattle.conf_types.specs.State.{State, IsValidState, IsHost}
use Rattle.conf_types.specs.Valid.{IsValid, IsDatapath, IsVlan, vlans_named}
use Rattle.conf_types.specs.Valid as conditions
use Rattle.vlan_compile.specs.Vlans.{native_vlan, tagged_vlans, vlans_of}
use Rattle.law_runs.specs.Members.{head_of, tail_of, of_all, in_front, behind}
use Rattle.plan_units.specs.Facts.{found, some_passes}

-- ---- the VLANs of an interface are the configuration's

is_there : {A : Type 0} (o : Option A) → IsTrue (is_some o) → (x : A) × (o ≡ Some x)
is_there None is = absurd (true≢false (sym is))
is_there (Some x) is = (x, refl)

module _ (conf : Configuration) (valid : IsValid conf) where
  -- a VLAN of which the interface is an edge port exists
  pub member_vlan : (q : Port) (vid : ℕ) → conditions.IsPort conf q → is_edge_member q vid ≡ true → (w : Vlan) × (vlan_with conf.vlans vid ≡ Some w)
  member_vlan q vid is member = is_there (vlan_with conf.vlans vid) (of_all (λ n. IsTrue (is_some (vlan_with conf.vlans n))) (vlans_named q) is.vlans vid named)
    where
      among : (xs : List ℕ) → list_any (λ x. x == vid) xs ≡ true → Contains xs vid
      among xs any = let f = some_passes (λ x. x == vid) xs any in subst (Contains xs) (eqb-true f.0 vid (f.1).passes) (f.1).within

      by : (native : Option ℕ) → option_map_or (λ n. n == vid) native false || is_among q.tagged vid ≡ true → Contains (option_map_or (λ n. n ∷ q.tagged) native q.tagged) vid
      by None any = among q.tagged any
      by (Some n) any = elim (or_cases (n == vid) (is_among q.tagged vid) any) [
        | inl here ↦ subst (Contains (n ∷ q.tagged)) (eqb-true n vid here) (head_of n q.tagged)
        | inr more ↦ tail_of n q.tagged vid (among q.tagged more)
      ]

      named : Contains (vlans_named q) vid
      named = by q.native (and_parts (is_edge q) (is_native_in q vid || is_tagged_in q vid) member).1

  -- ---- as lists of VLANs

  some_in : (vids : List ℕ) (w : Vlan) → Contains (filter_map (vlan_with conf.vlans) vids) w → Contains conf.vlans w
  some_in [] w (k, lt, is) = absurd (omega (arith, lt))
  some_in (n ∷ vids) w c = one (vlan_with conf.vlans n) refl (some_in vids w) c
    where
      one : (o : Option Vlan) → vlan_with conf.vlans n ≡ o → (Contains (filter_map (vlan_with conf.vlans) vids) w → Contains conf.vlans w) → Contains (cons_option o (filter_map (vlan_with conf.vlans) vids)) w → Contains conf.vlans w
      one None is more c = more c
      one (Some x) is more (zero, lt, same) = subst (Contains conf.vlans) same (found (λ y. y.vid == n) conf.vlans x is).within
      one (Some x) is more (suc k, lt, same) = more (k, omega (arith, lt), same)

  -- each VLAN of an interface is one of the configuration
  pub vlans_in : (q : Port) (w : Vlan) → Contains (vlans_of conf q) w → Contains conf.vlans w
  vlans_in q w c = by (native_vlan conf q) refl c
    where
      from : (n : Option ℕ) (x : Vlan) → option_and_then (vlan_with conf.vlans) n ≡ Some x → Contains conf.vlans x
      from None x is = absurd (none-some x is)
      from (Some n) x is = (found (λ y. y.vid == n) conf.vlans x is).within

      by : (o : Option Vlan) → native_vlan conf q ≡ o → Contains (option_to_list o ++ tagged_vlans conf q) w → Contains conf.vlans w
      by None is c = some_in q.tagged w c
      by (Some x) is (zero, lt, same) = subst (Contains conf.vlans) same (from q.native x is)
      by (Some x) is (suc k, lt, same) = some_in q.tagged w (k, omega (arith, lt), same)

  -- and one that is named is among them
  pub some_of : (vids : List ℕ) (w : Vlan) → vlan_with conf.vlans w.vid ≡ Some w → Contains vids w.vid → Contains (filter_map (vlan_with conf.vlans) vids) w
  some_of [] w is (k, lt, same) = absurd (omega (arith, lt))
  some_of (n ∷ vids) w is (zero, lt, same) =
      let here : vlan_with conf.vlans n ≡ Some w = ap (vlan_with conf.vlans) same ∙ is in
      subst (λ o. Contains (cons_option o (filter_map (vlan_with conf.vlans) vids)) w) (sym here) (head_of w (filter_map (vlan_with conf.vlans) vids))
  some_of (n ∷ vids) w is (suc k, lt, same) = more (vlan_with conf.vlans n) (some_of vids w is (k, omega (arith, lt), same))
    where
      more : (o : Option Vlan) → Contains (filter_map (vlan_with conf.vlans) vids) w → Contains (cons_option o (filter_map (vlan_with conf.vlans) vids)) w
      more None c = c
      more (Some x) c = tail_of x (filter_map (vlan_with conf.vlans) vids) w c

  -- and each of which it is an edge port is among them
  pub vlan_of_member : (q : Port) (w : Vlan) → is_edge_member q w.vid ≡ true → vlan_with conf.vlans w.vid ≡ Some w → Contains (vlans_of conf q) w
  vlan_of_member q w member is = by q.native refl (and_parts (is_edge q) (is_native_in q w.vid || is_tagged_in q w.vid) member).1
    where
      tagged : is_among q.tagged w.vid ≡ true → Contains (tagged_vlans conf q) w
      tagged any =
          let f = some_passes (λ x. x == w.vid) q.tagged any in
          some_of q.tagged w is (subst (Contains q.tagged) (eqb-true f.0 w.vid (f.1).passes) (f.1).within)

      by : (native : Option ℕ) → q.native ≡ native → option_map_or (λ n. n == w.vid) native false || is_among q.tagged w.vid ≡ true → Contains (option_to_list (option_and_then (vlan_with conf.vlans) native) ++ tagged_vlans conf q) w
      by None e any = tagged any
      by (Some n) e any = elim (or_cases (n == w.vid) (is_among q.tagged w.vid) any) [
        | inl here ↦
            let found_here : vlan_with conf.vlans n ≡ Some w = ap (vlan_with conf.vlans) (eqb-true n w.vid here) ∙ is in
            subst (λ o. Contains (option_to_list o ++ tagged_vlans conf q) w) (sym found_here) (head_of w (tagged_vlans conf q))
        | inr more ↦ behind (option_to_list (vlan_with conf.vlans n)) (tagged_vlans conf q) w (tagged more)
      ]

  -- ---- where a host stands

  pub record Place (h : HostRec) : Type 0 where
    pub on : Dp
    pub at : Port
    pub is_dp : dp_with conf.dps h.dp ≡ Some on
    pub is_port : port_with on.ports h.port ≡ Some at
    pub accepting : is_accepting at ≡ true
    pub member : is_edge_member at h.vid ≡ true
    pub number : IsPortNo h.port
    pub vid : IsVid h.vid

  pub host_place : (now : State) (h : HostRec) → IsHost conf now h → Place h
  host_place now h is = by (dp_with conf.dps h.dp) refl is.place
    where
      at : (e : Dp) → dp_with conf.dps h.dp ≡ Some e → (o : Option Port) → port_with e.ports h.port ≡ o → IsSomeAnd o (λ p. IsTrue (is_accepting p && is_edge_member p h.vid)) → Place h
      at e is_dp None is_port place = absurd (place)
      at e is_dp (Some q) is_port place =
          let parts = and_parts (is_accepting q) (is_edge_member q h.vid) place in
          let d_in = of_all (IsDatapath conf) conf.dps valid.datapaths.each e (found (λ d. d.id.0 == h.dp.0) conf.dps e is_dp).within in
          let q_found = found (λ p. p.no == h.port) e.ports q is_port in
          let q_is = of_all (conditions.IsPort conf) e.ports d_in.ports q q_found.within in
          let w = member_vlan q h.vid q_is parts.1 in
          let w_found = found (λ y. y.vid == h.vid) conf.vlans w.0 w.1 in
          record {
            on = e;
            at = q;
            is_dp = is_dp;
            is_port = is_port;
            accepting = parts.0;
            member = parts.1;
            number = subst IsPortNo (eqb-true q.no h.port q_found.passes) q_is.number;
            vid = subst IsVid (eqb-true (w.0).vid h.vid w_found.passes) (of_all IsVlan conf.vlans valid.vlans.each w.0 w_found.within).number;
          }

      by : (o : Option Dp) → dp_with conf.dps h.dp ≡ o → IsSomeAnd (option_and_then (λ e. port_with e.ports h.port) o) (λ p. IsTrue (is_accepting p && is_edge_member p h.vid)) → Place h
      by None is_dp place = absurd (place)
      by (Some e) is_dp place = at e is_dp (port_with e.ports h.port) refl place
