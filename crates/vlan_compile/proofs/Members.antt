-- A port that admits a VLAN is an edge port of it.
use Rattle.std.proofs.Common.{◌≡◌, ℕ, ◌+◌, ◌<◌, ◌==◌, ◌&&◌, ◌||◌, not, Bool, true, false, Option, Some, None, List, [], ◌∷◌, ◌++◌, length, get_or, refl, sym, ap, ◌∙◌, eq-eqb}
use Rattle.std.specs.Prelude.{Contains, option_to_list}
use Rattle.std.specs.List.{AllByRecursion, list_any, filter_map}
use Rattle.std.specs.Option.{option_map_or, option_and_then}
use Rattle.std.proofs.lemmas.Bool.{and_parts}
use Rattle.std.proofs.lemmas.List.Folds.{list_any_at}
use Rattle.std.proofs.lemmas.Option.{option_and_then_some}
use Rattle.conf_types.specs.declared.datapath.Dp.{Dp}
use Rattle.conf_types.specs.declared.datapath.Port.{Port}
use Rattle.conf_types.specs.declared.vlan.Vlan.{Vlan}
use Rattle.conf_types.specs.Configuration.{Configuration, vlan_with}
use Rattle.conf_types.specs.Membership.{is_edge, is_accepting, is_native_in, is_tagged_in, is_edge_member, has_edge_member}
use Rattle.conf_types.specs.Valid.{IsValid}
use Rattle.plan_base.proofs.Each.{all_from, all_append, all_filter_map, all_contains}
use Rattle.vlan_compile.specs.Vlans.{native_vlan, tagged_vlans, vlans_of}
use Rattle.vlan_compile.proofs.Valid.{vlan_is}

or_right : (b : Bool) → (b || true) ≡ true
or_right true = refl
or_right false = refl

-- each of a list is among it
each_among : (ns : List ℕ) → AllByRecursion (λ n. list_any (λ m. m == n) ns ≡ true) ns
each_among [] = tt
each_among (n ∷ ns) = (
  ap (λ b. b || list_any (λ m. m == n) ns) (eq-eqb n n refl),
  all_from {P = λ k. list_any (λ m. m == k) ns ≡ true} {Q = λ k. ((n == k) || list_any (λ m. m == k) ns) ≡ true} (λ k is. ap (λ b. (n == k) || b) is ∙ or_right (n == k)) ns (each_among ns),
)

module _ (conf : Configuration) (valid : IsValid conf) (i : Port) (edge : is_edge i ≡ true) where
  abbrev Has : Vlan → Type 0
  Has v = is_edge_member i v.vid ≡ true

  by_native : (v : Vlan) → native_vlan conf i ≡ Some v → Has v
  by_native v e =
      option_and_then_some (vlan_with conf.vlans) i.native v e
      (λ vid native found.
      let named : is_native_in i v.vid ≡ true = ap (λ o. option_map_or (λ n. n == v.vid) o false) native ∙ eq-eqb vid v.vid (sym (vlan_is conf valid vid v found)) in
      ap (λ b. b && (is_native_in i v.vid || is_tagged_in i v.vid)) edge ∙ ap (λ b. b || is_tagged_in i v.vid) named)

  by_tagged : (vid : ℕ) → is_tagged_in i vid ≡ true → (v : Vlan) → vlan_with conf.vlans vid ≡ Some v → Has v
  by_tagged vid is v found =
      let named : is_tagged_in i v.vid ≡ true = ap (is_tagged_in i) (vlan_is conf valid vid v found) ∙ is in
      ap (λ b. b && (is_native_in i v.vid || is_tagged_in i v.vid)) edge ∙ ap (λ b. is_native_in i v.vid || b) named ∙ or_right (is_native_in i v.vid)

  each_member : AllByRecursion Has (vlans_of conf i)
  each_member =
      all_append Has (option_to_list (native_vlan conf i)) (tagged_vlans conf i) (one (native_vlan conf i) by_native)
      (all_filter_map (vlan_with conf.vlans) Has i.tagged
      (all_from {P = λ n. is_tagged_in i n ≡ true} {Q = λ n. (v : Vlan) → vlan_with conf.vlans n ≡ Some v → Has v} by_tagged i.tagged (each_among i.tagged)))
    where
      one : (o : Option Vlan) → ((v : Vlan) → o ≡ Some v → Has v) → AllByRecursion Has (option_to_list o)
      one None h = tt
      one (Some v) h = (h v refl, tt)

pub members_are : (conf : Configuration) → IsValid conf → (d : Dp) (i : Port) → Contains d.ports i → is_accepting i ≡ true → (v : Vlan) → Contains (vlans_of conf i) v → has_edge_member d v.vid ≡ true
members_are conf valid d i of_dp accepts v of_port =
    let edge : is_edge i ≡ true = (and_parts (is_edge i) (not i.output_only) accepts).0 in
    let member : is_edge_member i v.vid ≡ true = all_contains (λ (w : Vlan). is_edge_member i w.vid ≡ true) (vlans_of conf i) (each_member conf valid i edge) v of_port in
    list_any_at (λ (p : Port). is_edge_member p v.vid) d.ports of_dp.0 i of_dp.1 (ap (λ (p : Port). is_edge_member p v.vid) of_dp.2 ∙ member)
