-- All differences of two states are named by what is in one of them.
use Rattle.std.proofs.Common.{◌≡◌, ℕ, Bool, true, ◌==◌, ◌&&◌, List, ◌++◌, map, Option, Some, None, inl, inr, refl, sym, ◌∙◌, subst, eqb-true}
use Rattle.std.specs.Prelude.{Contains}
use Rattle.std.specs.List.{find, list_any}
use Rattle.std.specs.Option.{option_and_then, option_map}
use Rattle.std.proofs.lemmas.Bool.{and_parts, cases_Bool}
use Rattle.net_base.specs.declared.numbers.DpId.{DpId}
use Rattle.conf_types.specs.declared.state.NeighRec.{NeighRec}
use Rattle.conf_types.specs.declared.state.UpRec.{UpRec}
use Rattle.conf_types.specs.Configuration.{Configuration}
use Rattle.conf_types.specs.State.{State}
use Rattle.law_runs.specs.Members.{behind, in_front, in_mapped}
use Rattle.plan_units.specs.Facts.{found, some_passes}
use Rattle.conf_types.specs.declared.change.Change.{Change}
use Rattle.conf_types.specs.declared.change.Change.TheVariants as change
use Rattle.conf_types.specs.Changes.{AreNamed, standing}
use Rattle.law_names.specs.Differences.{differences, parts_of}
use Rattle.law_names.specs.Differing.{host, neighbour}
use Rattle.law_names.proofs.Hosts as hosts
use Rattle.law_names.proofs.Joined.{exact_named}
use Rattle.law_names.proofs.Neighbours as neighbours

-- what is looked up in two lists is the same, or is in one of them
module _ {A : Type 0} (key : A → Bool) (name : A → Change) (c : Change) (is_c : (x : A) → key x ≡ true → name x ≡ c) where
  in_list : (xs : List A) (x : A) → find key xs ≡ Some x → Contains (map name xs) c
  in_list xs x is = let f = found key xs x is in subst (λ d. Contains (map name xs) d) (is_c x f.passes) (in_mapped name xs x f.within)

  in_one : {B : Type 0} (old new : Option A → B) → old None ≡ new None → (xs ys : List A) → (old (find key xs) ≡ new (find key ys) → ⊥) → (all : List Change)
      → (Contains (map name xs) c → Contains all c) → (Contains (map name ys) c → Contains all c) → Contains all c
  in_one old new none xs ys other all first second = by (find key xs) (find key ys) refl refl other
    where
      by : (a b : Option A) → find key xs ≡ a → find key ys ≡ b → (old a ≡ new b → ⊥) → Contains all c
      by (Some x) b is_a is_b differ = first (in_list xs x is_a)
      by None (Some y) is_a is_b differ = second (in_list ys y is_b)
      by None None is_a is_b differ = absurd (differ none)

  -- what passes in one of two lists alone is in one of them
  passing : (xs : List A) → list_any key xs ≡ true → Contains (map name xs) c
  passing xs is = let one = some_passes key xs is in subst (λ d. Contains (map name xs) d) (is_c one.0 (one.1).passes) (in_mapped name xs one.0 (one.1).within)

  in_one_alone : (xs ys : List A) → (list_any key xs ≡ list_any key ys → ⊥) → (all : List Change)
      → (Contains (map name xs) c → Contains all c) → (Contains (map name ys) c → Contains all c) → Contains all c
  in_one_alone xs ys other all first second = elim (cases_Bool (list_any key xs)) [
    | inl here ↦ first (passing xs here)
    | inr gone ↦ elim (cases_Bool (list_any key ys)) [
      | inl there ↦ second (passing ys there)
      | inr too ↦ absurd (other (gone ∙ sym too))
    ]
  ]

port_is : (dp : DpId) (port : ℕ) (up : UpRec) → (up.dp.0 == dp.0 && up.port == port) ≡ true → ◌≡◌ {A = Change} (change.Port up.dp up.port) (change.Port dp port)
port_is dp port up is =
    let p = and_parts (up.dp.0 == dp.0) (up.port == port) is in
    let same = eqb-true up.dp.0 dp.0 p.0 in
    let number = eqb-true up.port port p.1 in
    λ i. change.Port (record { 0 = same i }) (number i)

dp_is : (dp id : DpId) → (id.0 == dp.0) ≡ true → ◌≡◌ {A = Change} (change.Dp id) (change.Dp dp)
dp_is dp id is = let same = eqb-true id.0 dp.0 is in λ i. change.Dp (record { 0 = same i })

module _ (conf : Configuration) (old new : State) where
  abbrev all : List Change
  all = parts_of conf old ++ parts_of conf new

  -- each part of a state, by its kind
  module _ (s : State) (c : Change) where
    abbrev hosts_of : List Change
    hosts_of = map (host conf) s.hosts

    abbrev ports_of : List Change
    ports_of = map (λ (up : UpRec). change.Port up.dp up.port) s.ups

    abbrev dps_of : List Change
    dps_of = map (λ (dp : DpId). change.Dp dp) s.running

    abbrev neighbours_of : List Change
    neighbours_of = map neighbour s.neighbours

    a_host : Contains hosts_of c → Contains (parts_of conf s) c
    a_host here = in_front hosts_of (ports_of ++ (dps_of ++ neighbours_of)) c here

    a_port : Contains ports_of c → Contains (parts_of conf s) c
    a_port here = behind hosts_of (ports_of ++ (dps_of ++ neighbours_of)) c (in_front ports_of (dps_of ++ neighbours_of) c here)

    a_dp : Contains dps_of c → Contains (parts_of conf s) c
    a_dp here = behind hosts_of (ports_of ++ (dps_of ++ neighbours_of)) c (behind ports_of (dps_of ++ neighbours_of) c (in_front dps_of neighbours_of c here))

    a_neighbour : Contains neighbours_of c → Contains (parts_of conf s) c
    a_neighbour here = behind hosts_of (ports_of ++ (dps_of ++ neighbours_of)) c (behind ports_of (dps_of ++ neighbours_of) c (behind dps_of neighbours_of c here))

  before : (c : Change) → Contains (parts_of conf old) c → Contains all c
  before c here = in_front (parts_of conf old) (parts_of conf new) c here

  after : (c : Change) → Contains (parts_of conf new) c → Contains all c
  after c here = behind (parts_of conf old) (parts_of conf new) c here

  parts_named : AreNamed conf old new all
  parts_named = record {
    hosts = λ group vid mac other.
        let c : Change = change.Host group vid mac in
        in_one (hosts.key conf group vid mac) (host conf) c (hosts.key_named conf group vid mac) (option_map (standing conf old)) (option_map (standing conf new)) refl old.hosts new.hosts other all
        (λ here. before c (a_host old c here)) (λ here. after c (a_host new c here));
    ports = λ dp port other.
        let c : Change = change.Port dp port in
        in_one_alone (λ (up : UpRec). up.dp.0 == dp.0 && up.port == port) (λ (up : UpRec). change.Port up.dp up.port) c (port_is dp port) old.ups new.ups other all
        (λ here. before c (a_port old c here)) (λ here. after c (a_port new c here));
    dps = λ dp other.
        let c : Change = change.Dp dp in
        in_one_alone (λ (id : DpId). id.0 == dp.0) (λ (id : DpId). change.Dp id) c (dp_is dp) old.running new.running other all
        (λ here. before c (a_dp old c here)) (λ here. after c (a_dp new c here));
    neighbours = λ group vid ip other.
        let c : Change = change.Neighbour group vid ip in
        in_one (neighbours.key group vid ip) neighbour c (neighbours.key_named group vid ip) (λ (o : Option NeighRec). option_and_then (λ (n : NeighRec). n.mac) o)
        (λ (o : Option NeighRec). option_and_then (λ (n : NeighRec). n.mac) o) refl old.neighbours new.neighbours other all
        (λ here. before c (a_neighbour old c here)) (λ here. after c (a_neighbour new c here));
  }

  pub all_named : AreNamed conf old new (differences conf old new)
  all_named = exact_named conf old new all parts_named
