-- A neighbour that is due and isn't lost is known as it was.
use Rattle.std.proofs.Common.{◌≡◌, ℕ, ◌==◌, ◌&&◌, not, Bool, true, false, cond, Option, Some, None, List, [], ◌∷◌, find, is_some, nat_lt, refl, inl, inr, sym, ap, ◌∙◌, eqb-true, true≢false, if◌then◌else◌}
use Rattle.std.specs.List.{AllByRecursion}
use Rattle.std.specs.Option.{option_and_then, option_map_or}
use Rattle.std.proofs.lemmas.Bool.{and_parts, cases_Bool}
use Rattle.conf_types.specs.declared.address.Ip.{Ip}
use Rattle.net_base.specs.declared.address.Mac.{Mac}
use Rattle.net_base.specs.declared.numbers.DpId.{DpId}
use Rattle.conf_types.specs.declared.state.NeighRec.{NeighRec}
use Rattle.conf_types.specs.Families.{is_same_ip}
use Rattle.conf_types.specs.Changes.{mac_of_neighbour}
use Rattle.conf_types.specs.Configuration.{Configuration}
use Rattle.conf_types.specs.Lists.{EachBefore}
use Rattle.conf_types.specs.State.{IsSameNeighbour}
use Rattle.conf_types.proofs.Families.{same_ip}
use Rattle.neighbour_resolve.specs.declared.neighbour.Due.{Due}
use Rattle.neighbour_resolve.specs.Due.{after_due, asked as asked_once, asked_on, due_said, first_due, is_due, is_gateway, is_lost, is_spent, most_tries, next}
use Rattle.ctl_world.specs.World.{World}
use Rattle.law_names.specs.Dues.{due}
use Rattle.law_names.specs.Names.{Names}
use Rattle.law_names.proofs.Neighbours.{key}
use Rattle.law_names.proofs.Stepped.{neighbours_named, then_quiet}
use Rattle.ctl_settle.specs.Asked.{lost}
use Rattle.ctl_settle.specs.Settling.{say_due, take_due}
use Rattle.ctl_settle.proofs.AskedNames.{ask_named, say_due_quiet}

abbrev pub AreApart : List NeighRec → Type 0
AreApart ns = EachBefore (λ a b. IsSameNeighbour a b → ⊥) ns

unknown : (o : Option Mac) → (is_some o && true) ≡ false → o ≡ None
unknown None is = refl
unknown (Some m) is = absurd (true≢false is)

module _ (group : DpId) (vid : ℕ) (ip : Ip) where
  abbrev pub test : NeighRec → Bool
  test n = key group vid ip n

  abbrev pub mac_in : Option NeighRec → Option Mac
  mac_in o = option_and_then (λ n. n.mac) o

  pub one_key : (m n : NeighRec) → test m ≡ true → test n ≡ true → IsSameNeighbour m n
  one_key m n is_m is_n =
      let om = and_parts (m.group.0 == group.0 && m.vid == vid) (is_same_ip m.ip ip) is_m in
      let im = and_parts (m.group.0 == group.0) (m.vid == vid) om.0 in
      let on = and_parts (n.group.0 == group.0 && n.vid == vid) (is_same_ip n.ip ip) is_n in
      let in_n = and_parts (n.group.0 == group.0) (n.vid == vid) on.0 in
      record {
        groups = eqb-true m.group.0 group.0 im.0 ∙ sym (eqb-true n.group.0 group.0 in_n.0);
        vlans = eqb-true m.vid vid im.1 ∙ sym (eqb-true n.vid vid in_n.1);
        ips = same_ip m.ip ip om.1 ∙ sym (same_ip n.ip ip on.1);
      }

  pub none_behind : (n : NeighRec) (ns : List NeighRec) → test n ≡ true → AllByRecursion (λ m. IsSameNeighbour n m → ⊥) ns → find test ns ≡ None
  none_behind n [] here alone = refl
  none_behind n (m ∷ ms) here alone =
      elim (cases_Bool (test m)) [
        | inl too ↦ absurd (alone.0 (one_key n m here too))
        | inr off ↦ ap (λ (b : Bool). cond b (Some m) (find test ms)) off ∙ none_behind n ms here alone.1
      ]

  module _ (conf : Configuration) (moment : ℕ) where
    next_kept : (n : NeighRec) (ns : List NeighRec) → AllByRecursion (λ m. IsSameNeighbour n m → ⊥) ns → is_spent n ≡ false
        → mac_in (find test (option_map_or (λ m. m ∷ ns) (next conf moment n) ns)) ≡ mac_in (find test (n ∷ ns))
    next_kept n ns alone kept = by (nat_lt n.tries most_tries) (is_gateway conf n) kept
      where
        by : (t g : Bool) → (is_some n.mac && not t) ≡ false
            → mac_in (find test (option_map_or (λ m. m ∷ ns) (if t then Some (asked_once moment n) else if g then Some (asked_on moment n) else None) ns)) ≡ mac_in (cond (test n) (Some n) (find test ns))
        by true g is = elim (test n) as (λ b. mac_in (cond b (Some (asked_once moment n)) (find test ns)) ≡ mac_in (cond b (Some n) (find test ns))) [ true ↦ refl | false ↦ refl ]
        by false true is =
            elim (test n) as (λ b. mac_in (cond b (Some (asked_on moment n)) (find test ns)) ≡ mac_in (cond b (Some n) (find test ns))) [ true ↦ sym (unknown n.mac is) | false ↦ refl ]
        by false false is =
            elim (cases_Bool (test n)) [
              | inl here ↦ ap mac_in (none_behind n ns here alone) ∙ sym (unknown n.mac is) ∙ sym (ap (λ (b : Bool). mac_in (cond b (Some n) (find test ns))) here)
              | inr off ↦ sym (ap (λ (b : Bool). mac_in (cond b (Some n) (find test ns))) off)
            ]

    pub kept_mac : (ns : List NeighRec) → AreApart ns → is_lost moment ns ≡ false → mac_of_neighbour (after_due conf moment ns) group vid ip ≡ mac_of_neighbour ns group vid ip
    kept_mac [] apart kept = refl
    kept_mac (n ∷ ns) apart kept =
        elim (cases_Bool (is_due moment n)) [
          | inl comes ↦
              ap (λ (b : Bool). mac_in (find test (if b then option_map_or (λ m. m ∷ ns) (next conf moment n) ns else n ∷ after_due conf moment ns))) comes
              ∙ next_kept n ns apart.0 (sym (ap (λ (b : Bool). option_map_or is_spent (cond b (Some n) (first_due moment ns)) false) comes) ∙ kept)
          | inr other ↦
              let rest = kept_mac ns apart.1 (sym (ap (λ (b : Bool). option_map_or is_spent (cond b (Some n) (first_due moment ns)) false) other) ∙ kept) in
              ap (λ (b : Bool). mac_in (find test (if b then option_map_or (λ m. m ∷ ns) (next conf moment n) ns else n ∷ after_due conf moment ns))) other
              ∙ elim (test n) as (λ b. mac_in (cond b (Some n) (find test (after_due conf moment ns))) ≡ mac_in (cond b (Some n) (find test ns))) [ true ↦ refl | false ↦ rest ]
        ]

-- what a neighbour that is due names
module _ (d : Due) (w : World) (said : due_said w.conf w.moment.0 w.neighbours.neighbours ≡ Some d) (apart : AreApart w.neighbours.neighbours) where
  kept_named : is_lost w.moment.0 w.neighbours.neighbours ≡ false → Names w (take_due w) []
  kept_named kept = neighbours_named w (take_due w).neighbours [] (λ group vid ip other. absurd (other (sym (kept_mac group vid ip w.conf w.moment.0 w.neighbours.neighbours apart kept))))

  pub lost_named : Names w (say_due d (take_due w)) (lost w d)
  lost_named = by (is_lost w.moment.0 w.neighbours.neighbours) refl
    where
      by : (b : Bool) → is_lost w.moment.0 w.neighbours.neighbours ≡ b → Names w (say_due d (take_due w)) (if b then due d ∷ [] else [])
      by true is = ask_named d w said
      by false is = then_quiet w (take_due w) (say_due d (take_due w)) [] (kept_named is) (say_due_quiet d (take_due w))
