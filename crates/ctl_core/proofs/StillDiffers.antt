-- What a settling touches differs from what was known behind the settling before.
use Rattle.std.proofs.Common.{◌≡◌, true, false, not, nat_lt, is_some, Option, Some, None, List, ◌++◌, refl, inl, inr, sym, ap, ◌∙◌, true≢false}
use Rattle.std.specs.Prelude.{Contains}
use Rattle.std.specs.List.{AllByRecursion}
use Rattle.std.specs.Option.{option_eq}
use Rattle.std.proofs.lemmas.Bool.{and_parts, cases_Bool}
use Rattle.net_base.specs.declared.address.Mac.{Mac}
use Rattle.conf_types.specs.declared.change.Change.{Change}
use Rattle.conf_types.specs.declared.state.NeighRec.{NeighRec}
use Rattle.conf_types.specs.Changes.{AreNamed, mac_of_neighbour}
use Rattle.conf_types.specs.Configuration.{Configuration}
use Rattle.law_names.specs.Differing.{differs, is_one_address}
use Rattle.law_names.proofs.Alone.{first_alone}
use Rattle.law_names.proofs.Counted.{named_within}
use Rattle.law_runs.specs.Members.{all_by, all_joined, of_all}
use Rattle.neighbour_resolve.specs.Due.{is_spent, most_tries}
use Rattle.ctl_world.specs.World.{IsSound, World, now}
use Rattle.ctl_settle.specs.Asked.{IsLost, all_asked}
use Rattle.ctl_core.proofs.Exact.{mac_itself, own_mac}
use Rattle.ctl_core.proofs.Spent.{AreOld}

-- ---- neighbours that are lost

not_alone : (o : Option Mac) → is_some o ≡ true → not (option_eq is_one_address o None) ≡ true
not_alone None is = absurd (true≢false (sym is))
not_alone (Some m) is = refl

abbrev mac_in : World → NeighRec → Option Mac
mac_in w n = mac_of_neighbour w.neighbours.neighbours n.group n.vid n.ip

module _ (was w is : World) (sound_was : IsSound was) (sound : IsSound w) (old : AreOld was.neighbours.neighbours w.neighbours.neighbours) (conf : Configuration) where
  known : (n : NeighRec) → Contains w.neighbours.neighbours n → is_spent n ≡ true → mac_in was n ≡ n.mac
  known n there spent = own_mac was.neighbours.neighbours sound_was.valid.neighbour_keys n (old n there spent)

  -- they were known behind the settling before
  lost_same : (c : Change) → IsLost w is c → differs conf (now was) (now w) c ≡ false
  lost_same c lost =
      let n = lost.one in
      ap (differs conf (now was) (now w)) lost.named
      ∙ (λ i. not (option_eq is_one_address (known n lost.there lost.spent i) (own_mac w.neighbours.neighbours sound.valid.neighbour_keys n lost.there i)))
      ∙ ap not (mac_itself n.mac)

  lost_differs : (c : Change) → IsLost w is c → differs conf (now was) (now is) c ≡ true
  lost_differs c lost =
      let n = lost.one in
      ap (differs conf (now was) (now is)) lost.named
      ∙ (λ i. not (option_eq is_one_address (known n lost.there lost.spent i) (lost.gone i)))
      ∙ not_alone n.mac (and_parts (is_some n.mac) (not (nat_lt n.tries most_tries)) lost.spent).0

  module _ (named : AreNamed conf (now w) (now is) (all_asked w)) (lost : AllByRecursion (IsLost w is) (all_asked w)) where
    still_differs : (c : Change) → differs conf (now was) (now w) c ≡ true → differs conf (now was) (now is) c ≡ true
    still_differs c other = elim (cases_Bool (differs conf (now w) (now is) c)) [
      | inl again ↦
          let one : IsLost w is c = of_all (IsLost w is) (all_asked w) lost c (named_within conf (now w) (now is) (all_asked w) named c again) in
          absurd (true≢false (sym other ∙ lost_same c one))
      | inr still ↦ first_alone conf (now was) (now w) (now is) c other still
    ]

    pub all_differ : (changes : List Change) → AllByRecursion (λ c. differs conf (now was) (now w) c ≡ true) changes → AllByRecursion (λ c. differs conf (now was) (now is) c ≡ true) (changes ++ all_asked w)
    all_differ changes all =
        all_joined (λ c. differs conf (now was) (now is) c ≡ true) changes (all_asked w)
        (all_by (λ c. differs conf (now was) (now is) c ≡ true) changes (λ c within. still_differs c (of_all (λ x. differs conf (now was) (now w) x ≡ true) changes all c within)))
        (all_by (λ c. differs conf (now was) (now is) c ≡ true) (all_asked w) (λ c within. lost_differs c (of_all (IsLost w is) (all_asked w) lost c within)))
