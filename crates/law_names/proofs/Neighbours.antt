-- Neighbours that are wanted, heard, due, or go.
use Rattle.std.proofs.Common.{◌≡◌, ℕ, Bool, true, false, cond, ◌==◌, ◌&&◌, not, if◌then◌else◌, List, [], ◌∷◌, ◌++◌, map, filter, is_some, Option, Some, None, nat_lt, inl, inr, refl, sym, ap, ◌∙◌, subst, eqb-true, true≢false}
use Rattle.std.specs.Prelude.{Contains}
use Rattle.std.specs.List.{find}
use Rattle.std.specs.Option.{option_and_then, option_map, option_map_or}
use Rattle.std.proofs.lemmas.Bool.{and_parts, cases_Bool}
use Rattle.std.proofs.lemmas.Option.{none-some, same_Some}
use Rattle.conf_types.specs.declared.address.Ip.{Ip}
use Rattle.net_base.specs.declared.address.Mac.{Mac}
use Rattle.net_base.specs.declared.numbers.DpId.{DpId}
use Rattle.conf_types.specs.declared.state.NeighRec.{NeighRec}
use Rattle.conf_types.specs.Configuration.{Configuration}
use Rattle.conf_types.specs.Families.{is_same_ip}
use Rattle.conf_types.specs.Changes.{mac_of_neighbour}
use Rattle.neighbour_resolve.specs.declared.neighbour.Due.{Due}
use Rattle.neighbour_resolve.specs.declared.neighbour.Due.TheVariants as dues
use Rattle.neighbour_resolve.specs.declared.neighbour.Want.{Want}
use Rattle.neighbour_resolve.specs.declared.neighbour.Want.TheVariants as wants
use Rattle.neighbour_resolve.specs.Due.{after_due, asked, asked_on, due_said, first_due, is_due, is_gateway, most_tries, next, said_of}
use Rattle.neighbour_resolve.specs.Table.{gives_way, is_same, neighbours_after, stays}
use Rattle.law_runs.specs.Members.{head_of}
use Rattle.conf_types.specs.declared.change.Change.TheVariants as change
use Rattle.conf_types.proofs.Families.{same_ip}
use Rattle.law_names.specs.Differing.{neighbour}
use Rattle.law_names.specs.Dues.{due}
use Rattle.law_names.proofs.Left.{appended, left_named, mapped}

module _ (group : DpId) (vid : ℕ) (ip : Ip) where
  abbrev pub key : NeighRec → Bool
  key n = n.group.0 == group.0 && n.vid == vid && is_same_ip n.ip ip

  abbrev mac_in : Option NeighRec → Option Mac
  mac_in o = option_and_then (λ n. n.mac) o

  pub key_named : (n : NeighRec) → key n ≡ true → neighbour n ≡ change.Neighbour group vid ip
  key_named n is =
      let outer = and_parts (n.group.0 == group.0 && n.vid == vid) (is_same_ip n.ip ip) is in
      let inner = and_parts (n.group.0 == group.0) (n.vid == vid) outer.0 in
      let groups : n.group.0 ≡ group.0 = eqb-true n.group.0 group.0 inner.0 in
      let vids : n.vid ≡ vid = eqb-true n.vid vid inner.1 in
      let ips : n.ip ≡ ip = same_ip n.ip ip outer.1 in
      λ i. change.Neighbour (record { 0 = groups i }) (vids i) (ips i)

  pub gone_named : (keep : NeighRec → Bool) (ns : List NeighRec) → (mac_of_neighbour ns group vid ip ≡ mac_of_neighbour (filter keep ns) group vid ip → ⊥)
      → Contains (map neighbour (filter (λ n. not (keep n)) ns)) (change.Neighbour group vid ip)
  gone_named keep ns other = left_named (option_and_then (λ (n : NeighRec). n.mac)) key keep neighbour (change.Neighbour group vid ip) key_named ns other

  -- ---- one is told

  like : (a b : NeighRec) → is_same a b ≡ true → key b ≡ key a
  like a b is =
      let outer = and_parts (a.group.0 == b.group.0 && a.vid == b.vid) (is_same_ip a.ip b.ip) is in
      let inner = and_parts (a.group.0 == b.group.0) (a.vid == b.vid) outer.0 in
      let groups : b.group.0 ≡ a.group.0 = sym (eqb-true a.group.0 b.group.0 inner.0) in
      let vids : b.vid ≡ a.vid = sym (eqb-true a.vid b.vid inner.1) in
      let ips : b.ip ≡ a.ip = sym (same_ip a.ip b.ip outer.1) in
      λ i. (groups i == group.0 && vids i == vid) && is_same_ip (ips i) ip

  way_like : (keeps : NeighRec → Bool) (told n : NeighRec) → gives_way keeps told n ≡ true → key n ≡ key told
  way_like keeps told n is = like told n (and_parts (is_same told n) (not (keeps n)) is).0

  others_stay : (keeps : NeighRec → Bool) (told : NeighRec) → key told ≡ false → (ns : List NeighRec) (o : Want) → find key (neighbours_after keeps told ns o) ≡ find key ns
  others_stay keeps told out ns wants.Known = mapped key (gives_way keeps told) (λ n. told) (λ n is. record { before = way_like keeps told n is ∙ out; after = out }) ns
  others_stay keeps told out ns wants.Full = refl
  others_stay keeps told out ns wants.Added = appended key told out ns

  pub told_named : (keeps : NeighRec → Bool) (told : NeighRec) (ns : List NeighRec) (o : Want) → (mac_of_neighbour ns group vid ip ≡ mac_of_neighbour (neighbours_after keeps told ns o) group vid ip → ⊥)
      → Contains (neighbour told ∷ []) (change.Neighbour group vid ip)
  told_named keeps told ns o other = elim (cases_Bool (key told)) [
    | inl is ↦ subst (λ c. Contains (neighbour told ∷ []) c) (key_named told is) (head_of (neighbour told) [])
    | inr out ↦ absurd (other (ap mac_in (sym (others_stay keeps told out ns o))))
  ]

  -- ---- one is wanted: nothing is known of it, before or after

  no_mac : (o : Option Mac) → not (true && is_some o) ≡ true → o ≡ None
  no_mac None is = refl
  no_mac (Some m) is = absurd (true≢false (sym is))

  module _ (told : NeighRec) (unknown : told.mac ≡ None) where
    replaced_same : (ns : List NeighRec) → mac_in (find key (map (λ n. if gives_way (stays true) told n then told else n) ns)) ≡ mac_in (find key ns)
    replaced_same [] = refl
    replaced_same (n ∷ ns) = by (gives_way (stays true) told n) refl (replaced_same ns)
      where
        rest : Option NeighRec
        rest = find key (map (λ m. if gives_way (stays true) told m then told else m) ns)

        first : (b : Bool) (m : NeighRec) → m.mac ≡ n.mac → mac_in rest ≡ mac_in (find key ns) → mac_in (cond b (Some m) rest) ≡ mac_in (cond b (Some n) (find key ns))
        first true m mac more = mac
        first false m mac more = more

        by : (b : Bool) → gives_way (stays true) told n ≡ b → mac_in rest ≡ mac_in (find key ns)
            → mac_in (cond (key (if b then told else n)) (Some (if b then told else n)) rest) ≡ mac_in (cond (key n) (Some n) (find key ns))
        by true is more =
            let none : n.mac ≡ None = no_mac n.mac (and_parts (is_same told n) (not (stays true n)) is).1 in
            ap (λ b. mac_in (cond b (Some told) rest)) (sym (way_like (stays true) told n is)) ∙ first (key n) told (unknown ∙ sym none) more
        by false is more = first (key n) n refl more

    added_same : (ns : List NeighRec) → mac_in (find key (ns ++ told ∷ [])) ≡ mac_in (find key ns)
    added_same [] = elim (key told) as (λ b. mac_in (cond b (Some told) None) ≡ None) [ true ↦ unknown | false ↦ refl ]
    added_same (n ∷ ns) = by (key n) (added_same ns)
      where
        by : (b : Bool) → mac_in (find key (ns ++ told ∷ [])) ≡ mac_in (find key ns) → mac_in (cond b (Some n) (find key (ns ++ told ∷ []))) ≡ mac_in (cond b (Some n) (find key ns))
        by true more = refl
        by false more = more

    pub wanted_same : (ns : List NeighRec) (o : Want) → mac_of_neighbour (neighbours_after (stays true) told ns o) group vid ip ≡ mac_of_neighbour ns group vid ip
    wanted_same ns wants.Known = replaced_same ns
    wanted_same ns wants.Full = refl
    wanted_same ns wants.Added = added_same ns

  -- ---- one is due

  module _ (conf : Configuration) (moment : ℕ) where
    next_out : (n : NeighRec) → key n ≡ false → (more : List NeighRec) → find key (option_map_or (λ m. m ∷ more) (next conf moment n) more) ≡ find key more
    next_out n out more = by (nat_lt n.tries most_tries) (is_gateway conf n)
      where
        by : (t g : Bool) → find key (option_map_or (λ m. m ∷ more) (if t then Some (asked moment n) else if g then Some (asked_on moment n) else None) more) ≡ find key more
        by true g = ap (λ b. cond b (Some (asked moment n)) (find key more)) out
        by false true = ap (λ b. cond b (Some (asked_on moment n)) (find key more)) out
        by false false = refl

    due_out : (n : NeighRec) → key n ≡ false → (ns : List NeighRec) → first_due moment ns ≡ Some n → find key (after_due conf moment ns) ≡ find key ns
    due_out n out [] is = absurd (none-some n is)
    due_out n out (m ∷ ms) is = by (is_due moment m) (λ e. due_out n out ms e) is
      where
        by : (b : Bool) → (first_due moment ms ≡ Some n → find key (after_due conf moment ms) ≡ find key ms) → cond b (Some m) (first_due moment ms) ≡ Some n
            → find key (if b then option_map_or (λ x. x ∷ ms) (next conf moment m) ms else m ∷ after_due conf moment ms) ≡ cond (key m) (Some m) (find key ms)
        by true more e =
            let out_m : key m ≡ false = ap key (same_Some m n e) ∙ out in
            next_out m out_m ms ∙ sym (ap (λ b. cond b (Some m) (find key ms)) out_m)
        by false more e = ap (cond (key m) (Some m)) (more e)

    due_is : (n : NeighRec) → due (said_of conf moment n) ≡ neighbour n
    due_is n = elim (is_some (next conf moment n)) as (λ b. due (if b then dues.Ask n.group n.vid n.ip else dues.Gone n.group n.vid n.ip) ≡ neighbour n) [ true ↦ refl | false ↦ refl ]

    pub due_named : (ns : List NeighRec) (d : Due) → due_said conf moment ns ≡ Some d → (mac_of_neighbour ns group vid ip ≡ mac_of_neighbour (after_due conf moment ns) group vid ip → ⊥)
        → Contains (due d ∷ []) (change.Neighbour group vid ip)
    due_named ns d said other = by (first_due moment ns) refl said
      where
        by : (o : Option NeighRec) → first_due moment ns ≡ o → option_map (said_of conf moment) o ≡ Some d → Contains (due d ∷ []) (change.Neighbour group vid ip)
        by None is e = absurd (none-some d e)
        by (Some n) is e = elim (cases_Bool (key n)) [
          | inl here ↦
              let same : due d ≡ change.Neighbour group vid ip = ap due (sym (same_Some (said_of conf moment n) d e)) ∙ due_is n ∙ key_named n here in
              subst (λ c. Contains (due d ∷ []) c) same (head_of (due d) [])
          | inr out ↦ absurd (other (ap mac_in (sym (due_out n out ns is))))
        ]
