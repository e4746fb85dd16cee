-- What is kept under an address, where an address is new and where there is none.
use Rattle.std.proofs.Common.{◌≡◌, ◌==◌, ◌++◌, true, false, cond, Option, Some, None, List, [], ◌∷◌, inl, inr, refl, sym, ap, ◌∙◌, nat_eq, if◌then◌else◌, append-nil}
use Rattle.std.specs.Cmp.Lexicographic.{pointwise, same_text}
use Rattle.std.specs.Option.{option_map_or}
use Rattle.std.proofs.lemmas.Bool.{cases_Bool, and_parts, eqb-true}
use Rattle.indexmap.specs.IndexMap.{IndexMap, get, Updates, UpdatesBy}
use Rattle.host_list.specs.declared.addresses.Address.{Address}
use Rattle.host_list.specs.declared.addresses.Standing.{Standing}
use Rattle.host_list.specs.Addresses.{Entry, entries_at, entries_of, is_address}

pub same_address : (a b : Address) → is_address a b ≡ true → a ≡ b
same_address a b e =
    let both = and_parts (a.vid == b.vid) (pointwise nat_eq a.mac.0 b.mac.0) e in
    let vid = eqb-true a.vid b.vid both.0 in
    let mac = same_text a.mac.0 b.mac.0 (sym both.1) in
    (λ i. record { vid = vid i; mac = (record { 0 = mac i }) })

pub flips : (a b : Address) → is_address a b ≡ is_address b a
flips a b =
    elim (cases_Bool (is_address a b)) [
      | inl e ↦ let is = same_address a b e in ap (λ c. is_address c b) is ∙ ap (is_address b) (sym is)
      | inr e ↦ elim (cases_Bool (is_address b a)) [
        | inl f ↦ let is = same_address b a f in ap (λ c. is_address a c) is ∙ ap (λ c. is_address c a) (sym is)
        | inr f ↦ e ∙ sym f
      ]
    ]

module _ {S : Type 0} (old : IndexMap Address Standing S) (a : Address) where
  none_at : get is_address old a ≡ None → (q : Address) → is_address a q ≡ true → entries_at old q ≡ []
  none_at none q e = ap (entries_at old) (sym (same_address a q e)) ∙ ap (λ o. option_map_or entries_of o []) none

  -- where nothing is kept, there is nothing to change
  pub absent : get is_address old a ≡ None → (f : List Entry → List Entry) → f [] ≡ [] → (q : Address) → entries_at old q ≡ (if is_address a q then f (entries_at old q) else entries_at old q)
  absent none f stays q =
      elim (cases_Bool (is_address a q)) [
        | inl e ↦ none_at none q e ∙ sym stays ∙ ap f (sym (none_at none q e)) ∙ sym (ap (λ b. cond b (f (entries_at old q)) (entries_at old q)) e)
        | inr e ↦ sym (ap (λ b. cond b (f (entries_at old q)) (entries_at old q)) e)
      ]

  -- a first entry
  pub inserted : (new : IndexMap Address Standing S) (v : Standing) (entry : Entry) → Updates is_address old new a (Some v) → entries_of v ≡ entry ∷ [] → get is_address old a ≡ None
      → (q : Address) → entries_at new q ≡ entries_at old q ++ (if is_address a q then entry ∷ [] else [])
  inserted new v entry up items none q =
      let read : Option Standing → List Entry = λ o. option_map_or entries_of o [] in
      elim (cases_Bool (is_address a q)) [
        | inl e ↦ ap read (up.0 q ∙ ap (λ b. cond b (Some v) (get is_address old q)) e) ∙ items
            ∙ sym (ap (λ b. entries_at old q ++ cond b (entry ∷ []) []) e ∙ ap (λ es. es ++ entry ∷ []) (none_at none q e))
        | inr e ↦ ap read (up.0 q ∙ ap (λ b. cond b (Some v) (get is_address old q)) e)
            ∙ sym (ap (λ b. entries_at old q ++ cond b (entry ∷ []) []) e ∙ append-nil (entries_at old q))
      ]

  -- what is written over the entries
  pub written : (new : IndexMap Address Standing S) (v w : Standing) → get is_address old a ≡ Some v → UpdatesBy is_address (is_address a) old new (Some w) → (f : List Entry → List Entry) → entries_of w ≡ f (entries_of v)
      → (q : Address) → entries_at new q ≡ (if is_address a q then f (entries_at old q) else entries_at old q)
  written new v w here up f items q =
      let read : Option Standing → List Entry = λ o. option_map_or entries_of o [] in
      elim (cases_Bool (is_address a q)) [
        | inl e ↦ ap read (up.0 q ∙ ap (λ b. cond b (Some w) (get is_address old q)) e) ∙ items ∙ ap f (sym (ap read (ap (get is_address old) (sym (same_address a q e)) ∙ here)))
            ∙ sym (ap (λ b. cond b (f (entries_at old q)) (entries_at old q)) e)
        | inr e ↦ ap read (up.0 q ∙ ap (λ b. cond b (Some w) (get is_address old q)) e) ∙ sym (ap (λ b. cond b (f (entries_at old q)) (entries_at old q)) e)
      ]

  -- the same entries
  pub rewritten : (new : IndexMap Address Standing S) (v w : Standing) → get is_address old a ≡ Some v → UpdatesBy is_address (is_address a) old new (Some w) → entries_of w ≡ entries_of v → (q : Address) → entries_at new q ≡ entries_at old q
  rewritten new v w here up items q =
      written new v w here up (λ es. es) items q ∙ elim (is_address a q) as (λ b. cond b (entries_at old q) (entries_at old q) ≡ entries_at old q) [ true ↦ refl | false ↦ refl ]

  -- one entry more
  pub more : (new : IndexMap Address Standing S) (v w : Standing) (entry : Entry) → get is_address old a ≡ Some v → UpdatesBy is_address (is_address a) old new (Some w) → entries_of w ≡ entries_of v ++ entry ∷ []
      → (q : Address) → entries_at new q ≡ entries_at old q ++ (if is_address a q then entry ∷ [] else [])
  more new v w entry here up items q =
      written new v w here up (λ es. es ++ entry ∷ []) items q
      ∙ elim (is_address a q) as (λ b. cond b (entries_at old q ++ entry ∷ []) (entries_at old q) ≡ entries_at old q ++ cond b (entry ∷ []) []) [ true ↦ refl | false ↦ sym (append-nil (entries_at old q)) ]

  -- an address that is taken out
  pub gone : (new : IndexMap Address Standing S) → UpdatesBy is_address (is_address a) old new None → (f : List Entry → List Entry) → f (entries_at old a) ≡ []
      → (q : Address) → entries_at new q ≡ (if is_address a q then f (entries_at old q) else entries_at old q)
  gone new up f none q =
      let read : Option Standing → List Entry = λ o. option_map_or entries_of o [] in
      elim (cases_Bool (is_address a q)) [
        | inl e ↦ ap read (up.0 q ∙ ap (λ b. cond b None (get is_address old q)) e) ∙ sym none ∙ ap (λ k. f (entries_at old k)) (same_address a q e)
            ∙ sym (ap (λ b. cond b (f (entries_at old q)) (entries_at old q)) e)
        | inr e ↦ ap read (up.0 q ∙ ap (λ b. cond b None (get is_address old q)) e) ∙ sym (ap (λ b. cond b (f (entries_at old q)) (entries_at old q)) e)
      ]
