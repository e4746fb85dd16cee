-- A match that is read has its fields in ascending order.
use Rattle.std.proofs.Common.{◌≡◌, ℕ, suc, ◌<◌, Bool, true, false, cond, eqb, ltb, List, [], ◌∷◌, ◌++◌, length, Option, Some, None, refl, sym, ap, ◌∙◌, subst, arith, inl, inr, append_assoc}
use Rattle.std.specs.List.{AllByRecursion, list_any, position_or_len}
use Rattle.std.proofs.lemmas.Bool.{le-ltb, lt-ltb, eqb-false, or_parts, cond-false, cond-true, cases_lt}
use Rattle.std.proofs.lemmas.List.{append-nil}
use Rattle.net_base.specs.declared.field.Field.{Field}
use Rattle.net_base.specs.FieldId.{number_of}
use Rattle.net_base.specs.WellFormed.{AreAscending}
use Rattle.of_wire.specs.Grammar.{Joined}
use Rattle.of_wire.specs.Spelling.{placed, placed_at, first_above, stands, SpellsItem, SpellsAnyMatch, known}
use Rattle.of_wire.proofs.FieldOrder.{view, view_some, view_none, stands_in_order, any_in_order}

abbrev above : ℕ → Field → Bool
above n g = ltb n (number_of g.id)

-- a field in its place, by recursion
abbrev put : Field → List Field → List Field
put f [] = f ∷ []
put f (g ∷ fields) = cond (above (number_of f.id) g) (f ∷ g ∷ fields) (g ∷ put f fields)

abbrev shift : Option ℕ → Option ℕ
shift None = None
shift (Some i) = Some (suc i)

first_cons : (n : ℕ) (g : Field) (fields : List Field) → first_above n (g ∷ fields) ≡ cond (above n g) (Some 0) (shift (first_above n fields))
first_cons n g fields =
    let whole = position_or_len (λ (h : Field). above n h) (g ∷ fields) in
    let size = suc (length fields) in
    let inner = position_or_len (λ (h : Field). above n h) fields in
    elim (cases_lt n (number_of g.id)) [
      | inl lt ↦
          let t : above n g ≡ true = lt-ltb _ _ lt in
          let zero_ : whole ≡ 0 = rw t refl in
          let r : ltb whole size ≡ true = lt-ltb _ _ (omega (arith, zero_)) in
          cond-true (ltb whole size) (Some whole) None r ∙ ap Some zero_ ∙ sym (cond-true (above n g) (Some 0) (shift (first_above n fields)) t)
      | inr ge ↦
          let t : above n g ≡ false = le-ltb _ _ ge in
          let more : whole ≡ suc inner = rw t (omega arith) in
          elim (cases_lt inner (length fields)) [
            | inl lt ↦
                let a : ltb whole size ≡ true = lt-ltb _ _ (omega (arith, more)) in
                let b : ltb inner (length fields) ≡ true = lt-ltb _ _ lt in
                cond-true (ltb whole size) (Some whole) None a ∙ ap Some more
                ∙ sym (cond-false (above n g) (Some 0) (shift (first_above n fields)) t ∙ ap shift (cond-true (ltb inner (length fields)) (Some inner) None b))
            | inr past ↦
                let a : ltb whole size ≡ false = le-ltb _ _ (omega (arith, more)) in
                let b : ltb inner (length fields) ≡ false = le-ltb _ _ past in
                cond-false (ltb whole size) (Some whole) None a
                ∙ sym (cond-false (above n g) (Some 0) (shift (first_above n fields)) t ∙ ap shift (cond-false (ltb inner (length fields)) (Some inner) None b))
          ]
    ]

placed_shift : (o : Option ℕ) (f g : Field) (fields : List Field) → placed_at (shift o) f (g ∷ fields) ≡ g ∷ placed_at o f fields
placed_shift None f g fields = refl
placed_shift (Some i) f g fields = refl

placed_is : (f : Field) (fields : List Field) → placed f fields ≡ put f fields
unfolding placed
placed_is f [] = refl
placed_is f (g ∷ fields) = elim (cases_lt (number_of f.id) (number_of g.id)) [
  | inl lt ↦
      let t : above (number_of f.id) g ≡ true = lt-ltb _ _ lt in
      let first : first_above (number_of f.id) (g ∷ fields) ≡ Some 0 = first_cons (number_of f.id) g fields ∙ cond-true _ _ _ t in
      ap (λ o. placed_at o f (g ∷ fields)) first ∙ sym (cond-true (above (number_of f.id) g) (f ∷ g ∷ fields) (g ∷ put f fields) t)
  | inr ge ↦
      let t : above (number_of f.id) g ≡ false = le-ltb _ _ ge in
      let first : first_above (number_of f.id) (g ∷ fields) ≡ shift (first_above (number_of f.id) fields) = first_cons (number_of f.id) g fields ∙ cond-false _ _ _ t in
      ap (λ o. placed_at o f (g ∷ fields)) first ∙ placed_shift (first_above (number_of f.id) fields) f g fields ∙ ap (λ l. g ∷ l) (placed_is f fields)
      ∙ sym (cond-false (above (number_of f.id) g) (f ∷ g ∷ fields) (g ∷ put f fields) t)
]

abbrev AllAbove : ℕ → List Field → Type 0
AllAbove n fields = AllByRecursion (λ g. n < number_of g.id) fields

higher : (m n : ℕ) (fields : List Field) → m < n → AllAbove n fields → AllAbove m fields
higher m n [] h k = tt
higher m n (g ∷ fields) h k = (omega (arith, k.0), higher m n fields h k.1)

put_above : (n : ℕ) (f : Field) (fields : List Field) → n < number_of f.id → AllAbove n fields → AllAbove n (put f fields)
put_above n f [] h k = (h, tt)
put_above n f (g ∷ fields) h k = elim (cases_lt (number_of f.id) (number_of g.id)) [
  | inl lt ↦ let t : above (number_of f.id) g ≡ true = lt-ltb _ _ lt in rw t (h, k)
  | inr ge ↦ let t : above (number_of f.id) g ≡ false = le-ltb _ _ ge in rw t (k.0, put_above n f fields h k.1)
]

put_ascends : (f : Field) (fields : List Field) → stands f.id fields ≡ false → AreAscending fields → AreAscending (put f fields)
put_ascends f [] s h = (tt, tt)
put_ascends f (g ∷ fields) s h =
    let parts = or_parts (eqb (number_of g.id) (number_of f.id)) (stands f.id fields) s in
    let ne : number_of g.id ≡ number_of f.id → ⊥ = eqb-false _ _ parts.0 in
    elim (cases_lt (number_of f.id) (number_of g.id)) [
      | inl lt ↦ let t : above (number_of f.id) g ≡ true = lt-ltb _ _ lt in rw t ((lt, higher (number_of f.id) (number_of g.id) fields lt h.0), h)
      | inr ge ↦
          let t : above (number_of f.id) g ≡ false = le-ltb _ _ ge in
          rw t (put_above (number_of g.id) f fields (omega (arith, ne)) h.0, put_ascends f fields parts.1 h.1)
    ]

items_ascend : (strict : Bool) (before items : List (Option Field)) (bytes : List ℕ) → AreAscending (view before) → Joined (SpellsItem strict) before items bytes → AreAscending (view (before ++ items))
items_ascend strict before [] bytes h j = subst (λ l. AreAscending (view l)) (sym (append-nil before)) h
items_ascend strict before (Some f ∷ items) bytes h j =
    let may = j.in_front.1 in
    let once : stands f.id (view before) ≡ false = stands_in_order f.id (known before) ∙ may.once in
    let next : AreAscending (view (before ++ Some f ∷ [])) = subst (λ l. AreAscending l) (sym (view_some before f ∙ placed_is f (view before))) (put_ascends f (view before) once h) in
    subst (λ l. AreAscending (view l)) (append_assoc before (Some f ∷ []) items) (items_ascend strict (before ++ Some f ∷ []) items j.rest next j.behind)
items_ascend strict before (None ∷ items) bytes h j =
    let next : AreAscending (view (before ++ None ∷ [])) = subst (λ l. AreAscending l) (sym (view_none before)) h in
    subst (λ l. AreAscending (view l)) (append_assoc before (None ∷ []) items) (items_ascend strict (before ++ None ∷ []) items j.rest next j.behind)

pub fields_ascend : (strict : Bool) (fields : List Field) (bytes : List ℕ) → SpellsAnyMatch strict fields bytes → AreAscending fields
fields_ascend strict fields bytes p =
    let b = p.parts.behind in
    let c = b.behind in
    let inside = c.in_front in
    subst (λ l. AreAscending l) (sym p.sorted) (items_ascend strict [] p.items c.first tt inside.1)

-- the fields of a match are those that are known among what stands in its bytes
pub same_fields : (strict : Bool) (fields : List Field) (bytes : List ℕ) (m : SpellsAnyMatch strict fields bytes) (p : Field → Bool) → list_any p fields ≡ list_any p (known m.items)
same_fields strict fields bytes m p = ap (list_any p) m.sorted ∙ any_in_order p (known m.items)
