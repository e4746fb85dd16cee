-- The field that a header names, and the field of a number.
use Rattle.std.proofs.Common.{◌≡◌, ℕ, ◌/◌, ◌≤◌, Bool, true, false, cond, eqb, eq-eqb, List, [], ◌∷◌, Option, Some, None, refl, sym, ap, ◌∙◌, arith, inl, inr, ◌⊎◌}
use Rattle.std.specs.Prelude.{IfSome, IfNone}
use Rattle.std.specs.List.{find}
use Rattle.std.proofs.lemmas.Bool.{eqb-true}
use Rattle.net_base.specs.declared.field.FieldId.{FieldId}
use Rattle.net_base.specs.FieldId.{all_fields, number_of}
use Rattle.net_base.proofs.Rows as rows
use Rattle.of_wire.specs.Numbers.{number_in}
use Rattle.of_wire.specs.Reading.{field_numbered, field_named}

either : {A : Type 0} (b : Bool) (p q r : Option A) → cond b p q ≡ r → ((b ≡ true) × (p ≡ r)) ⊎ ((b ≡ false) × (q ≡ r))
either true p q r e = inl (refl, e)
either false p q r e = inr (refl, e)

among : (n : ℕ) (ids : List FieldId) (id : FieldId) → find (λ other. eqb (number_of other) n) ids ≡ Some id → n ≡ number_of id
among n [] id e = absurd (cc)
among n (x ∷ more) id e = elim (either (eqb (number_of x) n) (Some x) (find (λ other. eqb (number_of other) n) more) (Some id) e) [
  | inl p ↦ let same : x ≡ id = cc in sym (eqb-true _ _ p.0) ∙ ap number_of same
  | inr p ↦ among n more id p.1
]

pub numbered : (n : ℕ) (id : FieldId) → field_numbered n ≡ Some id → n ≡ number_of id
unfolding field_numbered
numbered n id e = among n all_fields id e

pub numbered_again : (id : FieldId) → field_numbered (number_of id) ≡ Some id
unfolding field_numbered
numbered_again id = rows.numbered_again id

-- a field of that number, or none where no field has it
pub is_numbered : (n : ℕ) (r : Option FieldId) → IfSome r (λ id. number_of id ≡ n) → IfNone r ((id : FieldId) → number_of id ≡ n → ⊥) → r ≡ field_numbered n
is_numbered n (Some id) found none = sym (numbered_again id) ∙ ap field_numbered found
is_numbered n None found none = by_answer (field_numbered n) refl
  where
    by_answer : (o : Option FieldId) → field_numbered n ≡ o → None ≡ field_numbered n
    by_answer None e = sym e
    by_answer (Some id) e = absurd (none id (sym (numbered n id e)))

pub named : (bytes : List ℕ) (id : FieldId) → field_named bytes ≡ Some id → (number_in 0 2 bytes ≡ 0x8000) × (number_in 2 1 bytes / 2 ≡ number_of id)
unfolding field_named
named bytes id e = elim (either (eqb (number_in 0 2 bytes) 0x8000) (field_numbered (number_in 2 1 bytes / 2)) None (Some id) e) [
  | inl p ↦ (eqb-true _ _ p.0, numbered _ id p.1)
  | inr p ↦ nothing_named p.1
] where
  nothing_named : {A : Type 0} → None ≡ Some id → A
  nothing_named n = absurd (cc)

pub named_again : (bytes : List ℕ) (id : FieldId) → number_in 0 2 bytes ≡ 0x8000 → number_in 2 1 bytes / 2 ≡ number_of id → field_named bytes ≡ Some id
unfolding field_named
named_again bytes id c n =
    let t : eqb (number_in 0 2 bytes) 0x8000 ≡ true = eq-eqb _ _ c in
    rw (t, n) (numbered_again id)

-- what names no field
pub unnamed : (bytes : List ℕ) (id : FieldId) → field_named bytes ≡ None → number_in 0 2 bytes ≡ 0x8000 → number_in 2 1 bytes / 2 ≡ number_of id → ⊥
unnamed bytes id e c n =
    let again = named_again bytes id c n in
    absurd (cc)

unnamed_if : (bytes : List ℕ) (o : Option FieldId) → field_named bytes ≡ o → ((id : FieldId) → number_in 0 2 bytes ≡ 0x8000 → number_in 2 1 bytes / 2 ≡ number_of id → ⊥) → field_named bytes ≡ None
unnamed_if bytes None e h = e
unnamed_if bytes (Some id) e h = let n = named bytes id e in absurd (h id n.0 n.1)

pub unnamed_again : (bytes : List ℕ) → ((id : FieldId) → number_in 0 2 bytes ≡ 0x8000 → number_in 2 1 bytes / 2 ≡ number_of id → ⊥) → field_named bytes ≡ None
unnamed_again bytes h = unnamed_if bytes (field_named bytes) refl h
