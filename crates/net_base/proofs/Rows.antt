-- What holds of every field: a test of all rows of the table, which computing answers.
use Rattle.std.proofs.Common.{◌≡◌, ℕ, zero, suc, ◌+◌, ◌*◌, ◌≤◌, ◌<◌, ◌&&◌, nat_lt, leb, Bool, true, false, cond, eqb, List, [], ◌∷◌, map, Option, Some, refl, sym, ap, ◌∙◌, subst, arith}
use Rattle.std.specs.Prelude.{Contains}
use Rattle.std.specs.List.{list_all, find}
use Rattle.std.specs.List.Sorted.{IsStrictlyIncreasing}
use Rattle.std.proofs.lemmas.Bool.{ltb-true, leb-true, and_parts}
use Rattle.std.proofs.lemmas.Option.{same_Some, none-some}
use Rattle.net_base.specs.declared.field.FieldId.{FieldId}
use Rattle.net_base.specs.declared.field.FieldId.TheVariants.{InPort}
use Rattle.net_base.specs.FieldId.{all_fields, number_of, bits_of, byte_len_of, IsInBounds}

-- ---- a list's entries

found : {A : Type 0} (p q : A → Bool) (xs : List A) (x : A) → list_all p xs ≡ true → find q xs ≡ Some x → p x ≡ true
found p q [] x all is = absurd (none-some x is)
found p q (y ∷ ys) x all is =
    let parts = and_parts (p y) (list_all p ys) all in
    by (q y) parts.0 (found p q ys x parts.1) is
  where
    by : (b : Bool) → p y ≡ true → (find q ys ≡ Some x → p x ≡ true) → cond b (Some y) (find q ys) ≡ Some x → p x ≡ true
    by true here more e = subst (λ z. p z ≡ true) (same_Some y x e) here
    by false here more e = more e

stands : {A : Type 0} (q : A → Bool) (xs : List A) (x : A) → find q xs ≡ Some x → Contains xs x
stands q [] x is = absurd (none-some x is)
stands q (y ∷ ys) x is = by (q y) (stands q ys x) is
  where
    by : (b : Bool) → (find q ys ≡ Some x → Contains ys x) → cond b (Some y) (find q ys) ≡ Some x → Contains (y ∷ ys) x
    by true more e = (0, omega arith, same_Some y x e)
    by false more e = let m = more e in (suc m.0, omega (arith, m.1), m.2)

-- ---- the fields

-- the field of a number
abbrev pub numbered : ℕ → Option FieldId
numbered n = find (λ id. eqb (number_of id) n) all_fields

pub numbered_again : (id : FieldId) → numbered (number_of id) ≡ Some id
numbered_again InPort = refl
numbered_again id = refl

-- a test that every row of the table passes is passed by each field
pub every_field : (p : FieldId → Bool) → list_all p all_fields ≡ true → (id : FieldId) → p id ≡ true
every_field p all id = found p (λ other. eqb (number_of other) (number_of id)) all_fields id all (numbered_again id)

pub is_listed : (id : FieldId) → Contains all_fields id
is_listed id = stands (λ other. eqb (number_of other) (number_of id)) all_fields id (numbered_again id)

-- fields of one number are one
pub same_field : (a b : FieldId) → number_of a ≡ number_of b → a ≡ b
same_field a b e = same_Some a b (sym (numbered_again a) ∙ ap numbered e ∙ numbered_again b)

-- numbers that rise one by one along a list
abbrev rise : List ℕ → Bool
rise [] = true
rise (x ∷ []) = true
rise (x ∷ y ∷ more) = nat_lt x y && rise (y ∷ more)

increasing : (xs : List ℕ) → rise xs ≡ true → IsStrictlyIncreasing xs
increasing [] h k low = omega (arith, low)
increasing (x ∷ []) h k low = omega (arith, low)
increasing (x ∷ y ∷ more) h zero low = ltb-true x y (and_parts (nat_lt x y) (rise (y ∷ more)) h).0
increasing (x ∷ y ∷ more) h (suc k) low =
    let next : suc k + 1 ≡ suc (k + 1) = omega arith in
    rw next (increasing (y ∷ more) (and_parts (nat_lt x y) (rise (y ∷ more)) h).1 k (omega (arith, low)))

pub numbers_ascend : IsStrictlyIncreasing (map number_of all_fields)
numbers_ascend = increasing (map number_of all_fields) refl

-- ---- the bounds of rows

abbrev is_in_bounds : FieldId → Bool
is_in_bounds id =
    nat_lt (number_of id) 32 && (leb 1 (bits_of id) && (leb (bits_of id) (8 * byte_len_of id) && leb (byte_len_of id) 16))

pub in_bounds : (id : FieldId) → IsInBounds id
in_bounds id =
    let all = and_parts (nat_lt (number_of id) 32) _ (every_field is_in_bounds refl id) in
    let bits = and_parts (leb 1 (bits_of id)) _ all.1 in
    let bytes = and_parts (leb (bits_of id) (8 * byte_len_of id)) (leb (byte_len_of id) 16) bits.1 in
    record {
      number = ltb-true _ _ all.0;
      some_bits = leb-true _ _ bits.0;
      bits = leb-true _ _ bytes.0;
      bytes = leb-true _ _ bytes.1;
    }

pub one_byte : (id : FieldId) → 1 ≤ byte_len_of id
one_byte id = let h = in_bounds id in omega (arith, h.some_bits, h.bits)

pub most_bytes : (id : FieldId) → byte_len_of id ≤ 16
most_bytes id = (in_bounds id).bytes

pub low_number : (id : FieldId) → number_of id < 32
low_number id = (in_bounds id).number
