-- What a map has at each number once one of its entries was set.
use Rattle.std.proofs.Common.{◌≡◌, ◌≢◌, ◌⊎◌, ℕ, Bool, true, false, Option, refl, sym, ◌∙◌, ap, inl, inr, arith}
use Rattle.std.proofs.lemmas.Bool.{cases_eq}
use Rattle.std.proofs.lemmas.Map.Lookups.{exact_unsigned}
use Rattle.std.specs.Cmp.{Equal-is}
use Rattle.std.specs.Ordering.{nat_cmp, is_eq}
use Rattle.std.specs.BTreeMap.{BTreeMap, get, UpdatesBy}
use Rattle.link_hub.specs.Hub.{IsSet, IsSame}

apart_from : (b : Bool) (a c : ℕ) → (b ≡ true → a ≡ c) → c ≢ a → b ≡ false
apart_from true a c same ne = absurd (ne (sym (same refl)))
apart_from false a c same ne = refl

equal_from : (a c : ℕ) → is_eq (nat_cmp a c) ≡ true → a ≡ c
equal_from a c h = exact_unsigned a c (grind (arith, Equal-is, h))

-- a set entry
pub set_by : {X : Type 0} (conn : ℕ) (value : Option X) (old new : BTreeMap ℕ X) → UpdatesBy nat_cmp (nat_cmp conn) old new value → IsSet conn value old new
set_by conn value old new u = record {
  here = u.1;
  elsewhere = λ other ne. u.2 other (apart_from (is_eq (nat_cmp conn other)) conn other (equal_from conn other) ne);
}

-- of two settings of one entry the later one counts
pub set_again : {X : Type 0} (conn : ℕ) (first value : Option X) (old mid new : BTreeMap ℕ X) → IsSet conn first old mid → IsSet conn value mid new → IsSet conn value old new
set_again conn first value old mid new a b = record {
  here = b.here;
  elsewhere = λ other ne. b.elsewhere other ne ∙ a.elsewhere other ne;
}

same_or : {X : Type 0} (conn other : ℕ) (old new : BTreeMap ℕ X) (value : Option X) → get nat_cmp old conn ≡ value → IsSet conn value old new → (other ≡ conn) ⊎ (other ≢ conn) → get nat_cmp new other ≡ get nat_cmp old other
same_or conn other old new value was set either =
    elim either [
      | inl e ↦ ap (λ n. get nat_cmp new n) e ∙ set.here ∙ sym was ∙ sym (ap (λ n. get nat_cmp old n) e)
      | inr ne ↦ set.elsewhere other ne
    ]

-- an entry set to what it was
pub same_at : {X : Type 0} (conn : ℕ) (value : Option X) (old new : BTreeMap ℕ X) → get nat_cmp old conn ≡ value → IsSet conn value old new → IsSame old new
same_at conn value old new was set = λ other. same_or conn other old new value was set (cases_eq other conn)
