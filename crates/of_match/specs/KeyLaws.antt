-- The order of keys is total, and keys that it doesn't tell apart are equal.
use Rattle.std.specs.Prelude.{◌≡◌, [], ◌∷◌, refl}
use Rattle.std.proofs.Common.{ap, sym, true≢false}
use Rattle.std.specs.declared.cmp.Ordering.{Ordering}
use Rattle.std.specs.declared.cmp.Ordering.TheVariants.{Less, Equal, Greater}
use Rattle.std.specs.Ordering.{nat_cmp, bool_cmp, ordering_then, is_eq, eq_by_cmp, as_partial_cmp}
use Rattle.std.specs.Cmp.{IsTotalOrder, IsEquivalence, IsPartialEquivalence, IsPartialOrder, partial_equiv_from_equiv, partial_order_from_total, bool_cmp_total}
use Rattle.std.specs.Cmp.Lexicographic.{slice_cmp}
use Rattle.std.proofs.lemmas.Cmp.{then_total, on_total, nat_cmp_total, lists_total, eq_by_cmp_equiv}
use Rattle.std.proofs.lemmas.Map.Lookups.{CmpEqualImpliesEq, exact_unsigned}
use Rattle.net_base.specs.declared.field.Field.{Field}
use Rattle.net_base.specs.FieldId.{number_of}
use Rattle.net_base.proofs.Rows.{same_field}
use Rattle.of_match.specs.declared.entry.Key.{Key}
use Rattle.of_match.specs.KeyOrder.{is_masked, match_len, field_cmp, match_cmp, key_cmp}

-- ---- a total order

field_total : IsTotalOrder field_cmp
field_total = then_total (on_total (λ (f : Field). number_of f.id) nat_cmp_total) (then_total (on_total is_masked bool_cmp_total) (then_total (on_total (λ (f : Field). f.value) nat_cmp_total) (on_total (λ (f : Field). f.mask) nat_cmp_total)))

match_total : IsTotalOrder match_cmp
match_total = then_total (on_total match_len nat_cmp_total) (lists_total field_total)

pub key_total : IsTotalOrder key_cmp
unfolding key_cmp
key_total = then_total (on_total (λ (k : Key). k.table) nat_cmp_total) (then_total (on_total (λ (k : Key). k.priority) nat_cmp_total) (on_total (λ (k : Key). k.fields) match_total))

pub key_equivalence : IsEquivalence (eq_by_cmp key_cmp)
key_equivalence = eq_by_cmp_equiv key_total

pub key_partial_equivalence : IsPartialEquivalence (eq_by_cmp key_cmp)
key_partial_equivalence = partial_equiv_from_equiv key_equivalence

pub key_partial_order : IsPartialOrder (eq_by_cmp key_cmp) (as_partial_cmp key_cmp)
key_partial_order = partial_order_from_total key_total

-- ---- equal where it answers Equal

pub both_equal : (p q : Ordering) → ordering_then p q ≡ Equal → (p ≡ Equal) × (q ≡ Equal)
both_equal Less q e = absurd (true≢false (sym (ap is_eq e)))
both_equal Equal q e = (refl, e)
both_equal Greater q e = absurd (true≢false (sym (ap is_eq e)))

exact_lists : {A : Type 0} (R : A → A → Ordering) → CmpEqualImpliesEq R → CmpEqualImpliesEq (slice_cmp R)
exact_lists R exact [] [] e = refl
exact_lists R exact [] (y ∷ ys) e = absurd (true≢false (sym (ap is_eq e)))
exact_lists R exact (x ∷ xs) [] e = absurd (true≢false (sym (ap is_eq e)))
exact_lists R exact (x ∷ xs) (y ∷ ys) e =
    let k = both_equal (R x y) (slice_cmp R xs ys) e in
    λ i. exact x y k.0 i ∷ exact_lists R exact xs ys k.1 i

pub exact_fields : CmpEqualImpliesEq field_cmp
exact_fields a b e =
    let k = both_equal (nat_cmp (number_of a.id) (number_of b.id)) _ e in
    let m = both_equal (bool_cmp (is_masked a) (is_masked b)) _ k.1 in
    let v = both_equal (nat_cmp a.value b.value) (nat_cmp a.mask b.mask) m.1 in
    λ i. record { id = same_field a.id b.id (exact_unsigned _ _ k.0) i; value = exact_unsigned a.value b.value v.0 i; mask = exact_unsigned a.mask b.mask v.1 i }

pub exact_matches : CmpEqualImpliesEq match_cmp
exact_matches a b e = exact_lists field_cmp exact_fields a b (both_equal (nat_cmp (match_len a) (match_len b)) (slice_cmp field_cmp a b) e).1

pub exact_keys : CmpEqualImpliesEq key_cmp
unfolding key_cmp
exact_keys a b e =
    let k = both_equal (nat_cmp a.table b.table) _ e in
    let p = both_equal (nat_cmp a.priority b.priority) (match_cmp a.fields b.fields) k.1 in
    λ i. record { table = exact_unsigned a.table b.table k.0 i; priority = exact_unsigned a.priority b.priority p.0 i; fields = exact_matches a.fields b.fields p.1 i }

pub ruleset key_order_laws = (key_total, exact_keys)
