-- Where leads tell two matches apart, they tell them apart as the order of matches does.
use Rattle.std.proofs.Common.{◌≡◌, ℕ, ◌+◌, ◌*◌, ◌<◌, ◌≤◌, ◌⊎◌, inl, inr, ◌&&◌, ◌==◌, min, nat_lt, not, Bool, true, false, if◌then◌else◌, List, [], ◌∷◌, refl, sym, ap, ◌∙◌, subst, arith, true≢false}
use Rattle.std.specs.declared.cmp.Ordering.{Ordering}
use Rattle.std.specs.declared.cmp.Ordering.TheVariants.{Less, Equal, Greater}
use Rattle.std.specs.Ordering.{nat_cmp, bool_cmp, ordering_then, is_eq}
use Rattle.std.specs.Cmp.{nat_cmp_is}
use Rattle.std.specs.Cmp.Lexicographic.{slice_cmp}
use Rattle.std.proofs.lemmas.Bool.{ltb-true, ltb-false, eqb-true}
use Rattle.std.proofs.lemmas.Bool.Decides.{nat_tests}
use Rattle.std.proofs.lemmas.Map.Lookups.{exact_unsigned}
use Rattle.net_base.specs.declared.field.Field.{Field}
use Rattle.net_base.specs.FieldId.{number_of, all_ones}
use Rattle.net_base.proofs.Rows.{same_field}
use Rattle.of_match.specs.KeyOrder.{is_masked, match_len, field_cmp, match_cmp}
use Rattle.of_match.specs.KeyLaws.{both_equal}
use Rattle.of_match.specs.MatchLead.{long, large, kind_of, is_told, first_kind, first_value, behind_first, if_short, lead_of, lead_cmp}

-- ---- orderings

-- the second is as the first, where that isn't `Equal`
abbrev Leads : Ordering → Ordering → Type 0
Leads p q = ordering_then p q ≡ q

then_Equal : (p : Ordering) → ordering_then p Equal ≡ p
then_Equal Less = refl
then_Equal Equal = refl
then_Equal Greater = refl

spread : (n b w m r : Ordering) → ordering_then (ordering_then n b) (ordering_then w (ordering_then m r)) ≡ ordering_then (ordering_then n (ordering_then b (ordering_then w m))) r
spread Less b w m r = refl
spread Greater b w m r = refl
spread Equal Less w m r = refl
spread Equal Greater w m r = refl
spread Equal Equal Less m r = refl
spread Equal Equal Greater m r = refl
spread Equal Equal Equal m r = refl

-- behind one start, what leads where the start is `Equal`
same_start : (p q r : Ordering) → (p ≡ Equal → Leads q r) → Leads (ordering_then p q) (ordering_then p r)
same_start Less q r h = refl
same_start Equal q r h = h refl
same_start Greater q r h = refl

no_lead : (q r : Ordering) → q ≡ Equal → Leads q r
no_lead q r e = ap (λ o. ordering_then o r) e

-- ---- numbers

less : (a b : ℕ) → a < b → nat_cmp a b ≡ Less
less a b h = sym (nat_cmp_is a b Less h)

same : (a b : ℕ) → a ≡ b → nat_cmp a b ≡ Equal
same a b h = sym (nat_cmp_is a b Equal h)

greater : (a b : ℕ) → b < a → nat_cmp a b ≡ Greater
greater a b h = sym (nat_cmp_is a b Greater h)

-- numbers up to a bound lead numbers, and go on only where both are below it
capped : (c v w : ℕ) (q r : Ordering) → (nat_lt v c ≡ true → nat_lt w c ≡ true → nat_cmp v w ≡ Equal → Leads q r) → (nat_lt v c ≡ false → nat_lt w c ≡ false → q ≡ Equal) → Leads (ordering_then (nat_cmp (min v c) (min w c)) q) (ordering_then (nat_cmp v w) r)
capped c v w q r below above = by (nat_lt v c) (nat_lt w c) refl refl
  where
    by : (s t : Bool) → nat_lt v c ≡ s → nat_lt w c ≡ t → Leads (ordering_then (nat_cmp (min v c) (min w c)) q) (ordering_then (nat_cmp v w) r)
    by true true e f =
        let a : v ≡ min v c = omega (arith, ltb-true v c e) in
        let b : w ≡ min w c = omega (arith, ltb-true w c f) in
        subst (λ o. Leads (ordering_then o q) (ordering_then (nat_cmp v w) r)) (λ i. nat_cmp (a i) (b i)) (same_start (nat_cmp v w) q r (below e f))
    by true false e f =
        let a : v < c = ltb-true v c e in
        let b : c ≤ w = ltb-false w c f in
        let short = less (min v c) (min w c) (omega (arith, a, b)) in
        let whole = less v w (omega (arith, a, b)) in
        (λ i. ordering_then (ordering_then (short i) q) (ordering_then (whole i) r)) ∙ sym (λ i. ordering_then (whole i) r)
    by false true e f =
        let a : c ≤ v = ltb-false v c e in
        let b : w < c = ltb-true w c f in
        let short = greater (min v c) (min w c) (omega (arith, a, b)) in
        let whole = greater v w (omega (arith, a, b)) in
        (λ i. ordering_then (ordering_then (short i) q) (ordering_then (whole i) r)) ∙ sym (λ i. ordering_then (whole i) r)
    by false false e f =
        let a : c ≤ v = ltb-false v c e in
        let b : c ≤ w = ltb-false w c f in
        let short = same (min v c) (min w c) (omega (arith, a, b)) in
        λ i. ordering_then (ordering_then (short i) (above e f i)) (ordering_then (nat_cmp v w) r)

-- ---- fields

kinds : (n m : ℕ) (s t : Bool) → ordering_then (nat_cmp n m) (bool_cmp s t) ≡ nat_cmp (if s then 2 * n + 2 else 2 * n + 1) (if t then 2 * m + 2 else 2 * m + 1)
kinds n m true true = grind (arith, nat_tests)
kinds n m true false = grind (arith, nat_tests)
kinds n m false true = grind (arith, nat_tests)
kinds n m false false = grind (arith, nat_tests)

some_kind : (f : Field) → 0 < kind_of f
some_kind f = by (is_masked f)
  where
    by : (b : Bool) → 0 < (if b then 2 * number_of f.id + 2 else 2 * number_of f.id + 1)
    by true = omega arith
    by false = omega arith

same_bool : (s t : Bool) → bool_cmp s t ≡ Equal → s ≡ t
same_bool false false e = refl
same_bool false true e = absurd (true≢false (sym (ap is_eq e)))
same_bool true false e = absurd (true≢false (sym (ap is_eq e)))
same_bool true true e = refl

not_false : (b : Bool) → not b ≡ false → b ≡ true
not_false true e = refl
not_false false e = absurd (true≢false e)

no_mask : (f : Field) → is_masked f ≡ false → f.mask ≡ all_ones f.id
no_mask f e = eqb-true f.mask (all_ones f.id) (not_false (f.mask == all_ones f.id) e)

masked : (f : Field) → is_masked f ≡ true → is_told f ≡ false
masked f e = λ i. not (e i) && nat_lt f.value large

is_large : (f : Field) → nat_lt f.value large ≡ false → is_told f ≡ false
is_large f e = by (is_masked f)
  where
    by : (b : Bool) → (not b && nat_lt f.value large) ≡ false
    by true = refl
    by false = e

-- what leads behind two fields, where both are told whole, leads with their kinds and values in front
module _ (x y : Field) (q r : Ordering) (whole : is_told x ≡ true → is_told y ≡ true → Leads q r) (cut : is_told x ≡ false → is_told y ≡ false → q ≡ Equal) where
  module _ (same_kind : ordering_then (nat_cmp (number_of x.id) (number_of y.id)) (bool_cmp (is_masked x) (is_masked y)) ≡ Equal) where
    parts : (nat_cmp (number_of x.id) (number_of y.id) ≡ Equal) × (bool_cmp (is_masked x) (is_masked y) ≡ Equal)
    parts = both_equal (nat_cmp (number_of x.id) (number_of y.id)) (bool_cmp (is_masked x) (is_masked y)) same_kind

    both_masked : is_masked x ≡ is_masked y
    both_masked = same_bool (is_masked x) (is_masked y) parts.1

    one_id : x.id ≡ y.id
    one_id = same_field x.id y.id (exact_unsigned (number_of x.id) (number_of y.id) parts.0)

    below : nat_lt x.value large ≡ true → nat_lt y.value large ≡ true → Leads q (ordering_then (nat_cmp x.mask y.mask) r)
    below e f = by (is_masked x) refl
      where
        by : (b : Bool) → is_masked x ≡ b → Leads q (ordering_then (nat_cmp x.mask y.mask) r)
        by true m = no_lead q (ordering_then (nat_cmp x.mask y.mask) r) (cut (masked x m) (masked y (sym both_masked ∙ m)))
        by false m =
            let n : is_masked y ≡ false = sym both_masked ∙ m in
            let one_mask = same x.mask y.mask (no_mask x m ∙ ap all_ones one_id ∙ sym (no_mask y n)) in
            subst (λ o. Leads q (ordering_then o r)) (sym one_mask) (whole (λ i. not (m i) && e i) (λ i. not (n i) && f i))

    values : Leads (ordering_then (nat_cmp (min x.value large) (min y.value large)) q) (ordering_then (nat_cmp x.value y.value) (ordering_then (nat_cmp x.mask y.mask) r))
    values = capped large x.value y.value q (ordering_then (nat_cmp x.mask y.mask) r) (λ e f _. below e f) (λ e f. cut (is_large x e) (is_large y f))

  field_leads : Leads (ordering_then (nat_cmp (kind_of x) (kind_of y)) (ordering_then (nat_cmp (min x.value large) (min y.value large)) q)) (ordering_then (field_cmp x y) r)
  field_leads =
      let n = nat_cmp (number_of x.id) (number_of y.id) in
      let b = bool_cmp (is_masked x) (is_masked y) in
      let v = ordering_then (nat_cmp (min x.value large) (min y.value large)) q in
      let w = nat_cmp x.value y.value in
      let m = nat_cmp x.mask y.mask in
      let k = kinds (number_of x.id) (number_of y.id) (is_masked x) (is_masked y) in
      let z = spread n b w m r in
      let here : Leads (ordering_then (ordering_then n b) v) (ordering_then (ordering_then n b) (ordering_then w (ordering_then m r))) = same_start (ordering_then n b) v (ordering_then w (ordering_then m r)) values in
      subst (λ o. Leads (ordering_then o v) (ordering_then (field_cmp x y) r)) k (subst (λ o. Leads (ordering_then (ordering_then n b) v) o) z here)

-- ---- matches

none_first : (f : Field) (o : Ordering) → Leads (ordering_then (nat_cmp 0 (kind_of f)) o) Less
none_first f o = ap (λ p. ordering_then (ordering_then p o) Less) (less 0 (kind_of f) (some_kind f))

none_last : (f : Field) (o : Ordering) → Leads (ordering_then (nat_cmp (kind_of f) 0) o) Greater
none_last f o = ap (λ p. ordering_then (ordering_then p o) Greater) (greater (kind_of f) 0 (some_kind f))

-- by the first of these fields
abbrev one : List Field → List Field → Ordering
one a b = ordering_then (nat_cmp (first_kind a) (first_kind b)) (nat_cmp (first_value a) (first_value b))

-- by the first two
abbrev two : List Field → List Field → Ordering
two a b = ordering_then (nat_cmp (first_kind a) (first_kind b)) (ordering_then (nat_cmp (first_value a) (first_value b)) (one (behind_first a) (behind_first b)))

one_leads : (a b : List Field) → Leads (one a b) (slice_cmp field_cmp a b)
one_leads [] [] = refl
one_leads [] (y ∷ ys) = none_first y (nat_cmp 0 (min y.value large))
one_leads (x ∷ xs) [] = none_last x (nat_cmp (min x.value large) 0)
one_leads (x ∷ xs) (y ∷ ys) =
    subst (λ o. Leads (ordering_then (nat_cmp (kind_of x) (kind_of y)) o) (ordering_then (field_cmp x y) (slice_cmp field_cmp xs ys))) (then_Equal (nat_cmp (min x.value large) (min y.value large)))
    (field_leads x y Equal (slice_cmp field_cmp xs ys) (λ _ _. refl) (λ _ _. refl))

two_lead : (a b : List Field) → Leads (two a b) (slice_cmp field_cmp a b)
two_lead [] [] = refl
two_lead [] (y ∷ ys) = none_first y (ordering_then (nat_cmp 0 (min y.value large)) (one [] (behind_first (y ∷ ys))))
two_lead (x ∷ xs) [] = none_last x (ordering_then (nat_cmp (min x.value large) 0) (one (behind_first (x ∷ xs)) []))
two_lead (x ∷ xs) (y ∷ ys) =
    field_leads x y (one (behind_first (x ∷ xs)) (behind_first (y ∷ ys))) (slice_cmp field_cmp xs ys)
    (λ e f. subst (λ o. Leads o (slice_cmp field_cmp xs ys)) (λ i. one (if sym e i then xs else []) (if sym f i then ys else [])) (one_leads xs ys))
    (λ e f. λ i. one (if e i then xs else []) (if f i then ys else []))

lead_leads : (a b : List Field) → Leads (lead_cmp (lead_of a) (lead_of b)) (match_cmp a b)
unfolding lead_of lead_cmp
lead_leads a b =
    capped long (match_len a) (match_len b) (two (if_short a) (if_short b)) (slice_cmp field_cmp a b)
    (λ e f _. subst (λ o. Leads o (slice_cmp field_cmp a b)) (λ i. two (if sym e i then a else []) (if sym f i then b else [])) (two_lead a b))
    (λ e f. λ i. two (if e i then a else []) (if f i then b else []))

-- leads that aren't equal answer as their matches do
pub lead_decides : (a b : List Field) → (lead_cmp (lead_of a) (lead_of b) ≡ Equal) ⊎ (lead_cmp (lead_of a) (lead_of b) ≡ match_cmp a b)
lead_decides a b = by (lead_cmp (lead_of a) (lead_of b)) (match_cmp a b) (lead_leads a b)
  where
    by : (p q : Ordering) → Leads p q → (p ≡ Equal) ⊎ (p ≡ q)
    by Less q e = inr e
    by Equal q e = inl refl
    by Greater q e = inr e
