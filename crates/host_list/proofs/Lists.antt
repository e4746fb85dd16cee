-- What holds of each item, of a part, and of one item more.
use Rattle.std.proofs.Common.{◌≡◌, ℕ, ◌+◌, ◌==◌, ◌||◌, ◌++◌, Bool, true, false, cond, not, Some, List, [], ◌∷◌, zero, suc, length, get_or, ◌<◌, ◌≤◌, find, filter, count_by, inl, inr, refl, sym, ap, ◌∙◌, arith, subst, eq-eqb}
use Rattle.std.specs.List.{AllByRecursion, list_any}
use Rattle.std.proofs.lemmas.Bool.{cases_Bool, eqb-true, false≢true}
use Rattle.std.proofs.lemmas.List.Sums.{sum_by-append, sum_by-cons}
use Rattle.conf_types.specs.Lists.{EachBefore}
use Rattle.host_list.specs.Parts.{IsPartOf}

neither : (a b : Bool) → (a || b) ≡ false → (a ≡ false) × (b ≡ false)
neither true b is = absurd (false≢true (sym is))
neither false b is = (refl, is)

module _ {A : Type 0} where
  -- an item that is there, whatever would stand for one that isn't
  pub same_item : (xs : List A) (i : ℕ) (d e : A) → i < length xs → get_or xs i d ≡ get_or xs i e
  same_item [] i d e within = absurd (omega (arith, within))
  same_item (x ∷ xs) zero d e within = refl
  same_item (x ∷ xs) (suc i) d e within = same_item xs i d e (omega (arith, within))

  -- ---- each

  pub all_map : (P Q : A → Type 0) → ((x : A) → P x → Q x) → (xs : List A) → AllByRecursion P xs → AllByRecursion Q xs
  all_map P Q f [] all = tt
  all_map P Q f (x ∷ xs) all = (f x all.0, all_map P Q f xs all.1)

  pub all_both : (P Q : A → Type 0) (xs : List A) → AllByRecursion P xs → AllByRecursion Q xs → AllByRecursion (λ x. P x × Q x) xs
  all_both P Q [] p q = tt
  all_both P Q (x ∷ xs) p q = ((p.0, q.0), all_both P Q xs p.1 q.1)

  pub all_push : (P : A → Type 0) (xs : List A) (y : A) → AllByRecursion P xs → P y → AllByRecursion P (xs ++ y ∷ [])
  all_push P [] y all here = (here, tt)
  all_push P (x ∷ xs) y all here = (all.0, all_push P xs y all.1 here)

  pub before_push : (R : A → A → Type 0) (xs : List A) (y : A) → EachBefore R xs → AllByRecursion (λ x. R x y) xs → EachBefore R (xs ++ y ∷ [])
  before_push R [] y before each = (tt, tt)
  before_push R (x ∷ xs) y before each = (all_push (R x) xs y before.0 each.0, before_push R xs y before.1 each.1)

  pub none_passes : (p : A → Bool) (xs : List A) → list_any p xs ≡ false → AllByRecursion (λ x. p x ≡ false) xs
  none_passes p [] is = tt
  none_passes p (x ∷ xs) is = let parts = neither (p x) (list_any p xs) is in (parts.0, none_passes p xs parts.1)

  pub filter_none : (p : A → Bool) (xs : List A) → list_any p xs ≡ false → filter p xs ≡ []
  filter_none p [] is = refl
  filter_none p (x ∷ xs) is =
      let parts = neither (p x) (list_any p xs) is in
      ap (λ b. cond b (x ∷ filter p xs) (filter p xs)) parts.0 ∙ filter_none p xs parts.1

  -- ---- parts

  pub part_skip : (xs : List A) (y : A) (ys : List A) → IsPartOf xs ys → IsPartOf xs (y ∷ ys)
  part_skip [] y ys p = tt
  part_skip (x ∷ xs) y ys p = inr p

  pub part_same : (xs : List A) → IsPartOf xs xs
  part_same [] = tt
  part_same (x ∷ xs) = inl (refl, part_same xs)

  pub part_of_part : (xs ys zs : List A) → IsPartOf xs ys → IsPartOf ys zs → IsPartOf xs zs
  part_of_part [] ys zs p q = tt
  part_of_part (x ∷ xs) [] zs p q = absurd p
  part_of_part (x ∷ xs) (y ∷ ys) [] p q = absurd q
  part_of_part (x ∷ xs) (y ∷ ys) (z ∷ zs) p q =
      elim q [
        | inl here ↦ elim p [
          | inl same ↦ inl (same.0 ∙ here.0, part_of_part xs ys zs same.1 here.1)
          | inr later ↦ inr (part_of_part (x ∷ xs) ys zs later here.1)
        ]
        | inr later ↦ inr (part_of_part (x ∷ xs) (y ∷ ys) zs p later)
      ]

  pub all_part : (P : A → Type 0) (xs ys : List A) → AllByRecursion P ys → IsPartOf xs ys → AllByRecursion P xs
  all_part P [] ys all p = tt
  all_part P (x ∷ xs) [] all p = absurd p
  all_part P (x ∷ xs) (y ∷ ys) all p =
      elim p [
        | inl same ↦ (subst P (sym same.0) all.0, all_part P xs ys all.1 same.1)
        | inr later ↦ all_part P (x ∷ xs) ys all.1 later
      ]

  pub before_part : (R : A → A → Type 0) (xs ys : List A) → EachBefore R ys → IsPartOf xs ys → EachBefore R xs
  before_part R [] ys before p = tt
  before_part R (x ∷ xs) [] before p = absurd p
  before_part R (x ∷ xs) (y ∷ ys) before p =
      elim p [
        | inl same ↦ (subst (λ z. AllByRecursion (R z) xs) (sym same.0) (all_part (R y) xs ys before.0 same.1), before_part R xs ys before.1 same.1)
        | inr later ↦ before_part R (x ∷ xs) ys before.1 later
      ]

  pub filter_part : (p : A → Bool) (xs : List A) → IsPartOf (filter p xs) xs
  filter_part p [] = tt
  filter_part p (x ∷ xs) =
      elim (p x) as (λ b. IsPartOf (cond b (x ∷ filter p xs) (filter p xs)) (x ∷ xs)) [
        | true ↦ inl (refl, filter_part p xs)
        | false ↦ part_skip (filter p xs) x xs (filter_part p xs)
      ]

  pub filter_all : (p : A → Bool) (xs : List A) → AllByRecursion (λ x. p x ≡ true) (filter p xs)
  filter_all p [] = tt
  filter_all p (x ∷ xs) =
      elim (cases_Bool (p x)) [
        | inl passes ↦ subst (λ b. AllByRecursion (λ x. p x ≡ true) (cond b (x ∷ filter p xs) (filter p xs))) (sym passes) (passes, filter_all p xs)
        | inr fails ↦ subst (λ b. AllByRecursion (λ x. p x ≡ true) (cond b (x ∷ filter p xs) (filter p xs))) (sym fails) (filter_all p xs)
      ]

  -- ---- one item more is counted

  pub count_push : (p : A → Bool) (xs : List A) (y : A) → count_by p (xs ++ y ∷ []) ≡ count_by p xs + cond (p y) 1 0
  count_push p xs y = omega (arith, sum_by-append (λ x. cond (p x) 1 0) xs (y ∷ []))

  -- ---- in a part no more are counted

  pub count_part : (p : A → Bool) (xs ys : List A) → IsPartOf xs ys → count_by p xs ≤ count_by p ys
  count_part p [] ys part = omega arith
  count_part p (x ∷ xs) [] part = absurd part
  count_part p (x ∷ xs) (y ∷ ys) part =
      elim part [
        | inl same ↦ let here : ◌≡◌ {A = ℕ} (cond (p x) 1 0) (cond (p y) 1 0) = ap (λ z. cond (p z) 1 0) same.0 in
            omega (arith, here, count_part p xs ys same.1, sum_by-cons (λ z. cond (p z) 1 0) x xs, sum_by-cons (λ z. cond (p z) 1 0) y ys)
        | inr later ↦ omega (arith, count_part p (x ∷ xs) ys later, sum_by-cons (λ z. cond (p z) 1 0) y ys)
      ]

  -- without those that pass, where there is one, fewer count, if each of them counts
  pub count_off : (off p : A → Bool) → ((x : A) → off x ≡ true → p x ≡ true) → (xs : List A) → list_any off xs ≡ true → count_by p (filter (λ x. not (off x)) xs) < count_by p xs
  count_off off p counts [] some = absurd (false≢true some)
  count_off off p counts (x ∷ xs) some =
      let others : List A = filter (λ x. not (off x)) xs in
      elim (cases_Bool (off x)) [
        | inl passes ↦ let left : count_by p (filter (λ x. not (off x)) (x ∷ xs)) ≡ count_by p others = ap (λ b. count_by p (cond (not b) (x ∷ others) others)) passes in
            let one : ◌≡◌ {A = ℕ} (cond (p x) 1 0) 1 = ap (λ b. cond b 1 0) (counts x passes) in
            omega (arith, left, one, count_part p others xs (filter_part (λ x. not (off x)) xs), sum_by-cons (λ z. cond (p z) 1 0) x xs)
        | inr fails ↦ let left : count_by p (filter (λ x. not (off x)) (x ∷ xs)) ≡ count_by p (x ∷ others) = ap (λ b. count_by p (cond (not b) (x ∷ others) others)) fails in
            omega (arith, left, count_off off p counts xs (sym (ap (λ b. b || list_any off xs) fails) ∙ some), sum_by-cons (λ z. cond (p z) 1 0) x others, sum_by-cons (λ z. cond (p z) 1 0) x xs)
      ]

  -- ---- what is found passes

  pub found_passes : (p : A → Bool) (xs : List A) (y : A) → find p xs ≡ Some y → p y ≡ true
  found_passes p [] y is = absurd (cc)
  found_passes p (x ∷ xs) y is =
      elim (cases_Bool (p x)) [
        | inl passes ↦ let here : Some x ≡ Some y = sym (ap (λ b. cond b (Some x) (find p xs)) passes) ∙ is in
            let same : x ≡ y = cc in subst (λ z. p z ≡ true) same passes
        | inr fails ↦ found_passes p xs y (sym (ap (λ b. cond b (Some x) (find p xs)) fails) ∙ is)
      ]

  -- ---- what has a key of its own is found by it

  module _ (key : A → ℕ) where
    abbrev AreApart : List A → Type 0
    AreApart = EachBefore (λ x y. key x ≡ key y → ⊥)

    apart : (x y : A) → (key x ≡ key y → ⊥) → (key x == key y) ≡ false
    apart x y ne =
        elim (cases_Bool (key x == key y)) [ inl same ↦ absurd (ne (eqb-true (key x) (key y) same)) | inr other ↦ other ]

    abbrev IsFound : List A → A → Type 0
    IsFound xs y = find (λ x. key x == key y) xs ≡ Some y

    pub each_found : (xs : List A) → AreApart xs → AllByRecursion (IsFound xs) xs
    each_found [] before = tt
    each_found (x ∷ xs) before = (
      ap (λ b. cond b (Some x) (find (λ z. key z == key x) xs)) (eq-eqb (key x) (key x) refl),
      all_map (λ y. (key x ≡ key y → ⊥) × IsFound xs y) (IsFound (x ∷ xs)) (λ y both. ap (λ b. cond b (Some x) (find (λ z. key z == key y) xs)) (apart x y both.0) ∙ both.1) xs
          (all_both (λ y. key x ≡ key y → ⊥) (IsFound xs) xs before.0 (each_found xs before.1)),
    )
