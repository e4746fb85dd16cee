-- Numbers each at its first place.
use Rattle.std.specs.Prelude.{◌≡◌, ℕ, ◌==◌, Bool, true, false, List, [], ◌∷◌, if◌then◌else◌}
use Rattle.std.specs.List.{AllByRecursion}
use Rattle.std.proofs.Common.{inl, inr, refl, sym, ap, ◌∙◌, true≢false}
use Rattle.std.proofs.lemmas.Bool.{or_parts, or_from, eqb-false, eqb-true}
use Rattle.conf_types.specs.Lists.{AreDistinct, is_among}
use Rattle.conf_resolve.specs.Resolved.{new_ones, once}
use Rattle.law_checks.proofs.Members.{IsIn, of_all, all_by}

of_new : (seen ns : List ℕ) (m : ℕ) → IsIn (new_ones seen ns) m → IsIn ns m
of_new seen [] m i = i
of_new seen (n ∷ ns) m i = by (is_among seen n) (λ j. of_new seen ns m j) (λ j. of_new (n ∷ seen) ns m j) i
  where
    by : (b : Bool) → (IsIn (new_ones seen ns) m → IsIn ns m) → (IsIn (new_ones (n ∷ seen) ns) m → IsIn ns m) → IsIn (if b then new_ones seen ns else n ∷ new_ones (n ∷ seen) ns) m → IsIn (n ∷ ns) m
    by true f g j = inr (f j)
    by false f g (inl e) = inl e
    by false f g (inr j) = inr (g j)

unseen : (seen ns : List ℕ) → AllByRecursion (λ m. is_among seen m ≡ false) (new_ones seen ns)
unseen seen [] = tt
unseen seen (n ∷ ns) = by (is_among seen n) refl (unseen seen ns) (unseen (n ∷ seen) ns)
  where
    by : (b : Bool) → is_among seen n ≡ b → AllByRecursion (λ m. is_among seen m ≡ false) (new_ones seen ns) → AllByRecursion (λ m. is_among (n ∷ seen) m ≡ false) (new_ones (n ∷ seen) ns) → AllByRecursion (λ m. is_among seen m ≡ false) (if b then new_ones seen ns else n ∷ new_ones (n ∷ seen) ns)
    by true is f g = f
    by false is f g = (is, all_by (λ m. is_among seen m ≡ false) (new_ones (n ∷ seen) ns) (λ m i. (or_parts (n == m) (is_among seen m) (of_all (λ m. is_among (n ∷ seen) m ≡ false) (new_ones (n ∷ seen) ns) g m i)).1))

distinct : (seen ns : List ℕ) → AreDistinct (new_ones seen ns)
distinct seen [] = tt
distinct seen (n ∷ ns) = by (is_among seen n) (distinct seen ns) (distinct (n ∷ seen) ns)
  where
    by : (b : Bool) → AreDistinct (new_ones seen ns) → AreDistinct (new_ones (n ∷ seen) ns) → AreDistinct (if b then new_ones seen ns else n ∷ new_ones (n ∷ seen) ns)
    by true f g = f
    by false f g = (all_by (λ m. n ≡ m → ⊥) (new_ones (n ∷ seen) ns) (λ m i. eqb-false n m (or_parts (n == m) (is_among seen m) (of_all (λ m. is_among (n ∷ seen) m ≡ false) (new_ones (n ∷ seen) ns) (unseen (n ∷ seen) ns) m i)).0), g)

pub of_once : (ns : List ℕ) (m : ℕ) → IsIn (once ns) m → IsIn ns m
of_once ns m i = of_new [] ns m i

pub once_distinct : (ns : List ℕ) → AreDistinct (once ns)
once_distinct ns = distinct [] ns

into_new : (seen ns : List ℕ) (m : ℕ) → IsIn ns m → is_among seen m ≡ false → IsIn (new_ones seen ns) m
into_new seen [] m i new = absurd i
into_new seen (n ∷ ns) m i new = by (is_among seen n) refl (λ j. into_new seen ns m j new) (λ j fresh. into_new (n ∷ seen) ns m j (or_from (n == m) (is_among seen m) fresh new)) i
  where
    behind : (IsIn ns m → (n == m) ≡ false → IsIn (new_ones (n ∷ seen) ns) m) → IsIn ns m → (t : Bool) → (n == m) ≡ t → IsIn (n ∷ new_ones (n ∷ seen) ns) m
    behind g j true is = inl (eqb-true n m is)
    behind g j false is = inr (g j is)

    by : (b : Bool) → is_among seen n ≡ b → (IsIn ns m → IsIn (new_ones seen ns) m) → (IsIn ns m → (n == m) ≡ false → IsIn (new_ones (n ∷ seen) ns) m) → IsIn (n ∷ ns) m → IsIn (if b then new_ones seen ns else n ∷ new_ones (n ∷ seen) ns) m
    by true is f g (inl e) = absurd (true≢false (sym is ∙ ap (is_among seen) e ∙ new))
    by true is f g (inr j) = f j
    by false is f g (inl e) = inl e
    by false is f g (inr j) = behind g j (n == m) refl

pub into_once : (ns : List ℕ) (m : ℕ) → IsIn ns m → IsIn (once ns) m
into_once ns m i = into_new [] ns m i refl
