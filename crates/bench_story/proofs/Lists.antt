-- What holds of a list with one more item at its end.
use Rattle.std.proofs.Common.{◌≡◌, Bool, true, false, List, [], ◌∷◌, ◌++◌, refl}
use Rattle.std.specs.Prelude.{◌||◌}
use Rattle.std.specs.List.{AllByRecursion, list_any}
use Rattle.std.proofs.lemmas.Bool.{true≢false}
use Rattle.conf_types.specs.Lists.{EachBefore}

-- an item put into an empty list
pub one_item : {X : Type 0} (list made : List X) (item what : X) → list ≡ [] → item ≡ what → made ≡ list ++ item ∷ [] → made ≡ what ∷ []
one_item list made item what empty is pushed = rw (pushed, empty, is) refl

pub all_push : {X : Type 0} (P : X → Type 0) (xs : List X) (y : X) → AllByRecursion P xs → P y → AllByRecursion P (xs ++ y ∷ [])
all_push P [] y all last = (last, tt)
all_push P (x ∷ xs) y all last = (all.0, all_push P xs y all.1 last)

pub before_push : {X : Type 0} (R : X → X → Type 0) (xs : List X) (y : X) → EachBefore R xs → AllByRecursion (λ x. R x y) xs → EachBefore R (xs ++ y ∷ [])
before_push R [] y before last = (tt, tt)
before_push R (x ∷ xs) y before last = (all_push (R x) xs y before.0 last.0, before_push R xs y before.1 last.1)

pub none_push : {X : Type 0} (test : X → Bool) (xs : List X) (y : X) → list_any test xs ≡ false → test y ≡ false → list_any test (xs ++ y ∷ []) ≡ false
none_push test [] y none last = by (test y) last
  where
    by : (first : Bool) → first ≡ false → (first || false) ≡ false
    by true e = e
    by false e = e
none_push test (x ∷ xs) y none last = by (test x) (λ e. none_push test xs y e last) none
  where
    by : (first : Bool) → (list_any test xs ≡ false → list_any test (xs ++ y ∷ []) ≡ false) → (first || list_any test xs) ≡ false → (first || list_any test (xs ++ y ∷ [])) ≡ false
    by true more e = absurd (true≢false e)
    by false more e = more e
