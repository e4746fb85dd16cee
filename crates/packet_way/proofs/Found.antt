-- The first that passes, among what is made of the items of a list.
use Rattle.std.proofs.Common.{◌≡◌, ℕ, zero, suc, ◌+◌, ◌<◌, Bool, Some, None, Option, List, [], ◌∷◌, length, get_or, take, find, refl, sym, ap, ◌∙◌, arith, add-one}
use Rattle.std.specs.List.{flat_map}
use Rattle.std.specs.Option.{option_or}
use Rattle.std.proofs.lemmas.List.Folds.{find-append}
use Rattle.std.proofs.lemmas.Option.{none-some}

or_none : {X : Type 0} (a b : Option X) → option_or a b ≡ None → (a ≡ None) × (b ≡ None)
or_none None b e = (refl, e)
or_none (Some x) b e = absurd (none-some x (sym e))

module _ {X Y : Type 0} (test : Y → Bool) (f : X → List Y) where
  -- what the first item gives decides, and if it gives none the others
  first : (x : X) (xs : List X) → find test (flat_map f (x ∷ xs)) ≡ option_or (find test (f x)) (find test (flat_map f xs))
  first x xs = find-append test (f x) (flat_map f xs)

  pub found_at : (xs : List X) (k : ℕ) (x : X) (y : Y) → k < length xs → x ≡ get_or xs k x → find test (flat_map f (take k xs)) ≡ None → find test (f x) ≡ Some y → find test (flat_map f xs) ≡ Some y
  found_at [] k x y lt is before here = absurd (omega arith)
  found_at (z ∷ zs) zero x y lt is before here = first z zs ∙ ap (λ (w : X). option_or (find test (f w)) (find test (flat_map f zs))) (sym is) ∙ ap (λ (o : Option Y). option_or o (find test (flat_map f zs))) here
  found_at (z ∷ zs) (suc k) x y lt is before here =
      let parts = or_none (find test (f z)) (find test (flat_map f (take k zs))) (sym (first z (take k zs)) ∙ before) in
      first z zs ∙ ap (λ (o : Option Y). option_or o (find test (flat_map f zs))) parts.0 ∙ found_at zs k x y (omega arith) is parts.1 here

  none_to : (xs : List X) (k : ℕ) (x : X) → k < length xs → x ≡ get_or xs k x → find test (flat_map f (take k xs)) ≡ None → find test (f x) ≡ None → find test (flat_map f (take (suc k) xs)) ≡ None
  none_to [] k x lt is before here = absurd (omega arith)
  none_to (z ∷ zs) zero x lt is before here = first z [] ∙ ap (λ (w : X). option_or (find test (f w)) None) (sym is) ∙ ap (λ (o : Option Y). option_or o None) here
  none_to (z ∷ zs) (suc k) x lt is before here =
      let parts = or_none (find test (f z)) (find test (flat_map f (take k zs))) (sym (first z (take k zs)) ∙ before) in
      first z (take (suc k) zs) ∙ ap (λ (o : Option Y). option_or o (find test (flat_map f (take (suc k) zs)))) parts.0 ∙ none_to zs k x (omega arith) is parts.1 here

  pub none_so_far : (xs : List X) (k : ℕ) (x : X) → k < length xs → x ≡ get_or xs k x → find test (flat_map f (take k xs)) ≡ None → find test (f x) ≡ None → find test (flat_map f (take (k + 1) xs)) ≡ None
  none_so_far xs k x lt is before here = rw add-one (none_to xs k x lt is before here)
