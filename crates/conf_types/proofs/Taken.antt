-- Lists made from the front of another, one element further.
use Rattle.std.proofs.Common.{◌≡◌, ℕ, ◌+◌, ◌<◌, Option, Some, None, List, [], ◌∷◌, ◌++◌, length, get_or, take, ap, sym, ◌∙◌, append_assoc, append-nil}
use Rattle.std.specs.List.{filter_map, cons_option}
use Rattle.std.proofs.lemmas.List.Elements.{filter_map-append}
use Rattle.std.proofs.lemmas.List.{take_more}

module _ {X Y : Type 0} (h : X → Option Y) (xs : List X) (i : ℕ) (x : X) (lt : i < length xs) (is : x ≡ get_or xs i x) (out before : List Y) (so_far : before ≡ out ++ filter_map h (take i xs)) where
  front : filter_map h (take (i + 1) xs) ≡ filter_map h (take i xs) ++ filter_map h (x ∷ [])
  front = ap (filter_map h) (take_more xs i x lt) ∙ filter_map-append h (take i xs) (get_or xs i x ∷ []) ∙ ap (λ y. filter_map h (take i xs) ++ filter_map h (y ∷ [])) (sym is)

  pub one_kept : (y : Y) → h x ≡ Some y → before ++ y ∷ [] ≡ out ++ filter_map h (take (i + 1) xs)
  one_kept y e =
      ap (λ l. l ++ y ∷ []) so_far ∙ append_assoc out (filter_map h (take i xs)) (y ∷ [])
      ∙ ap (λ o. out ++ (filter_map h (take i xs) ++ cons_option o [])) (sym e) ∙ ap (λ l. out ++ l) (sym front)

  pub none_kept : h x ≡ None → before ≡ out ++ filter_map h (take (i + 1) xs)
  none_kept e =
      so_far ∙ ap (λ l. out ++ l) (sym (append-nil (filter_map h (take i xs))) ∙ ap (λ o. filter_map h (take i xs) ++ cons_option o []) (sym e) ∙ sym front)
