-- Walks over what two lists side by side make.
use Rattle.std.proofs.Common.{◌≡◌, ℕ, ◌+◌, ◌<◌, List, [], ◌∷◌, ◌++◌, drop, length, get_or, Option, refl, ap, ◌∙◌, sym}
use Rattle.std.proofs.lemmas.Grind.{flat_map-append}
use Rattle.std.specs.List.{flat_map, zip}
use Rattle.conf_rules.specs.Places.{first}
use Rattle.conf_rules.proofs.First.{Steps, walked_beside}

once : {A B C : Type 0} (f : B → List C) (mk : A → B) (xs : List A) → flat_map f (flat_map (λ x. mk x ∷ []) xs) ≡ flat_map (λ x. f (mk x)) xs
once f mk [] = refl
once f mk (x ∷ xs) = ap (λ t. f (mk x) ++ t) (once f mk xs)

joined : {A B C : Type 0} (f : B → List C) (g : A → List B) (xs : List A) → flat_map f (flat_map g xs) ≡ flat_map (λ x. flat_map f (g x)) xs
joined f g [] = refl
joined f g (x ∷ xs) = flat_map-append f (g x) (flat_map g xs) ∙ ap (λ t. flat_map f (g x) ++ t) (joined f g xs)

-- one each
pub walked_made : {A B C D : Type 0} (f : C → List D) (mk : A × B → C) (xs zs : List A) (ys ws : List B) (i : ℕ) (x : A) (y : B) (all : Option D)
    → zs ≡ xs → i < length zs → x ≡ get_or zs i x → ws ≡ ys → i < length ws → y ≡ get_or ws i y
    → first (flat_map f (flat_map (λ p. mk p ∷ []) (zip (drop i xs) (drop i ys)))) ≡ all
    → Steps (f (mk (x, y))) (first (flat_map f (flat_map (λ p. mk p ∷ []) (zip (drop (i + 1) xs) (drop (i + 1) ys))))) all
walked_made f mk xs zs ys ws i x y all e lt is d less same so_far =
    let step = walked_beside (λ p. f (mk p)) xs zs ys ws i x y all e lt is d less same (ap first (sym (once f mk (zip (drop i xs) (drop i ys)))) ∙ so_far) in
    (λ none. ap first (once f mk (zip (drop (i + 1) xs) (drop (i + 1) ys))) ∙ step.0 none, step.1)

-- several each
pub walked_pairs : {A B C D : Type 0} (f : C → List D) (g : A × B → List C) (xs zs : List A) (ys ws : List B) (i : ℕ) (x : A) (y : B) (all : Option D)
    → zs ≡ xs → i < length zs → x ≡ get_or zs i x → ws ≡ ys → i < length ws → y ≡ get_or ws i y
    → first (flat_map f (flat_map g (zip (drop i xs) (drop i ys)))) ≡ all
    → Steps (flat_map f (g (x, y))) (first (flat_map f (flat_map g (zip (drop (i + 1) xs) (drop (i + 1) ys))))) all
walked_pairs f g xs zs ys ws i x y all e lt is d less same so_far =
    let step = walked_beside (λ p. flat_map f (g p)) xs zs ys ws i x y all e lt is d less same (ap first (sym (joined f g (zip (drop i xs) (drop i ys)))) ∙ so_far) in
    (λ none. ap first (joined f g (zip (drop (i + 1) xs) (drop (i + 1) ys))) ∙ step.0 none, step.1)
