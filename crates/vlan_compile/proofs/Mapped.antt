-- Lists of what is made of each.
use Rattle.std.proofs.Common.{◌≡◌, Option, Some, None, List, [], ◌∷◌, map, refl, ap, sym, ◌∙◌}
use Rattle.std.specs.List.{filter_map, cons_option}
use Rattle.std.specs.Option.{option_map}

pub map_same : {X Y : Type 0} (f g : X → Y) → ((x : X) → f x ≡ g x) → (xs : List X) → map f xs ≡ map g xs
map_same f g e [] = refl
map_same f g e (x ∷ xs) = ap (λ y. y ∷ map f xs) (e x) ∙ ap (λ ys. g x ∷ ys) (map_same f g e xs)

pub map-filter_map : {X Y Z : Type 0} (f : Y → Z) (h : X → Option Y) (xs : List X) → filter_map (λ x. option_map f (h x)) xs ≡ map f (filter_map h xs)
map-filter_map f h [] = refl
map-filter_map f h (x ∷ xs) = kept (h x) (map-filter_map f h xs)
  where
    kept : (o : Option _) → filter_map (λ x. option_map f (h x)) xs ≡ map f (filter_map h xs) → cons_option (option_map f o) (filter_map (λ x. option_map f (h x)) xs) ≡ map f (cons_option o (filter_map h xs))
    kept None e = e
    kept (Some y) e = ap (λ zs. f y ∷ zs) e
