-- Tables of datapaths, gone through in place of the datapaths.
use Rattle.std.proofs.Common.{◌≡◌, ℕ, ◌+◌, ◌<◌, List, [], ◌∷◌, ◌++◌, append_assoc, drop, length, get_or, map, refl, sym, ap, ◌∙◌}
use Rattle.std.specs.List.{flat_map}
use Rattle.std.proofs.lemmas.List.{map-append}
use Rattle.conf_rules.proofs.First.{next}

joined-mapped : {A B C : Type 0} (f : B → List C) (g : A → B) (xs : List A) → flat_map f (map g xs) ≡ flat_map (λ x. f (g x)) xs
joined-mapped f g [] = refl
joined-mapped f g (x ∷ xs) = ap (λ t. f (g x) ++ t) (joined-mapped f g xs)

-- what two lists make is the same where what they stand for is
pub joined_alike : {A B C D : Type 0} (f : C → List D) (g : A → C) (h : B → C) (xs : List A) (ys : List B) → map g xs ≡ map h ys
    → flat_map (λ x. f (g x)) xs ≡ flat_map (λ y. f (h y)) ys
joined_alike f g h xs ys same = sym (joined-mapped f g xs) ∙ ap (flat_map f) same ∙ joined-mapped f h ys

-- one table more
pub made_more : {T D C : Type 0} (view : T → C) (pair : D → C) (ts more : List T) (t : T) (xs ys : List D) (i : ℕ) (x : D) (all : List C)
    → ys ≡ xs → i < length ys → x ≡ get_or ys i x → more ≡ ts ++ t ∷ [] → view t ≡ pair x
    → map view ts ++ map pair (drop i xs) ≡ all → map view more ++ map pair (drop (i + 1) xs) ≡ all
made_more view pair ts more t xs ys i x all e lt is pushed same so_far =
    ap (λ s. map view s ++ map pair (drop (i + 1) xs)) pushed
    ∙ ap (λ s. s ++ map pair (drop (i + 1) xs)) (map-append view ts (t ∷ []))
    ∙ append_assoc (map view ts) (view t ∷ []) (map pair (drop (i + 1) xs))
    ∙ ap (λ c. map view ts ++ c ∷ map pair (drop (i + 1) xs)) same
    ∙ ap (λ s. map view ts ++ map pair s) (sym (next xs ys i x e lt is))
    ∙ so_far
