-- The first of joined lists, and walks over lists that look for it.
use Rattle.std.proofs.Common.{◌≡◌, ℕ, zero, suc, ◌+◌, ◌<◌, ◌≤◌, Bool, ◌||◌, List, [], ◌∷◌, ◌++◌, drop, length, get_or, drop-cons, add-one, Option, Some, None, refl, sym, ap, subst, ◌∙◌, arith}
use Rattle.std.proofs.Math.Seq.{drop-nil}
use Rattle.std.proofs.lemmas.Grind.{flat_map-append}
use Rattle.std.proofs.lemmas.List.Folds.{list_any-append}
use Rattle.std.specs.List.{flat_map, zip, list_any, enumerate_from}
use Rattle.conf_rules.specs.Places.{first, nth, with_earlier}

-- the first of two lists is that of the first list, or where it has none that of the second
pub first_none : {A : Type 0} (fs gs : List A) → first fs ≡ None → first (fs ++ gs) ≡ first gs
first_none [] gs e = refl
first_none (f ∷ fs) gs e = cc

pub first_some : {A : Type 0} (fs gs : List A) (f : A) → first fs ≡ Some f → first (fs ++ gs) ≡ Some f
first_some [] gs f e = cc
first_some (g ∷ fs) gs f e = e

-- what an item says in a walk: nothing, and the walk goes on, or the answer
abbrev pub Steps : {B : Type 0} → List B → Option B → Option B → Type 0
Steps {B} here further all = (first here ≡ None → further ≡ all) × ((b : B) → first here ≡ Some b → Some b ≡ all)

pub stepped : {B : Type 0} (fs gs hs : List B) (all : Option B) → hs ≡ fs ++ gs → first hs ≡ all → Steps fs (first gs) all
stepped fs gs hs all e so_far = (λ none. sym (first_none fs gs none) ∙ sym (ap first e) ∙ so_far, λ b some. sym (first_some fs gs b some) ∙ sym (ap first e) ∙ so_far)

pub next : {A : Type 0} (xs ys : List A) (i : ℕ) (x : A) → ys ≡ xs → i < length ys → x ≡ get_or ys i x → drop i xs ≡ x ∷ drop (i + 1) xs
next xs ys i x e lt is =
    subst (λ (zs : List _). drop i zs ≡ x ∷ drop (i + 1) zs) e
    (drop-cons ys i x lt ∙ ap (λ y. y ∷ drop (suc i) ys) (sym is) ∙ ap (λ n. x ∷ drop n ys) (sym (add-one i)))

-- in a walk over a list
pub walked : {A B : Type 0} (f : A → List B) (xs ys : List A) (i : ℕ) (x : A) (all : Option B) → ys ≡ xs → i < length ys → x ≡ get_or ys i x
    → first (flat_map f (drop i xs)) ≡ all → Steps (f x) (first (flat_map f (drop (i + 1) xs))) all
walked f xs ys i x all e lt is = stepped (f x) (flat_map f (drop (i + 1) xs)) (flat_map f (drop i xs)) all (ap (flat_map f) (next xs ys i x e lt is))

-- in a walk over a list of which each stands at its place
pub walked_each : {A B : Type 0} (site : List (List ℕ)) (f : List (List ℕ) × A → List B) (xs ys : List A) (i : ℕ) (x : A) (all : Option B)
    → ys ≡ xs → i < length ys → x ≡ get_or ys i x
    → first (flat_map f (flat_map (λ item. (nth site item.0, item.1) ∷ []) (enumerate_from i (drop i xs)))) ≡ all
    → Steps (f (nth site i, x)) (first (flat_map f (flat_map (λ item. (nth site item.0, item.1) ∷ []) (enumerate_from (i + 1) (drop (i + 1) xs))))) all
walked_each {A} {B} site f xs ys i x all e lt is =
    let rest = λ (n : ℕ) (behind : List A). flat_map f (flat_map (λ item. (nth site item.0, item.1) ∷ []) (enumerate_from n behind)) in
    stepped (f (nth site i, x)) (rest (i + 1) (drop (i + 1) xs)) (rest i (drop i xs)) all (ap (rest i) (next xs ys i x e lt is))

-- in a walk over two lists side by side
pub walked_beside : {A B C : Type 0} (f : A × B → List C) (xs zs : List A) (ys ws : List B) (i : ℕ) (x : A) (y : B) (all : Option C)
    → zs ≡ xs → i < length zs → x ≡ get_or zs i x → ws ≡ ys → i < length ws → y ≡ get_or ws i y
    → first (flat_map f (zip (drop i xs) (drop i ys))) ≡ all → Steps (f (x, y)) (first (flat_map f (zip (drop (i + 1) xs) (drop (i + 1) ys)))) all
walked_beside f xs zs ys ws i x y all e lt is d less same =
    stepped (f (x, y)) (flat_map f (zip (drop (i + 1) xs) (drop (i + 1) ys))) (flat_map f (zip (drop i xs) (drop i ys))) all
    (ap (λ t. flat_map f (zip t (drop i ys))) (next xs zs i x e lt is) ∙ ap (λ t. flat_map f (zip (x ∷ drop (i + 1) xs) t)) (next ys ws i y d less same))

-- beside nothing stands nothing
zip-nil : {A B : Type 0} (xs : List A) (ys : List B) → ys ≡ [] → zip xs ys ≡ []
zip-nil [] ys e = refl
zip-nil (x ∷ xs) [] e = refl
zip-nil (x ∷ xs) (y ∷ ys) e = cc

pub drop-past : {A : Type 0} (xs : List A) (i : ℕ) → length xs ≤ i → drop i xs ≡ []
drop-past [] i h = drop-nil i
drop-past (x ∷ xs) zero h = absurd (omega arith)
drop-past (x ∷ xs) (suc i) h = drop-past xs i (omega arith)

pub zip-short : {A B : Type 0} (xs : List A) (ys : List B) (i : ℕ) → length ys ≤ i → zip (drop i xs) (drop i ys) ≡ []
zip-short xs ys i h = zip-nil (drop i xs) (drop i ys) (drop-past ys i h)

pub zip-short_behind : {A B : Type 0} (xs : List A) (ys es : List B) (i : ℕ) → length ys ≤ i → zip (drop i xs) (with_earlier es (drop i ys)) ≡ []
zip-short_behind xs ys es i h = zip-nil (drop i xs) (with_earlier es (drop i ys)) (ap (with_earlier es) (drop-past ys i h))

-- some of joined lists
pub any-joined : {A B : Type 0} (p : B → Bool) (f : A → List B) (xs : List A) → list_any p (flat_map f xs) ≡ list_any (λ x. list_any p (f x)) xs
any-joined p f [] = refl
any-joined p f (x ∷ xs) = list_any-append p (f x) (flat_map f xs) ∙ ap (λ b. list_any p (f x) || b) (any-joined p f xs)

pub ruleset first_rules = (first_none, first_some)

pub ruleset zip_rules = (first_none, first_some, zip-short, zip-short_behind)

pub ruleset pair_rules = (first_none, first_some, zip-short, flat_map-append)

pub ruleset any_rules = (any-joined, list_any-append)
