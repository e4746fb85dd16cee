-- Walks over lists of which each item stands behind those before it.
use Rattle.std.proofs.Common.{◌≡◌, ℕ, ◌+◌, ◌<◌, ◌==◌, ◌||◌, Bool, List, [], ◌∷◌, ◌++◌, take, drop, length, get_or, Option, sym, ap, subst, ◌∙◌}
use Rattle.std.specs.List.{flat_map, list_any, enumerate_from, zip}
use Rattle.std.specs.Ordering.{nat_cmp}
use Rattle.std.specs.BTreeSet.{BTreeSet, contains, contains_text}
use Rattle.std.specs.declared.string.String.{String}
use Rattle.std.specs.declared.alloc.Global.{Global}
use Rattle.std.proofs.lemmas.List.{take_more}
use Rattle.std.proofs.lemmas.List.Folds.{list_any_more}
use Rattle.conf_types.specs.Lists.{is_same}
use Rattle.conf_rules.specs.Places.{first, nth, with_earlier}
use Rattle.conf_rules.specs.Seen.{HasNumbers, HasNames}
use Rattle.conf_rules.proofs.First.{Steps, stepped, next}

pub taken : {A : Type 0} (xs ys : List A) (i : ℕ) (x : A) → ys ≡ xs → i < length ys → x ≡ get_or ys i x → take (i + 1) xs ≡ take i xs ++ x ∷ []
taken xs ys i x e lt is =
    subst (λ (zs : List _). take (i + 1) zs ≡ take i zs ++ x ∷ []) e (take_more ys i x lt ∙ ap (λ y. take i ys ++ y ∷ []) (sym is))

pub walked_behind : {A B : Type 0} (f : List A × A → List B) (xs ys : List A) (i : ℕ) (x : A) (all : Option B) → ys ≡ xs → i < length ys → x ≡ get_or ys i x
    → first (flat_map f (with_earlier (take i xs) (drop i xs))) ≡ all
    → Steps (f (take i xs, x)) (first (flat_map f (with_earlier (take (i + 1) xs) (drop (i + 1) xs)))) all
walked_behind f xs ys i x all e lt is =
    stepped (f (take i xs, x)) (flat_map f (with_earlier (take (i + 1) xs) (drop (i + 1) xs))) (flat_map f (with_earlier (take i xs) (drop i xs))) all
    (ap (λ t. flat_map f (with_earlier (take i xs) t)) (next xs ys i x e lt is)
    ∙ ap (λ es. f (take i xs, x) ++ flat_map f (with_earlier es (drop (i + 1) xs))) (sym (taken xs ys i x e lt is)))

-- each at its place
pub walked_each_behind : {A B : Type 0} (site : List (List ℕ)) (f : List (List ℕ) × (List A × A) → List B) (xs ys : List A) (i : ℕ) (x : A) (all : Option B)
    → ys ≡ xs → i < length ys → x ≡ get_or ys i x
    → first (flat_map f (flat_map (λ item. (nth site item.0, item.1) ∷ []) (enumerate_from i (with_earlier (take i xs) (drop i xs))))) ≡ all
    → Steps (f (nth site i, (take i xs, x))) (first (flat_map f (flat_map (λ item. (nth site item.0, item.1) ∷ []) (enumerate_from (i + 1) (with_earlier (take (i + 1) xs) (drop (i + 1) xs)))))) all
walked_each_behind {A} {B} site f xs ys i x all e lt is =
    let rest = λ (n : ℕ) (es behind : List A). flat_map f (flat_map (λ item. (nth site item.0, item.1) ∷ []) (enumerate_from n (with_earlier es behind))) in
    stepped (f (nth site i, (take i xs, x))) (rest (i + 1) (take (i + 1) xs) (drop (i + 1) xs)) (rest i (take i xs) (drop i xs)) all
    (ap (rest i (take i xs)) (next xs ys i x e lt is)
    ∙ ap (λ es. f (nth site i, (take i xs, x)) ++ rest (i + 1) es (drop (i + 1) xs)) (sym (taken xs ys i x e lt is)))

-- beside another list
pub walked_beside_behind : {A B C : Type 0} (f : A × (List B × B) → List C) (xs zs : List A) (ys ws : List B) (i : ℕ) (x : A) (y : B) (all : Option C)
    → zs ≡ xs → i < length zs → x ≡ get_or zs i x → ws ≡ ys → i < length ws → y ≡ get_or ws i y
    → first (flat_map f (zip (drop i xs) (with_earlier (take i ys) (drop i ys)))) ≡ all
    → Steps (f (x, (take i ws, y))) (first (flat_map f (zip (drop (i + 1) xs) (with_earlier (take (i + 1) ys) (drop (i + 1) ys))))) all
walked_beside_behind {A} {B} {C} f xs zs ys ws i x y all e lt is d less same =
    let rest = λ (es behind : List B). flat_map f (zip (drop (i + 1) xs) (with_earlier es behind)) in
    stepped (f (x, (take i ws, y))) (rest (take (i + 1) ys) (drop (i + 1) ys)) (flat_map f (zip (drop i xs) (with_earlier (take i ys) (drop i ys)))) all
    (ap (λ (t : List A). flat_map f (zip t (with_earlier (take i ys) (drop i ys)))) (next xs zs i x e lt is)
    ∙ ap (λ (t : List B). flat_map f (zip (x ∷ drop (i + 1) xs) (with_earlier (take i ys) t))) (next ys ws i y d less same)
    ∙ ap (λ (es : List B). f (x, (take i ys, y)) ++ rest es (drop (i + 1) ys)) (sym (taken ys ws i y d less same))
    ∙ ap (λ (es : List B). f (x, (take i es, y)) ++ rest (take (i + 1) ys) (drop (i + 1) ys)) (sym d))

-- some of those so far, and one more
pub any_more : {A : Type 0} (p : A → Bool) (xs ys : List A) (i : ℕ) (x : A) → ys ≡ xs → i < length ys → x ≡ get_or ys i x
    → list_any p (take (i + 1) xs) ≡ (list_any p (take i xs) || p x)
any_more p xs ys i x e lt is =
    subst (λ (zs : List _). list_any p (take (i + 1) zs) ≡ (list_any p (take i zs) || p x)) e
    (list_any_more p ys i x lt ∙ ap (λ y. list_any p (take i ys) || p y) (sym is))

pub numbers_more : {A : Type 0} (number : A → ℕ) (xs ys : List A) (i : ℕ) (x : A) (m : ℕ) (seen more : BTreeSet ℕ) → ys ≡ xs → i < length ys → x ≡ get_or ys i x → m ≡ number x
    → HasNumbers seen number (take i xs) → ((n : ℕ) → contains nat_cmp more n ≡ (contains nat_cmp seen n || m == n)) → HasNumbers more number (take (i + 1) xs)
numbers_more number xs ys i x m seen more e lt is same has grown = λ n.
    grown n
    ∙ ap (λ k. contains nat_cmp seen n || k == n) same
    ∙ ap (λ b. b || number x == n) (has n)
    ∙ sym (any_more (λ y. number y == n) xs ys i x e lt is)

pub names_more : {A : Type 0} (name : A → List ℕ) (xs ys : List A) (i : ℕ) (x : A) (seen more : BTreeSet (String Global)) → ys ≡ xs → i < length ys → x ≡ get_or ys i x
    → HasNames seen name (take i xs) → ((t : List ℕ) → contains_text more t ≡ (contains_text seen t || is_same (name x) t)) → HasNames more name (take (i + 1) xs)
names_more name xs ys i x seen more e lt is has grown = λ t.
    grown t
    ∙ ap (λ b. b || is_same (name x) t) (has t)
    ∙ sym (any_more (λ y. is_same (name y) t) xs ys i x e lt is)

-- in a walk over items that say something by whether their numbers and names are those of earlier ones, these being sets
abbrev pub by_repeats : {A B : Type 0} → (A → Bool → Bool → List B) → (A → ℕ) → (A → List ℕ) → List A × A → List B
by_repeats say number name item = say item.1 (list_any (λ y. number y == number item.1) item.0) (list_any (λ y. is_same (name y) (name item.1)) item.0)

pub walked_seen : {A B : Type 0} (say : A → Bool → Bool → List B) (number : A → ℕ) (name : A → List ℕ) (xs ys : List A) (i : ℕ) (x : A) (all : Option B)
    (seen more : BTreeSet ℕ) (texts more_texts : BTreeSet (String Global)) (a b : Bool) (m : ℕ)
    → ys ≡ xs → i < length ys → x ≡ get_or ys i x → m ≡ number x
    → (first (flat_map (by_repeats say number name) (with_earlier (take i xs) (drop i xs))) ≡ all) × HasNumbers seen number (take i xs) × HasNames texts name (take i xs)
    → a ≡ contains nat_cmp seen m → ((n : ℕ) → contains nat_cmp more n ≡ (contains nat_cmp seen n || m == n))
    → b ≡ contains_text texts (name x) → ((t : List ℕ) → contains_text more_texts t ≡ (contains_text texts t || is_same (name x) t))
    → Steps (say x a b) (first (flat_map (by_repeats say number name) (with_earlier (take (i + 1) xs) (drop (i + 1) xs)))) all
    × HasNumbers more number (take (i + 1) xs) × HasNames more_texts name (take (i + 1) xs)
walked_seen say number name xs ys i x all seen more texts more_texts a b m e lt is same so_far a_is grown b_is grown_texts =
    let number_again : a ≡ list_any (λ y. number y == number x) (take i xs) = a_is ∙ ap (contains nat_cmp seen) same ∙ so_far.1 (number x) in
    let name_again : b ≡ list_any (λ y. is_same (name y) (name x)) (take i xs) = b_is ∙ so_far.2 (name x) in
    let here : by_repeats say number name (take i xs, x) ≡ say x a b =
    ap (λ t. say x t (list_any (λ y. is_same (name y) (name x)) (take i xs))) (sym number_again) ∙ ap (λ t. say x a t) (sym name_again) in
    let step = walked_behind (by_repeats say number name) xs ys i x all e lt is so_far.0 in (
      (λ none. step.0 (ap first here ∙ none), λ y some. step.1 y (ap first here ∙ some)),
      numbers_more number xs ys i x m seen more e lt is same so_far.1 grown,
      names_more name xs ys i x texts more_texts e lt is so_far.2 grown_texts,
    )
