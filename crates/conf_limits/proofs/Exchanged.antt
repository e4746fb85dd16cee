-- Items that are looked for by each of some numbers, and items whose number is one of these.
use Rattle.std.proofs.Common.{◌≡◌, ℕ, ◌==◌, ◌&&◌, ◌||◌, Bool, true, false, List, [], ◌∷◌, refl, sym, ap, ◌∙◌}
use Rattle.std.proofs.lemmas.Cmp.{nat_eq_equiv}
use Rattle.std.specs.List.{list_any}
use Rattle.conf_types.specs.Lists.{is_among}

crossed : (a b c d : Bool) → ((a || b) || (c || d)) ≡ ((a || c) || (b || d))
crossed true b true d = refl
crossed true b false d = refl
crossed false true true d = refl
crossed false true false d = refl
crossed false false c d = refl

spread : (a c b : Bool) → ((a || c) && b) ≡ ((a && b) || (c && b))
spread true true true = refl
spread true true false = refl
spread true false true = refl
spread true false false = refl
spread false c b = refl

-- by two tests that say the same
pub any-same : {A : Type 0} (p q : A → Bool) → ((x : A) → p x ≡ q x) → (xs : List A) → list_any p xs ≡ list_any q xs
any-same p q same [] = refl
any-same p q same (x ∷ xs) = ap (λ b. b || list_any p xs) (same x) ∙ ap (λ b. q x || b) (any-same p q same xs)

-- by one of two tests
pub any-or : {A : Type 0} (p q : A → Bool) (xs : List A) → list_any (λ x. p x || q x) xs ≡ (list_any p xs || list_any q xs)
any-or p q [] = refl
any-or p q (x ∷ xs) = ap (λ b. (p x || q x) || b) (any-or p q xs) ∙ crossed (p x) (q x) (list_any p xs) (list_any q xs)

-- one number among those
pub any-one : (k : ℕ) (b : Bool) (ns : List ℕ) → list_any (λ n. k == n && b) ns ≡ (is_among ns k && b)
any-one k b [] = refl
any-one k b (n ∷ ns) =
    ap (λ c. (k == n && b) || c) (any-one k b ns)
    ∙ ap (λ c. (c && b) || (is_among ns k && b)) (nat_eq_equiv.symm k n)
    ∙ sym (spread (n == k) (is_among ns k) b)

pub any-none : {A : Type 0} (xs : List A) → list_any (λ (x : A). false) xs ≡ false
any-none [] = refl
any-none (x ∷ xs) = any-none xs

-- by a test and a fact
pub any-and : {A : Type 0} (b : Bool) (p : A → Bool) (xs : List A) → list_any (λ x. b && p x) xs ≡ (b && list_any p xs)
any-and true p xs = refl
any-and false p xs = any-none xs

-- an item whose number is among those, and that passes a test
pub exchanged : {A : Type 0} (number : A → ℕ) (passes : A → Bool) (member : ℕ → Bool) (ns : List ℕ) (xs : List A) → ((n : ℕ) → is_among ns n ≡ member n)
    → list_any (λ n. list_any (λ x. number x == n && passes x) xs) ns ≡ list_any (λ x. member (number x) && passes x) xs
exchanged number passes member ns [] has = any-none ns
exchanged number passes member ns (x ∷ xs) has =
    any-or (λ n. number x == n && passes x) (λ n. list_any (λ y. number y == n && passes y) xs) ns
    ∙ ap (λ b. b || list_any (λ n. list_any (λ y. number y == n && passes y) xs) ns) (any-one (number x) (passes x) ns ∙ ap (λ b. b && passes x) (has (number x)))
    ∙ ap (λ b. (member (number x) && passes x) || b) (exchanged number passes member ns xs has)

-- or a fact of a number that is among them
pub exchanged_or : {A : Type 0} (number : A → ℕ) (passes : A → Bool) (member : ℕ → Bool) (ns : List ℕ) (xs : List A) (own : ℕ) (b : Bool) → ((n : ℕ) → is_among ns n ≡ member n) → member own ≡ true
    → list_any (λ n. list_any (λ x. number x == n && passes x) xs || (own == n && b)) ns ≡ (list_any (λ x. member (number x) && passes x) xs || b)
exchanged_or number passes member ns xs own b has is =
    any-or (λ n. list_any (λ x. number x == n && passes x) xs) (λ n. own == n && b) ns
    ∙ ap (λ c. c || list_any (λ n. own == n && b) ns) (exchanged number passes member ns xs has)
    ∙ ap (λ c. list_any (λ x. member (number x) && passes x) xs || c) (any-one own b ns ∙ ap (λ c. c && b) (has own ∙ is))
