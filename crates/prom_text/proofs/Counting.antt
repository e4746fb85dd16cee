-- Items one by one, of which the first of equal ones are taken, so many.
use Rattle.std.proofs.Common.{◌≡◌, ◌≢◌, ℕ, zero, suc, ◌+◌, ◌-◌, ◌≤◌, ◌<◌, Bool, true, false, cond, ◌||◌, List, [], ◌∷◌, ◌++◌, length, take, drop, get_or, map, refl, sym, ap, ◌∙◌, subst, arith, append_assoc, length-append, drop-cons, add-one}
use Rattle.std.specs.List.{AllByRecursion, list_any}
use Rattle.std.proofs.lemmas.List.{append-nil, drop_all, take_more}
use Rattle.prom_text.specs.Counted.{firsts}

pub map_map : {A B C : Type 0} (f : A → B) (g : B → C) (xs : List A) → map g (map f xs) ≡ map (λ x. g (f x)) xs
map_map f g [] = refl
map_map f g (x ∷ xs) = ap (λ l. g (f x) ∷ l) (map_map f g xs)

take_none : {A : Type 0} (n : ℕ) → ◌≡◌ {A = List A} (take n []) []
take_none zero = refl
take_none (suc n) = refl

module _ {A R : Type 0} (same : A → A → Bool) (make : A → R) (most : ℕ) (xs : List A) where
  abbrev pub counted : List R
  counted = map make (take most (firsts same [] xs))

  abbrev pub left : ℕ → List R → List R
  left i rows = map make (take (most - length rows) (firsts same (take i xs) (drop i xs)))

  -- so many items were looked at
  pub record SoFar (i : ℕ) (rows : List R) : Type 0 where
    pub few : length rows ≤ most
    pub rest : rows ++ left i rows ≡ counted

  pub none_yet : SoFar 0 []
  none_yet = record { few = omega arith; rest = (let whole : most - 0 ≡ most = omega arith in ap (λ n. map make (take n (firsts same [] xs))) whole) }

  pub full : (i : ℕ) (rows : List R) → length rows ≡ most → SoFar i rows → rows ≡ counted
  full i rows all far =
      let none : most - length rows ≡ 0 = omega arith in
      sym (append-nil rows) ∙ ap (λ n. rows ++ map make (take n (firsts same (take i xs) (drop i xs)))) (sym none) ∙ far.rest

  pub ended : (i : ℕ) (rows : List R) → length xs ≤ i → SoFar i rows → rows ≡ counted
  ended i rows past far =
      sym (append-nil rows)
      ∙ ap (λ l. rows ++ map make l) (sym (take_none (most - length rows)))
      ∙ ap (λ l. rows ++ map make (take (most - length rows) (firsts same (take i xs) l))) (sym (drop_all i xs past))
      ∙ far.rest

  -- the next item
  module _ (i : ℕ) (x : A) (rows : List R) (within : i < length xs) (is : x ≡ get_or xs i x) where
    after : List A
    after = firsts same (take (i + 1) xs) (drop (i + 1) xs)

    next : firsts same (take i xs) (drop i xs) ≡ cond (list_any (λ y. same y x) (take i xs)) (firsts same (take (i + 1) xs) (drop (i + 1) xs)) (x ∷ firsts same (take (i + 1) xs) (drop (i + 1) xs))
    next =
        let cut : drop i xs ≡ x ∷ drop (i + 1) xs = drop-cons xs i x within ∙ ap (λ y. y ∷ drop (suc i) xs) (sym is) ∙ ap (λ n. x ∷ drop n xs) (sym (add-one i)) in
        let front : take i xs ++ x ∷ [] ≡ take (i + 1) xs = ap (λ y. take i xs ++ y ∷ []) is ∙ sym (take_more xs i x within) in
        ap (firsts same (take i xs)) cut
        ∙ ap (λ before. cond (list_any (λ y. same y x) (take i xs)) (firsts same before (drop (i + 1) xs)) (x ∷ firsts same before (drop (i + 1) xs))) front

    pub passed : list_any (λ y. same y x) (take i xs) ≡ true → SoFar i rows → SoFar (i + 1) rows
    passed seen far =
        let same_rest : firsts same (take i xs) (drop i xs) ≡ firsts same (take (i + 1) xs) (drop (i + 1) xs) =
        next ∙ ap (λ b. cond b (firsts same (take (i + 1) xs) (drop (i + 1) xs)) (x ∷ firsts same (take (i + 1) xs) (drop (i + 1) xs))) seen in
        record { few = far.few; rest = ap (λ l. rows ++ map make (take (most - length rows) l)) (sym same_rest) ∙ far.rest }

    pub taken : list_any (λ y. same y x) (take i xs) ≡ false → length rows ≢ most → SoFar i rows → SoFar (i + 1) (rows ++ make x ∷ [])
    taken new room far =
        let rest = firsts same (take (i + 1) xs) (drop (i + 1) xs) in
        let here : firsts same (take i xs) (drop i xs) ≡ x ∷ rest = next ∙ ap (λ b. cond b rest (x ∷ rest)) new in
        let few = far.few in
        let size : length (rows ++ make x ∷ []) ≡ length rows + 1 = length-append rows (make x ∷ []) in
        let one : most - length rows ≡ suc (most - length (rows ++ make x ∷ [])) = omega (arith, size, few, room) in
        let front : rows ++ left i rows ≡ rows ++ make x ∷ map make (take (most - length (rows ++ make x ∷ [])) rest) =
        ap (λ l. rows ++ map make (take (most - length rows) l)) here ∙ ap (λ n. rows ++ map make (take n (x ∷ rest))) one in
        record { few = omega (arith, size, few, room); rest = append_assoc rows (make x ∷ []) (left (i + 1) (rows ++ make x ∷ [])) ∙ sym front ∙ far.rest }

-- ---- items apart

weaker : {A : Type 0} (same : A → A → Bool) (before : List A) (x y : A) → list_any (λ z. same z y) (before ++ x ∷ []) ≡ false → (list_any (λ z. same z y) before ≡ false) × (same x y ≡ false)
weaker same [] x y e = (refl, first_false _ e)
  where
    first_false : (a : Bool) → a || false ≡ false → a ≡ false
    first_false true e = e
    first_false false e = refl
weaker same (b ∷ bs) x y e =
    let h = split (same b y) _ e in
    let more = weaker same bs x y h.1 in
    (by (same b y) (list_any (λ z. same z y) bs) h.0 more.0, more.1)
  where
    split : (a c : Bool) → a || c ≡ false → (a ≡ false) × (c ≡ false)
    split true c e = absurd (cc)
    split false c e = (refl, e)

    by : (a c : Bool) → a ≡ false → c ≡ false → a || c ≡ false
    by a c p q = rw (p, q) refl

all_weaker : {A : Type 0} (P Q : A → Type 0) (xs : List A) → ((x : A) → P x → Q x) → AllByRecursion P xs → AllByRecursion Q xs
all_weaker P Q [] f are = tt
all_weaker P Q (x ∷ xs) f are = (f x are.0, all_weaker P Q xs f are.1)

unseen : {A : Type 0} (same : A → A → Bool) (before xs : List A) → AllByRecursion (λ y. list_any (λ z. same z y) before ≡ false) (firsts same before xs)
unseen same before [] = tt
unseen {A = A} same before (x ∷ xs) =
    let rest : AllByRecursion (λ y. list_any (λ z. same z y) before ≡ false) (firsts same (before ++ x ∷ []) xs) =
    all_weaker (λ y. list_any (λ z. same z y) (before ++ x ∷ []) ≡ false) (λ y. list_any (λ z. same z y) before ≡ false) (firsts same (before ++ x ∷ []) xs)
    (λ y e. (weaker same before x y e).0) (unseen same (before ++ x ∷ []) xs) in
    by (list_any (λ z. same z x) before) refl rest
  where
    by : (b : Bool) → list_any (λ z. same z x) before ≡ b → AllByRecursion (λ y. list_any (λ z. same z y) before ≡ false) (firsts same (before ++ x ∷ []) xs)
        → AllByRecursion (λ y. list_any (λ z. same z y) before ≡ false) (cond b (firsts same (before ++ x ∷ []) xs) (x ∷ firsts same (before ++ x ∷ []) xs))
    by true e rest = rest
    by false e rest = (e, rest)

-- none of them is equal to a later one
abbrev pub Differ : {A : Type 0} → (A → A → Bool) → List A → Type 0
Differ same [] = Unit {0}
Differ same (x ∷ xs) = AllByRecursion (λ y. same x y ≡ false) xs × Differ same xs

pub firsts_differ : {A : Type 0} (same : A → A → Bool) (before xs : List A) → Differ same (firsts same before xs)
firsts_differ same before [] = tt
firsts_differ {A = A} same before (x ∷ xs) = by (list_any (λ z. same z x) before) (firsts_differ same (before ++ x ∷ []) xs)
  where
    apart : AllByRecursion (λ y. same x y ≡ false) (firsts same (before ++ x ∷ []) xs)
    apart = all_weaker (λ y. list_any (λ z. same z y) (before ++ x ∷ []) ≡ false) (λ y. same x y ≡ false) (firsts same (before ++ x ∷ []) xs)
        (λ y e. (weaker same before x y e).1) (unseen same (before ++ x ∷ []) xs)

    by : (b : Bool) → Differ same (firsts same (before ++ x ∷ []) xs) → Differ same (cond b (firsts same (before ++ x ∷ []) xs) (x ∷ firsts same (before ++ x ∷ []) xs))
    by true rest = rest
    by false rest = (apart, rest)

pub all_taken : {A : Type 0} (P : A → Type 0) (n : ℕ) (xs : List A) → AllByRecursion P xs → AllByRecursion P (take n xs)
all_taken P zero xs are = tt
all_taken P (suc n) [] are = tt
all_taken P (suc n) (x ∷ xs) are = (are.0, all_taken P n xs are.1)

pub differ_taken : {A : Type 0} (same : A → A → Bool) (n : ℕ) (xs : List A) → Differ same xs → Differ same (take n xs)
differ_taken same zero xs d = tt
differ_taken same (suc n) [] d = tt
differ_taken same (suc n) (x ∷ xs) d = (all_taken (λ y. same x y ≡ false) n xs d.0, differ_taken same n xs d.1)

pub all_firsts : {A : Type 0} (P : A → Type 0) (same : A → A → Bool) (before xs : List A) → AllByRecursion P xs → AllByRecursion P (firsts same before xs)
all_firsts P same before [] are = tt
all_firsts {A = A} P same before (x ∷ xs) are = by (list_any (λ z. same z x) before) (all_firsts P same (before ++ x ∷ []) xs are.1)
  where
    by : (b : Bool) → AllByRecursion P (firsts same (before ++ x ∷ []) xs) → AllByRecursion P (cond b (firsts same (before ++ x ∷ []) xs) (x ∷ firsts same (before ++ x ∷ []) xs))
    by true rest = rest
    by false rest = (are.0, rest)

-- ---- one more of what holds of all so far

pub all_more : {A : Type 0} (P : A → Type 0) (xs : List A) (i : ℕ) (x : A) → i < length xs → x ≡ get_or xs i x → AllByRecursion P (take i xs) → P x → AllByRecursion P (take (i + 1) xs)
all_more P xs i x within is are here =
    let front : take (i + 1) xs ≡ take i xs ++ x ∷ [] = take_more xs i x within ∙ ap (λ y. take i xs ++ y ∷ []) (sym is) in
    subst (AllByRecursion P) (sym front) (push (take i xs) are)
  where
    push : (ys : List _) → AllByRecursion P ys → AllByRecursion P (ys ++ x ∷ [])
    push [] are = (here, tt)
    push (y ∷ ys) are = (are.0, push ys are.1)

pub any_more : {A : Type 0} (p : A → Bool) (xs : List A) (i : ℕ) (x : A) → i < length xs → x ≡ get_or xs i x → list_any p (take (i + 1) xs) ≡ list_any p (take i xs) || p x
any_more p xs i x within is =
    let front : take (i + 1) xs ≡ take i xs ++ x ∷ [] = take_more xs i x within ∙ ap (λ y. take i xs ++ y ∷ []) (sym is) in
    ap (list_any p) front ∙ push (take i xs)
  where
    or_false : (a : Bool) → a || false ≡ a
    or_false true = refl
    or_false false = refl

    assoc : (a b c : Bool) → a || (b || c) ≡ (a || b) || c
    assoc true b c = refl
    assoc false b c = refl

    push : (ys : List _) → list_any p (ys ++ x ∷ []) ≡ list_any p ys || p x
    push [] = or_false (p x)
    push (y ∷ ys) = ap (λ b. p y || b) (push ys) ∙ assoc (p y) (list_any p ys) (p x)
