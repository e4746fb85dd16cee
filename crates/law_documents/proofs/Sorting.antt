-- A list with the same items in another order is the same list once it is in order, where no two items tie.
use Rattle.std.proofs.Common.{◌≡◌, ◌⊎◌, inl, inr, Bool, true, false, List, [], ◌∷◌, ◌++◌, refl, sym, ap, ◌∙◌, subst, true≢false}
use Rattle.std.specs.Prelude.{if◌then◌else◌}
use Rattle.std.specs.List.{AllByRecursion}
use Rattle.conf_types.specs.Lists.{EachBefore}
use Rattle.conf_resolve.specs.InOrder.{placed, in_order}
use Rattle.law_checks.proofs.Orders.{IsOrder}
use Rattle.law_documents.proofs.Reordered.{Reordered, none, one, all_of, each_so}

-- the one comes before the other, or the other way round
abbrev AreApart : {A : Type 0} → (A → A → Bool) → A → A → Type 0
AreApart before a b = (before a b ≡ true) ⊎ (before b a ≡ true)

apart_back : {A : Type 0} (before : A → A → Bool) (a b : A) → AreApart before a b → AreApart before b a
apart_back before a b (inl is) = inr is
apart_back before a b (inr is) = inl is

module _ {A : Type 0} (before : A → A → Bool) where
  placed_behind : (x z : A) (zs : List A) → before z x ≡ true → placed before x (z ∷ zs) ≡ z ∷ placed before x zs
  placed_behind x z zs is = ap (λ b. if b then z ∷ placed before x zs else x ∷ z ∷ zs) is

  placed_here : (x z : A) (zs : List A) → before z x ≡ false → placed before x (z ∷ zs) ≡ x ∷ z ∷ zs
  placed_here x z zs is = ap (λ b. if b then z ∷ placed before x zs else x ∷ z ∷ zs) is

  module _ (order : IsOrder before) where
    -- one that comes before another, in whichever order they are placed
    first_placed : (x y : A) (zs : List A) → before x y ≡ true → placed before x (placed before y zs) ≡ placed before y (placed before x zs)
    first_placed x y [] first = placed_here x y [] (order.apart x y first) ∙ sym (placed_behind y x [] first)
    first_placed x y (z ∷ zs) first = by (before z y) refl (before z x) refl (first_placed x y zs first)
      where
        not : before y x ≡ false
        not = order.apart x y first

        by : (b : Bool) → before z y ≡ b → (c : Bool) → before z x ≡ c → placed before x (placed before y zs) ≡ placed before y (placed before x zs) → placed before x (placed before y (z ∷ zs)) ≡ placed before y (placed before x (z ∷ zs))
        by true zy true zx more =
            ap (placed before x) (placed_behind y z zs zy) ∙ placed_behind x z (placed before y zs) zx ∙ ap (λ l. z ∷ l) more
            ∙ sym (ap (placed before y) (placed_behind x z zs zx) ∙ placed_behind y z (placed before x zs) zy)
        by true zy false zx more =
            ap (placed before x) (placed_behind y z zs zy) ∙ placed_here x z (placed before y zs) zx
            ∙ sym (ap (placed before y) (placed_here x z zs zx) ∙ placed_behind y x (z ∷ zs) first ∙ ap (λ l. x ∷ l) (placed_behind y z zs zy))
        by false zy true zx more = absurd (true≢false (sym zx ∙ order.through x y z not zy))
        by false zy false zx more =
            ap (placed before x) (placed_here y z zs zy) ∙ placed_here x y (z ∷ zs) not
            ∙ sym (ap (placed before y) (placed_here x z zs zx) ∙ placed_behind y x (z ∷ zs) first ∙ ap (λ l. x ∷ l) (placed_here y z zs zy))

    both_placed : (x y : A) (zs : List A) → AreApart before x y → placed before x (placed before y zs) ≡ placed before y (placed before x zs)
    both_placed x y zs (inl is) = first_placed x y zs is
    both_placed x y zs (inr is) = sym (first_placed y x zs is)

    order_with : (front : List A) (y : A) (back : List A) → AllByRecursion (AreApart before y) (front ++ back) → in_order before (front ++ y ∷ back) ≡ placed before y (in_order before (front ++ back))
    order_with [] y back all = refl
    order_with (x ∷ front) y back all = ap (placed before x) (order_with front y back all.1) ∙ both_placed x y (in_order before (front ++ back)) (apart_back before y x all.0)

    -- the same list in order
    ordered_same : (xs ys : List A) → Reordered (λ x y. x ≡ y) xs ys → EachBefore (AreApart before) xs → in_order before xs ≡ in_order before ys
    ordered_same _ _ none e = refl
    ordered_same _ _ (one x y xs front back is more) e =
        let all : AllByRecursion (AreApart before y) (front ++ back) = all_of (λ x y. x ≡ y) (AreApart before x) (AreApart before y) (λ z w same apart. subst (λ v. AreApart before v w) is (subst (AreApart before x) same apart)) xs (front ++ back) more e.0 in
        ap (placed before x) (ordered_same xs (front ++ back) more e.1) ∙ ap (λ v. placed before v (in_order before (front ++ back))) is ∙ sym (order_with front y back all)

  -- ---- what holds of a list in order holds of the list

  all_placed : (P : A → Type 0) (x : A) (ys : List A) → AllByRecursion P (placed before x ys) → P x × AllByRecursion P ys
  all_placed P x [] all = all
  all_placed P x (y ∷ ys) all = by (before y x) all (λ a. all_placed P x ys a)
    where
      by : (b : Bool) → AllByRecursion P (if b then y ∷ placed before x ys else x ∷ y ∷ ys) → (AllByRecursion P (placed before x ys) → P x × AllByRecursion P ys) → P x × AllByRecursion P (y ∷ ys)
      by true all more = let m = more all.1 in (m.0, (all.0, m.1))
      by false all more = all

  pub all_ordered : (P : A → Type 0) (xs : List A) → AllByRecursion P (in_order before xs) → AllByRecursion P xs
  all_ordered P [] all = tt
  all_ordered P (x ∷ xs) all = let m = all_placed P x (in_order before xs) all in (m.0, all_ordered P xs m.1)

  each_placed : (R : A → A → Type 0) → ((a b : A) → R a b → R b a) → (x : A) (ys : List A) → EachBefore R (placed before x ys) → AllByRecursion (R x) ys × EachBefore R ys
  each_placed R back x [] e = (tt, tt)
  each_placed R back x (y ∷ ys) e = by (before y x) e (λ f. each_placed R back x ys f)
    where
      by : (b : Bool) → EachBefore R (if b then y ∷ placed before x ys else x ∷ y ∷ ys) → (EachBefore R (placed before x ys) → AllByRecursion (R x) ys × EachBefore R ys) → AllByRecursion (R x) (y ∷ ys) × EachBefore R (y ∷ ys)
      by true e more = let m = more e.1 in let here = all_placed (R y) x ys e.0 in ((back y x here.0, m.0), (here.1, m.1))
      by false e more = e

  each_ordered : (R : A → A → Type 0) → ((a b : A) → R a b → R b a) → (xs : List A) → EachBefore R (in_order before xs) → EachBefore R xs
  each_ordered R back [] e = tt
  each_ordered R back (x ∷ xs) e = let m = each_placed R back x (in_order before xs) e in (all_ordered (R x) xs m.0, each_ordered R back xs m.1)

-- where no two of the list in order tie, the same items give the same list in order
pub rising_same : {A : Type 0} (before : A → A → Bool) → IsOrder before → (xs ys : List A) → Reordered (λ x y. x ≡ y) xs ys → EachBefore (λ a b. before a b ≡ true) (in_order before xs) → in_order before xs ≡ in_order before ys
rising_same before order xs ys same rises =
    ordered_same before order xs ys same (each_ordered before (AreApart before) (apart_back before) xs (each_so (λ a b. before a b ≡ true) (AreApart before) (λ a b is. inl is) (in_order before xs) rises))
