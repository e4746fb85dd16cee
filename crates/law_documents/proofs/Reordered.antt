-- Lists with the same items in another order, up to a relation on the items.
use Rattle.std.proofs.Common.{◌≡◌, Bool, true, false, ◌||◌, List, [], ◌∷◌, ◌++◌, Option, Some, None, refl, sym, ap, ◌∙◌, subst, append_assoc}
use Rattle.std.specs.Prelude.{map, cond}
use Rattle.std.specs.List.{AllByRecursion, list_any, find}
use Rattle.std.specs.Option.{option_map}
use Rattle.std.proofs.lemmas.List.{map-append}
use Rattle.conf_types.specs.Lists.{EachBefore}

-- the first item of the one stands at some place of the other, and so do those that are left
pub data Reordered {A B : Type 0} (R : A → B → Type 0) : List A → List B → Type 0 where
  none : Reordered R [] []
  one : (x : A) (y : B) (xs : List A) (before behind : List B) → R x y → Reordered R xs (before ++ behind) → Reordered R (x ∷ xs) (before ++ y ∷ behind)

-- ---- what holds of each

pub all_so : {A : Type 0} (P Q : A → Type 0) → ((x : A) → P x → Q x) → (xs : List A) → AllByRecursion P xs → AllByRecursion Q xs
all_so P Q each [] all = tt
all_so P Q each (x ∷ xs) all = (each x all.0, all_so P Q each xs all.1)

pub all_both : {A : Type 0} (P Q S : A → Type 0) → ((x : A) → P x → Q x → S x) → (xs : List A) → AllByRecursion P xs → AllByRecursion Q xs → AllByRecursion S xs
all_both P Q S each [] p q = tt
all_both P Q S each (x ∷ xs) p q = (each x p.0 q.0, all_both P Q S each xs p.1 q.1)

pub each_so : {A : Type 0} (R S : A → A → Type 0) → ((x y : A) → R x y → S x y) → (xs : List A) → EachBefore R xs → EachBefore S xs
each_so R S so [] e = tt
each_so R S so (x ∷ xs) e = (all_so (R x) (S x) (so x) xs e.0, each_so R S so xs e.1)

pub all_mapped_back : {A B : Type 0} (P : B → Type 0) (f : A → B) (xs : List A) → AllByRecursion P (map f xs) → AllByRecursion (λ x. P (f x)) xs
all_mapped_back P f [] all = tt
all_mapped_back P f (x ∷ xs) all = (all.0, all_mapped_back P f xs all.1)

pub each_mapped_back : {A B : Type 0} (R : B → B → Type 0) (f : A → B) (xs : List A) → EachBefore R (map f xs) → EachBefore (λ x y. R (f x) (f y)) xs
each_mapped_back R f [] e = tt
each_mapped_back R f (x ∷ xs) e = (all_mapped_back (R (f x)) f xs e.0, each_mapped_back R f xs e.1)

-- ---- a list with one item more at some place

pub all_with : {A : Type 0} (P : A → Type 0) (before : List A) (y : A) (behind : List A) → P y → AllByRecursion P (before ++ behind) → AllByRecursion P (before ++ y ∷ behind)
all_with P [] y behind here all = (here, all)
all_with P (x ∷ before) y behind here all = (all.0, all_with P before y behind here all.1)

each_with : {A : Type 0} (S : A → A → Type 0) (before : List A) (y : A) (behind : List A) → ((a b : A) → S a b → S b a) → AllByRecursion (S y) (before ++ behind) → EachBefore S (before ++ behind) → EachBefore S (before ++ y ∷ behind)
each_with S [] y behind back all r = (all, r)
each_with S (x ∷ before) y behind back all r = (all_with (S x) before y behind (back y x all.0) r.0, each_with S before y behind back all.1 r.1)

swapped : (a b c : Bool) → (a || (b || c)) ≡ (b || (a || c))
swapped true true c = refl
swapped true false c = refl
swapped false true c = refl
swapped false false c = refl

any_with : {A : Type 0} (f : A → Bool) (before : List A) (y : A) (behind : List A) → list_any f (before ++ y ∷ behind) ≡ (f y || list_any f (before ++ behind))
any_with f [] y behind = refl
any_with f (x ∷ before) y behind = ap (λ b. f x || b) (any_with f before y behind) ∙ swapped (f x) (f y) (list_any f (before ++ behind))

-- where it passes and no other does, it is found
found_with : {A : Type 0} (f : A → Bool) (before : List A) (y : A) (behind : List A) → f y ≡ true → AllByRecursion (λ z. f z ≡ false) (before ++ behind) → find f (before ++ y ∷ behind) ≡ Some y
found_with f [] y behind here all = ap (λ b. cond b (Some y) (find f behind)) here
found_with f (x ∷ before) y behind here all = ap (λ b. cond b (Some x) (find f (before ++ y ∷ behind))) all.0 ∙ found_with f before y behind here all.1

-- where it doesn't pass, what is found is the same
passed_with : {A : Type 0} (f : A → Bool) (before : List A) (y : A) (behind : List A) → f y ≡ false → find f (before ++ y ∷ behind) ≡ find f (before ++ behind)
passed_with f [] y behind not = ap (λ b. cond b (Some y) (find f behind)) not
passed_with f (x ∷ before) y behind not = ap (λ o. cond (f x) (Some x) o) (passed_with f before y behind not)

-- ---- what is so of the one list is so of the other

module _ {A B : Type 0} (R : A → B → Type 0) where
  pub all_of : (P : A → Type 0) (Q : B → Type 0) → ((x : A) (y : B) → R x y → P x → Q y) → (xs : List A) (ys : List B) → Reordered R xs ys → AllByRecursion P xs → AllByRecursion Q ys
  all_of P Q each _ _ none all = tt
  all_of P Q each _ _ (one x y xs before behind r more) all = all_with Q before y behind (each x y r all.0) (all_of P Q each xs (before ++ behind) more all.1)

  pub each_of : (S : A → A → Type 0) (T : B → B → Type 0) → ((a b : B) → T a b → T b a) → ((x z : A) (y w : B) → R x y → R z w → S x z → T y w) → (xs : List A) (ys : List B) → Reordered R xs ys → EachBefore S xs → EachBefore T ys
  each_of S T back each _ _ none e = tt
  each_of S T back each _ _ (one x y xs before behind r more) e =
      each_with T before y behind back (all_of (S x) (T y) (λ z w s. each x z y w r s) xs (before ++ behind) more e.0) (each_of S T back each xs (before ++ behind) more e.1)

  pub any_of : (f : A → Bool) (g : B → Bool) → ((x : A) (y : B) → R x y → f x ≡ g y) → (xs : List A) (ys : List B) → Reordered R xs ys → list_any f xs ≡ list_any g ys
  any_of f g each _ _ none = refl
  any_of f g each _ _ (one x y xs before behind r more) =
      ap (λ b. b || list_any f xs) (each x y r) ∙ ap (λ b. g y || b) (any_of f g each xs (before ++ behind) more) ∙ sym (any_with g before y behind)

  -- what holds of the items of the one may be used
  pub holding : (P : A → Type 0) (xs : List A) (ys : List B) → Reordered R xs ys → AllByRecursion P xs → Reordered (λ x y. P x × R x y) xs ys
  holding P _ _ none all = none
  holding P _ _ (one x y xs before behind r more) all = one x y xs before behind (all.0, r) (holding P xs (before ++ behind) more all.1)

pub mapped : {A B C D : Type 0} (R : A → B → Type 0) (S : C → D → Type 0) (f : A → C) (g : B → D) → ((x : A) (y : B) → R x y → S (f x) (g y)) → (xs : List A) (ys : List B) → Reordered R xs ys → Reordered S (map f xs) (map g ys)
mapped R S f g each _ _ none = none
mapped R S f g each _ _ (one x y xs before behind r more) =
    subst (Reordered S (f x ∷ map f xs)) (sym (map-append g before (y ∷ behind)))
    (one (f x) (g y) (map f xs) (map g before) (map g behind) (each x y r) (subst (Reordered S (map f xs)) (map-append g before behind) (mapped R S f g each xs (before ++ behind) more)))

pub itself : {A : Type 0} (R : A → A → Type 0) → ((x : A) → R x x) → (xs : List A) → Reordered R xs xs
itself R each [] = none
itself R each (x ∷ xs) = one x x xs [] xs (each x) (itself R each xs)

pub joined : {A : Type 0} (xs ys zs : List A) → Reordered (λ x y. x ≡ y) xs ys → Reordered (λ x y. x ≡ y) (xs ++ zs) (ys ++ zs)
joined _ _ zs none = itself (λ x y. x ≡ y) (λ x. refl) zs
joined _ _ zs (one x y xs before behind r more) =
    subst (Reordered (λ x y. x ≡ y) (x ∷ (xs ++ zs))) (sym (append_assoc before (y ∷ behind) zs))
    (one x y (xs ++ zs) before (behind ++ zs) r (subst (Reordered (λ x y. x ≡ y) (xs ++ zs)) (append_assoc before behind zs) (joined xs (before ++ behind) zs more)))

-- ---- what is found

-- both are nothing, or both are something, and these stand so
pub data Both {A B : Type 0} (R : A → B → Type 0) : Option A → Option B → Type 0 where
  neither : Both R None None
  two : (x : A) (y : B) → R x y → Both R (Some x) (Some y)

pub both_mapped : {A B C D : Type 0} (R : A → B → Type 0) (S : C → D → Type 0) (f : A → C) (g : B → D) → ((x : A) (y : B) → R x y → S (f x) (g y)) → (o : Option A) (p : Option B) → Both R o p → Both S (option_map f o) (option_map g p)
both_mapped R S f g so _ _ neither = neither
both_mapped R S f g so _ _ (two x y r) = two (f x) (g y) (so x y r)

pub both_read : {A B C : Type 0} (R : A → B → Type 0) (f : Option A → C) (g : Option B → C) → f None ≡ g None → ((x : A) (y : B) → R x y → f (Some x) ≡ g (Some y)) → (o : Option A) (p : Option B) → Both R o p → f o ≡ g p
both_read R f g nothing so _ _ neither = nothing
both_read R f g nothing so _ _ (two x y r) = so x y r

-- of a list in which no two items pass
pub found_of : {A B : Type 0} (R : A → B → Type 0) (f : A → Bool) (g : B → Bool) → ((x : A) (y : B) → R x y → f x ≡ g y) → (xs : List A) (ys : List B) → Reordered R xs ys → EachBefore (λ x y. f x ≡ true → f y ≡ false) xs
    → Both (λ x y. R x y × (f x ≡ true)) (find f xs) (find g ys)
found_of R f g same _ _ none e = neither
found_of {A = A} {B = B} R f g same _ _ (one x y xs before behind r more) e = by (f x) refl (found_of R f g same xs (before ++ behind) more e.1)
  where
    by : (b : Bool) → f x ≡ b → Both (λ x y. R x y × (f x ≡ true)) (find f xs) (find g (before ++ behind)) → Both (λ x y. R x y × (f x ≡ true)) (cond b (Some x) (find f xs)) (find g (before ++ y ∷ behind))
    by true is later =
        let others : AllByRecursion (λ w. g w ≡ false) (before ++ behind) = all_of R (λ z. f x ≡ true → f z ≡ false) (λ w. g w ≡ false) (λ z w s apart. sym (same z w s) ∙ apart is) xs (before ++ behind) more e.0 in
        subst (Both (λ x y. R x y × (f x ≡ true)) (Some x)) (sym (found_with g before y behind (sym (same x y r) ∙ is) others)) (two x y (r, is))
    by false is later = subst (Both (λ x y. R x y × (f x ≡ true)) (find f xs)) (sym (passed_with g before y behind (sym (same x y r) ∙ is))) later
