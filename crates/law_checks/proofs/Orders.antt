-- Lists in order: what is in them, and that they are sorted.
use Rattle.std.specs.Prelude.{◌≡◌, ℕ, ◌<◌, ◌==◌, Bool, true, false, List, [], ◌∷◌, nat_lt, if◌then◌else◌}
use Rattle.std.specs.List.{AllByRecursion}
use Rattle.std.specs.Ordering.{nat_cmp, is_lt, is_gt, is_eq, ordering_reverse}
use Rattle.std.specs.declared.cmp.Ordering.{Ordering}
use Rattle.std.specs.declared.cmp.Ordering.TheVariants.{Less, Equal, Greater}
use Rattle.std.specs.Cmp.Lexicographic.{slice_cmp}
use Rattle.std.proofs.Common.{◌⊎◌, inl, inr, refl, sym, ap, ◌∙◌, subst, true≢false, arith}
use Rattle.std.proofs.lemmas.Bool.{le-ltb, ltb-false, ltb-true, eqb-false, ne_eqb}
use Rattle.std.proofs.lemmas.Cmp.{upto, nat_list_cmp_total, tied_itself}
use Rattle.std.specs.FinMap.{slice_cmp-IsAntisymmetric, nat_cmp-IsAntisymmetric}
use Rattle.conf_types.specs.Lists.{EachBefore, IsTextBefore, is_same}
use Rattle.conf_resolve.specs.InOrder.{placed, in_order, is_text_before}
use Rattle.law_checks.proofs.Members.{IsIn, all_by, of_all}

-- ---- members

of_placed : {A : Type 0} (before : A → A → Bool) (x : A) (ys : List A) (z : A) → IsIn (placed before x ys) z → (x ≡ z) ⊎ IsIn ys z
of_placed before x [] z i = i
of_placed {A = A} before x (y ∷ ys) z i = by (λ j. of_placed before x ys z j) (before y x) i
  where
    later : (x ≡ z) ⊎ IsIn ys z → (x ≡ z) ⊎ IsIn (y ∷ ys) z
    later (inl e) = inl e
    later (inr j) = inr (inr j)

    by : (IsIn (placed before x ys) z → (x ≡ z) ⊎ IsIn ys z) → (b : Bool) → IsIn (if b then y ∷ placed before x ys else x ∷ y ∷ ys) z → (x ≡ z) ⊎ IsIn (y ∷ ys) z
    by more true (inl e) = inr (inl e)
    by more true (inr j) = later (more j)
    by more false j = j

in_placed : {A : Type 0} (before : A → A → Bool) (x : A) (ys : List A) (z : A) → (x ≡ z) ⊎ IsIn ys z → IsIn (placed before x ys) z
in_placed before x [] z i = i
in_placed {A = A} before x (y ∷ ys) z i = by (λ j. in_placed before x ys z j) (before y x) i
  where
    by : ((x ≡ z) ⊎ IsIn ys z → IsIn (placed before x ys) z) → (b : Bool) → (x ≡ z) ⊎ IsIn (y ∷ ys) z → IsIn (if b then y ∷ placed before x ys else x ∷ y ∷ ys) z
    by more true (inl e) = inr (more (inl e))
    by more true (inr (inl e)) = inl e
    by more true (inr (inr j)) = inr (more (inr j))
    by more false j = j

pub of_order : {A : Type 0} (before : A → A → Bool) (xs : List A) (z : A) → IsIn (in_order before xs) z → IsIn xs z
of_order before [] z i = i
of_order {A = A} before (x ∷ xs) z i = by (λ j. of_order before xs z j) (of_placed before x (in_order before xs) z i)
  where
    by : (IsIn (in_order before xs) z → IsIn xs z) → (x ≡ z) ⊎ IsIn (in_order before xs) z → IsIn (x ∷ xs) z
    by more (inl e) = inl e
    by more (inr j) = inr (more j)

pub into_order : {A : Type 0} (before : A → A → Bool) (xs : List A) (z : A) → IsIn xs z → IsIn (in_order before xs) z
into_order before [] z i = i
into_order before (x ∷ xs) z (inl e) = in_placed before x (in_order before xs) z (inl e)
into_order before (x ∷ xs) z (inr i) = in_placed before x (in_order before xs) z (inr (into_order before xs z i))

pub all_ordered : {A : Type 0} (P : A → Type 0) (before : A → A → Bool) (xs : List A) → AllByRecursion P xs → AllByRecursion P (in_order before xs)
all_ordered P before xs all = all_by P (in_order before xs) (λ z i. of_all P xs all z (of_order before xs z i))

-- ---- what holds of each two, whichever stands first

each_placed : {A : Type 0} (R : A → A → Type 0) (before : A → A → Bool) (x : A) (ys : List A) → ((a b : A) → R a b → R b a) → AllByRecursion (R x) ys → EachBefore R ys → EachBefore R (placed before x ys)
each_placed R before x [] back all r = (tt, tt)
each_placed {A = A} R before x (y ∷ ys) back all r = by (before y x) (each_placed R before x ys back all.1 r.1)
  where
    here : (z : A) → (x ≡ z) ⊎ IsIn ys z → R y z
    here z (inl e) = subst (λ w. R y w) e (back x y all.0)
    here z (inr j) = of_all (R y) ys r.0 z j

    by : (b : Bool) → EachBefore R (placed before x ys) → EachBefore R (if b then y ∷ placed before x ys else x ∷ y ∷ ys)
    by true more = (all_by (R y) (placed before x ys) (λ z i. here z (of_placed before x ys z i)), more)
    by false more = (all, r)

pub each_ordered : {A : Type 0} (R : A → A → Type 0) (before : A → A → Bool) (xs : List A) → ((a b : A) → R a b → R b a) → EachBefore R xs → EachBefore R (in_order before xs)
each_ordered R before [] back r = tt
each_ordered R before (x ∷ xs) back r = each_placed R before x (in_order before xs) back (all_ordered (R x) before xs r.0) (each_ordered R before xs back r.1)

-- ---- sorted

-- no two come before each other, and what two don't come before, the third doesn't
pub record IsOrder {A : Type 0} (before : A → A → Bool) : Type 0 where
  pub apart : (a b : A) → before a b ≡ true → before b a ≡ false
  pub through : (a b c : A) → before b a ≡ false → before c b ≡ false → before c a ≡ false

placed_sorted : {A : Type 0} (before : A → A → Bool) → IsOrder before → (x : A) (ys : List A) → EachBefore (λ a b. before b a ≡ false) ys → EachBefore (λ a b. before b a ≡ false) (placed before x ys)
placed_sorted before order x [] r = (tt, tt)
placed_sorted {A = A} before order x (y ∷ ys) r = by (before y x) refl (placed_sorted before order x ys r.1)
  where
    here : before y x ≡ true → (z : A) → (x ≡ z) ⊎ IsIn ys z → before z y ≡ false
    here first z (inl e) = subst (λ w. before w y ≡ false) e (order.apart y x first)
    here first z (inr j) = of_all (λ w. before w y ≡ false) ys r.0 z j

    behind : before y x ≡ false → (z : A) → IsIn (y ∷ ys) z → before z x ≡ false
    behind not z (inl e) = subst (λ w. before w x ≡ false) e not
    behind not z (inr j) = order.through x y z not (of_all (λ w. before w y ≡ false) ys r.0 z j)

    by : (b : Bool) → before y x ≡ b → EachBefore (λ a c. before c a ≡ false) (placed before x ys) → EachBefore (λ a c. before c a ≡ false) (if b then y ∷ placed before x ys else x ∷ y ∷ ys)
    by true is more = (all_by (λ z. before z y ≡ false) (placed before x ys) (λ z i. here is z (of_placed before x ys z i)), more)
    by false is more = (all_by (λ z. before z x ≡ false) (y ∷ ys) (behind is), r)

pub sorted : {A : Type 0} (before : A → A → Bool) → IsOrder before → (xs : List A) → EachBefore (λ a b. before b a ≡ false) (in_order before xs)
sorted before order [] = tt
sorted before order (x ∷ xs) = placed_sorted before order x (in_order before xs) (sorted before order xs)

-- ---- by numbers

pub number_order : {A : Type 0} (key : A → ℕ) → IsOrder (λ a b. nat_lt (key a) (key b))
number_order key = record {
  apart = λ a b is. le-ltb (key b) (key a) (omega (arith, ltb-true (key a) (key b) is));
  through = λ a b c ba cb. le-ltb (key c) (key a) (omega (arith, ltb-false (key b) (key a) ba, ltb-false (key c) (key b) cb));
}

pub rises : (a b : ℕ) → nat_lt b a ≡ false → (a == b) ≡ false → a < b
rises a b not other = omega (arith, ltb-false b a not, eqb-false a b other)

pub rises_apart : (a b : ℕ) → nat_lt b a ≡ false → (a ≡ b → ⊥) → a < b
rises_apart a b not other = rises a b not (ne_eqb a b other)

-- ---- by texts

lt_reversed : (o : Ordering) → is_lt (ordering_reverse o) ≡ is_gt o
lt_reversed Less = refl
lt_reversed Equal = refl
lt_reversed Greater = refl

gt_other : (a b : List ℕ) → is_lt (slice_cmp nat_cmp b a) ≡ is_gt (slice_cmp nat_cmp a b)
gt_other a b = ap is_lt (nat_list_cmp_total.antisymm b a) ∙ lt_reversed (slice_cmp nat_cmp a b)

not_both : (o : Ordering) → is_lt o ≡ true → is_gt o ≡ false
not_both Less is = refl
not_both Equal is = refl
not_both Greater is = absurd (true≢false (sym is))

pub text_order : {A : Type 0} (key : A → List ℕ) → IsOrder (λ a b. is_text_before (key a) (key b))
text_order key = record {
  apart = λ a b is. gt_other (key a) (key b) ∙ not_both (slice_cmp nat_cmp (key a) (key b)) is;
  through = λ a b c ba cb. gt_other (key a) (key c) ∙ upto nat_list_cmp_total (key a) (key b) (key c) (sym (gt_other (key a) (key b)) ∙ ba) (sym (gt_other (key b) (key c)) ∙ cb);
}

is_less : (o : Ordering) → is_gt o ≡ false → is_eq o ≡ false → o ≡ Less
is_less Less not other = refl
is_less Equal not other = absurd (true≢false other)
is_less Greater not other = absurd (true≢false not)

pub text_rises : (a b : List ℕ) → is_text_before b a ≡ false → is_same a b ≡ false → IsTextBefore a b
text_rises a b not other = is_less (slice_cmp nat_cmp a b) (sym (gt_other a b) ∙ not) other

-- ---- texts that are the same

equal_of : (o : Ordering) → is_eq o ≡ true → o ≡ Equal
equal_of Less is = absurd (true≢false (sym is))
equal_of Equal is = refl
equal_of Greater is = absurd (true≢false (sym is))

pub same_texts : (a b : List ℕ) → is_same a b ≡ true → a ≡ b
same_texts a b is = slice_cmp-IsAntisymmetric nat_cmp-IsAntisymmetric a b (equal_of (slice_cmp nat_cmp a b) is)

pub same_itself : (a b : List ℕ) → a ≡ b → is_same a b ≡ true
same_itself a b is = subst (λ c. is_same a c ≡ true) is (ap is_eq (tied_itself nat_list_cmp_total a))

pub not_same : (a b : List ℕ) → is_same a b ≡ false → a ≡ b → ⊥
not_same a b not is = true≢false (sym (same_itself a b is) ∙ not)

pub other_texts : (a b : List ℕ) → (a ≡ b → ⊥) → is_same a b ≡ false
other_texts a b other = by (is_same a b) refl
  where
    by : (t : Bool) → is_same a b ≡ t → t ≡ false
    by false is = refl
    by true is = absurd (other (same_texts a b is))
