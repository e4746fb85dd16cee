-- Two lists of records with keys that give the same under every key give the same, up to order.
use Rattle.std.proofs.Common.{◌≡◌, zero, suc, arith, List, [], ◌∷◌, ◌++◌, Option, Some, None, IsPermutation, inl, inr, refl, sym, ap, ◌∙◌, subst}
use Rattle.std.specs.Prelude.{◌⊎◌, Contains}
use Rattle.std.specs.List.{AllByRecursion, filter_map, cons_option}
use Rattle.std.proofs.lemmas.List.Elements.{filter_map-append, Contains-append_cases}
use Rattle.std.proofs.lemmas.List.Sorted.{IsPermutation-refl, IsPermutation-sym, IsPermutation-trans, IsPermutation-cons, IsPermutation-middle}
use Rattle.std.proofs.lemmas.Option.{none-some}
use Rattle.conf_types.specs.Lists.{EachBefore}
use Rattle.law_runs.specs.Members.{head_of, tail_of, of_all, in_front, behind}

-- ---- one element out of a list

record Cut {X : Type 0} (ys : List X) (y : X) : Type 0 where
  front : List X
  back : List X
  is : ys ≡ front ++ y ∷ back

cut : {X : Type 0} (ys : List X) (y : X) → Contains ys y → Cut ys y
cut [] y (k, lt, is) = absurd (omega (arith, lt))
cut (z ∷ zs) y (zero, lt, is) = record { front = []; back = zs; is = ap (λ w. w ∷ zs) is }
cut (z ∷ zs) y (suc k, lt, is) = let c = cut zs y (k, omega (arith, lt), is) in record { front = z ∷ c.front; back = c.back; is = ap (λ l. z ∷ l) c.is }

without : {X : Type 0} (P : X → Type 0) (us : List X) (y : X) (vs : List X) → AllByRecursion P (us ++ y ∷ vs) → P y × AllByRecursion P (us ++ vs)
without P [] y vs all = (all.0, all.1)
without P (u ∷ us) y vs all = let more = without P us y vs all.1 in (more.0, (all.0, more.1))

still : {X : Type 0} (us : List X) (y : X) (vs : List X) (z : X) → Contains (us ++ vs) z → Contains (us ++ y ∷ vs) z
still us y vs z c = elim (Contains-append_cases us vs z c) [
  | inl before ↦ in_front us (y ∷ vs) z before
  | inr after ↦ behind us (y ∷ vs) z (tail_of y vs z after)
]

behind_head : {X : Type 0} (x : X) (xs : List X) (z : X) → Contains (x ∷ xs) z → (x ≡ z) ⊎ Contains xs z
behind_head x xs z (zero, lt, is) = inl is
behind_head x xs z (suc k, lt, is) = inr (k, omega (arith, lt), is)

elsewhere : {X : Type 0} (us : List X) (y : X) (vs : List X) (z : X) → Contains (us ++ y ∷ vs) z → (y ≡ z) ⊎ Contains (us ++ vs) z
elsewhere us y vs z c = elim (Contains-append_cases us (y ∷ vs) z c) [
  | inl before ↦ inr (in_front us vs z before)
  | inr after ↦ elim (behind_head y vs z after) [ inl here ↦ inl here | inr more ↦ inr (behind us vs z more) ]
]

module _ {X Y : Type 0} (f : X → Option Y) (Same : X → X → Type 0) (turn : (x y : X) → Same x y → Same y x) (join : (x y z : X) → Same x y → Same y z → Same x z) where
  abbrev Unlike : X → X → Type 0
  Unlike x y = Same x y → ⊥

  -- what the first list gives, the second gives under the same key
  abbrev pub Gives : List X → List X → Type 0
  Gives xs ys = (x : X) (v : Y) → Contains xs x → f x ≡ Some v → (y : X) × Contains ys y × Same x y × (f y ≡ Some v)

  nothing : (ys : List X) → Gives ys [] → filter_map f ys ≡ []
  nothing [] gives = refl
  nothing (y ∷ ys) gives = by (f y) refl (nothing ys (λ x v c is. gives x v (tail_of y ys x c) is))
    where
      none : (x : X) → Contains [] x → ⊥
      none x (k, lt, is) = omega (arith, lt)

      by : (o : Option Y) → f y ≡ o → filter_map f ys ≡ [] → cons_option o (filter_map f ys) ≡ []
      by None is more = more
      by (Some v) is more = let g = gives y v (head_of y ys) is in absurd (none g.0 g.1)

  pulled : (us : List X) (y : X) (vs : List X) → EachBefore Unlike (us ++ y ∷ vs) → AllByRecursion (Unlike y) (us ++ vs) × EachBefore Unlike (us ++ vs)
  pulled [] y vs apart = (apart.0, apart.1)
  pulled (u ∷ us) y vs apart =
      let more = pulled us y vs apart.1 in
      let first = without (Unlike u) us y vs apart.0 in
      (((λ same. first.0 (turn y u same)), more.0), (first.1, more.1))

  -- from which the first is taken, with its like
  module _ (x : X) (xs : List X) (v : Y) (is : f x ≡ Some v) (us : List X) (y : X) (vs : List X) (like : Same x y) (gives : f y ≡ Some v)
      (xs_apart : EachBefore Unlike (x ∷ xs)) (ys_apart : EachBefore Unlike (us ++ y ∷ vs)) (there : Gives (x ∷ xs) (us ++ y ∷ vs)) (back : Gives (us ++ y ∷ vs) (x ∷ xs)) where
    there_too : Gives xs (us ++ vs)
    there_too z w c e =
        let g = there z w (tail_of x xs z c) e in
        elim (elsewhere us y vs g.0 g.1) [
          | inl here ↦ absurd (of_all (Unlike x) xs xs_apart.0 z c (join x y z like (turn z y (subst (λ q. Same z q) (sym here) g.2))))
          | inr more ↦ (g.0, more, g.2, g.3)
        ]

    back_too : Gives (us ++ vs) xs
    back_too u w c e =
        let g = back u w (still us y vs u c) e in
        elim (behind_head x xs g.0 g.1) [
          | inl here ↦ absurd (of_all (Unlike y) (us ++ vs) (pulled us y vs ys_apart).0 u c (join y x u (turn x y like) (turn u x (subst (λ q. Same u q) (sym here) g.2))))
          | inr more ↦ (g.0, more, g.2, g.3)
        ]

    taken : IsPermutation (filter_map f xs) (filter_map f (us ++ vs)) → IsPermutation (v ∷ filter_map f xs) (filter_map f (us ++ y ∷ vs))
    taken rest =
        let a = filter_map f us in
        let b = filter_map f vs in
        let parted = subst (λ l. IsPermutation (filter_map f xs) l) (filter_map-append f us vs) rest in
        let whole : filter_map f (us ++ y ∷ vs) ≡ a ++ v ∷ b = filter_map-append f us (y ∷ vs) ∙ ap (λ o. a ++ cons_option o b) gives in
        subst (λ l. IsPermutation (v ∷ filter_map f xs) l) (sym whole)
        (IsPermutation-trans (v ∷ filter_map f xs) (v ∷ (a ++ b)) (a ++ v ∷ b) (IsPermutation-cons v (filter_map f xs) (a ++ b) parted) (IsPermutation-sym (a ++ v ∷ b) (v ∷ (a ++ b)) (IsPermutation-middle a v b)))

  pub shuffled : (xs ys : List X) → EachBefore Unlike xs → EachBefore Unlike ys → Gives xs ys → Gives ys xs → IsPermutation (filter_map f xs) (filter_map f ys)
  shuffled [] ys xs_apart ys_apart there back = subst (λ l. IsPermutation [] l) (sym (nothing ys back)) (IsPermutation-refl [])
  shuffled (x ∷ xs) ys xs_apart ys_apart there back = by (f x) refl (λ zs apart gives given. shuffled xs zs xs_apart.1 apart gives given)
    where
      by : (o : Option Y) → f x ≡ o → ((zs : List X) → EachBefore Unlike zs → Gives xs zs → Gives zs xs → IsPermutation (filter_map f xs) (filter_map f zs)) → IsPermutation (cons_option o (filter_map f xs)) (filter_map f ys)
      by None is rest = rest ys ys_apart (λ z v c e. there z v (tail_of x xs z c) e) (λ y v c e. let g = back y v c e in elim (behind_head x xs g.0 g.1) [
        | inl here ↦ absurd (none-some v (sym is ∙ ap f here ∙ g.3))
        | inr more ↦ (g.0, more, g.2, g.3)
      ])
      by (Some v) is rest =
          let g = there x v (head_of x xs) is in
          let c = cut ys g.0 g.1 in
          let apart = subst (EachBefore Unlike) c.is ys_apart in
          let to = subst (λ l. Gives (x ∷ xs) l) c.is there in
          let from = subst (λ l. Gives l (x ∷ xs)) c.is back in
          subst (λ l. IsPermutation (v ∷ filter_map f xs) (filter_map f l)) (sym c.is)
          (taken x xs v is c.front g.0 c.back g.2 g.3 xs_apart apart to from
          (rest (c.front ++ c.back) (pulled c.front g.0 c.back apart).1 (there_too x xs v is c.front g.0 c.back g.2 g.3 xs_apart apart to from) (back_too x xs v is c.front g.0 c.back g.2 g.3 xs_apart apart to from)))
