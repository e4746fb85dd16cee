-- Which members an object has, in whichever order they were put into it.
use Rattle.std.proofs.Common.{◌≡◌, ◌≢◌, ◌⊎◌, inl, inr, ℕ, List, [], ◌∷◌, Ordering, Less, Equal, Greater, fold, map, refl, sym, ap, ◌∙◌, subst}
use Rattle.std.specs.List.{AllByRecursion}
use Rattle.std.specs.Ordering.{nat_cmp, match_ordering}
use Rattle.std.specs.Cmp.Lexicographic.{slice_cmp}
use Rattle.std.proofs.lemmas.Map.Lookups.{exact_bytes}
use Rattle.conf_types.specs.Lists.{EachBefore}
use Rattle.conf_json.specs.Json.{Member, with_member, object}
use Rattle.law_json.proofs.Values.{IsValue, braces_value, same_braces}

-- ---- what is in a list

abbrev pub IsIn : {A : Type 0} → A → List A → Type 0
IsIn x [] = ⊥
IsIn x (y ∷ ys) = (x ≡ y) ⊎ IsIn x ys

pub all_in : {A : Type 0} (P : A → Type 0) (xs : List A) → ((x : A) → IsIn x xs → P x) → AllByRecursion P xs
all_in P [] each = tt
all_in P (x ∷ xs) each = (each x (inl refl), all_in P xs (λ y at. each y (inr at)))

pub in_all : {A : Type 0} (P : A → Type 0) (xs : List A) → AllByRecursion P xs → (x : A) → IsIn x xs → P x
in_all P [] all x at = absurd at
in_all P (y ∷ ys) all x (inl e) = subst P (sym e) all.0
in_all P (y ∷ ys) all x (inr at) = in_all P ys all.1 x at

pub in_map : {A B : Type 0} (f : A → B) (xs : List A) (x : A) → IsIn x xs → IsIn (f x) (map f xs)
in_map f [] x at = at
in_map f (y ∷ ys) x (inl e) = inl (ap f e)
in_map f (y ∷ ys) x (inr at) = inr (in_map f ys x at)

pub of_map : {A B : Type 0} (f : A → B) (xs : List A) (z : B) → IsIn z (map f xs) → (x : A) × IsIn x xs × (z ≡ f x)
of_map f [] z at = absurd at
of_map f (y ∷ ys) z (inl e) = (y, inl refl, e)
of_map f (y ∷ ys) z (inr at) = let found = of_map f ys z at in (found.0, inr found.1, found.2)

-- ---- one member more

with_name : (n : List ℕ) (m : Member) → slice_cmp nat_cmp m.0 n ≡ Equal → ◌≡◌ {A = Member} (n, m.1) m
with_name n m e = ap (λ (name : List ℕ). (name, m.1)) (sym (exact_bytes m.0 n e))

-- by how a name stands to the first one
of_put : (n : Member) (ns : List Member) (m x : Member) (o : Ordering) → slice_cmp nat_cmp m.0 n.0 ≡ o
    → (IsIn x (with_member ns m) → (x ≡ m) ⊎ IsIn x ns)
    → IsIn x (match_ordering o (m ∷ n ∷ ns) ((n.0, m.1) ∷ ns) (n ∷ with_member ns m)) → (x ≡ m) ⊎ IsIn x (n ∷ ns)
of_put n ns m x Less e rest (inl here) = inl here
of_put n ns m x Less e rest (inr at) = inr at
of_put n ns m x Equal e rest (inl here) = inl (here ∙ with_name n.0 m e)
of_put n ns m x Equal e rest (inr at) = inr (inr at)
of_put n ns m x Greater e rest (inl here) = inr (inl here)
of_put n ns m x Greater e rest (inr at) = elim (rest at) [ inl here ↦ inl here | inr at ↦ inr (inr at) ]

of_with : (ns : List Member) (m x : Member) → IsIn x (with_member ns m) → (x ≡ m) ⊎ IsIn x ns
unfolding with_member
of_with [] m x (inl here) = inl here
of_with [] m x (inr at) = absurd at
of_with (n ∷ ns) m x at = of_put n ns m x (slice_cmp nat_cmp m.0 n.0) refl (of_with ns m x) at

new_put : (n : Member) (ns : List Member) (m : Member) (o : Ordering) → slice_cmp nat_cmp m.0 n.0 ≡ o → IsIn m (with_member ns m)
    → IsIn m (match_ordering o (m ∷ n ∷ ns) ((n.0, m.1) ∷ ns) (n ∷ with_member ns m))
new_put n ns m Less e rest = inl refl
new_put n ns m Equal e rest = inl (sym (with_name n.0 m e))
new_put n ns m Greater e rest = inr rest

new_in : (ns : List Member) (m : Member) → IsIn m (with_member ns m)
unfolding with_member
new_in [] m = inl refl
new_in (n ∷ ns) m = new_put n ns m (slice_cmp nat_cmp m.0 n.0) refl (new_in ns m)

old_put : (n : Member) (ns : List Member) (m x : Member) (o : Ordering) → slice_cmp nat_cmp m.0 n.0 ≡ o → x.0 ≢ m.0
    → (IsIn x ns → IsIn x (with_member ns m)) → IsIn x (n ∷ ns) → IsIn x (match_ordering o (m ∷ n ∷ ns) ((n.0, m.1) ∷ ns) (n ∷ with_member ns m))
old_put n ns m x Less e apart rest at = inr at
old_put n ns m x Equal e apart rest (inl here) = absurd (apart (ap (λ (w : Member). w.0) here ∙ sym (exact_bytes m.0 n.0 e)))
old_put n ns m x Equal e apart rest (inr at) = inr at
old_put n ns m x Greater e apart rest (inl here) = inl here
old_put n ns m x Greater e apart rest (inr at) = inr (rest at)

old_in : (ns : List Member) (m x : Member) → x.0 ≢ m.0 → IsIn x ns → IsIn x (with_member ns m)
unfolding with_member
old_in [] m x apart at = absurd at
old_in (n ∷ ns) m x apart at = old_put n ns m x (slice_cmp nat_cmp m.0 n.0) refl apart (old_in ns m x apart) at

-- ---- all members

pub of_fold : (ms so_far : List Member) (x : Member) → IsIn x (fold with_member so_far ms) → IsIn x so_far ⊎ IsIn x ms
of_fold [] so_far x at = inl at
of_fold (m ∷ ms) so_far x at = elim (of_fold ms (with_member so_far m) x at) [
  | inl at ↦ elim (of_with so_far m x at) [ inl here ↦ inr (inl here) | inr at ↦ inl at ]
  | inr at ↦ inr (inr at)
]

stays : (ms so_far : List Member) (x : Member) → AllByRecursion (λ m. x.0 ≢ m.0) ms → IsIn x so_far → IsIn x (fold with_member so_far ms)
stays [] so_far x apart at = at
stays (m ∷ ms) so_far x apart at = stays ms (with_member so_far m) x apart.1 (old_in so_far m x apart.0 at)

-- no two members have one name
abbrev pub HaveOwnNames : List Member → Type 0
HaveOwnNames ms = EachBefore (λ m n. m.0 ≢ n.0) ms

pub in_fold : (ms so_far : List Member) (x : Member) → HaveOwnNames ms → IsIn x ms → IsIn x (fold with_member so_far ms)
in_fold [] so_far x own at = absurd at
in_fold (m ∷ ms) so_far x own (inl here) =
    stays ms (with_member so_far m) x (subst (λ (w : Member). AllByRecursion (λ n. w.0 ≢ n.0) ms) (sym here) own.0) (subst (λ (w : Member). IsIn w (with_member so_far m)) (sym here) (new_in so_far m))
in_fold (m ∷ ms) so_far x own (inr at) = in_fold ms (with_member so_far m) x own.1 at

abbrev HaveValues : List Member → Type 0
HaveValues ms = AllByRecursion (λ m. IsValue m.1) ms

sorted_values : (ms : List Member) → HaveValues ms → HaveValues (fold with_member [] ms)
sorted_values ms all = all_in (λ (m : Member). IsValue m.1) (fold with_member [] ms) (λ x at. elim (of_fold ms [] x at) [ inl none ↦ absurd none | inr at ↦ in_all (λ (m : Member). IsValue m.1) ms all x at ])

pub object_value : (ms : List Member) → HaveValues ms → IsValue (object ms)
object_value ms all = braces_value (fold with_member [] ms) (sorted_values ms all)

-- objects of one text have the same members
pub shared : (ms ns : List Member) → HaveValues ms → HaveValues ns → HaveOwnNames ms → object ms ≡ object ns → (x : Member) → IsIn x ms → IsIn x ns
shared ms ns in_m in_n own e x at =
    let same = same_braces (fold with_member [] ms) (fold with_member [] ns) (sorted_values ms in_m) (sorted_values ns in_n) e in
    elim (of_fold ns [] x (subst (IsIn x) same (in_fold ms [] x own at))) [ inl none ↦ absurd none | inr at ↦ at ]
