-- Two lists in one order whose items have a counterpart in each other.
use Rattle.std.proofs.Common.{◌≡◌, ◌≢◌, inl, inr, ◌<◌, ℕ, List, [], ◌∷◌, map, refl, sym, ap, ◌∙◌, subst, arith}
use Rattle.std.specs.List.{AllByRecursion}
use Rattle.std.proofs.lemmas.Cmp.{nat_list_cmp_total, tied_itself}
use Rattle.conf_types.specs.Lists.{EachBefore, IsTextBefore}
use Rattle.conf_json.specs.Json.{Member, object}
use Rattle.law_json.specs.Agree.{OneByOne}
use Rattle.law_json.proofs.Members.{IsIn, all_in, in_all, in_map, of_map, HaveOwnNames, shared}
use Rattle.law_json.proofs.Values.{IsValue}

-- ---- orders

pub record IsOrder {K : Type 0} (Before : K → K → Type 0) : Type 0 where
  pub never : (k : K) → Before k k → ⊥
  pub trans : (i j k : K) → Before i j → Before j k → Before i k

pub by_number : IsOrder (λ (m n : ℕ). m < n)
by_number = record { never = λ k h. omega (arith, h); trans = λ i j k p q. omega (arith, p, q) }

pub by_text : IsOrder IsTextBefore
by_text = record {
  never = λ k h. let equal = tied_itself nat_list_cmp_total k in grind (arith, h, equal);
  trans = nat_list_cmp_total.trans;
}

-- ---- items

-- what holds of each pair of items in order holds by what is known of each
pub each_before : {A : Type 0} (R S : A → A → Type 0) (P : A → Type 0) → ((x y : A) → P x → P y → R x y → S x y) → (xs : List A) → AllByRecursion P xs → EachBefore R xs → EachBefore S xs
each_before R S P step [] all before = tt
each_before R S P step (x ∷ xs) all before =
    (all_in (S x) xs (λ y at. step x y all.0 (in_all P xs all.1 y at) (in_all (R x) xs before.0 y at)), each_before R S P step xs all.1 before.1)

pub own_names : {A : Type 0} (f : A → Member) (xs : List A) → EachBefore (λ x y. (f x).0 ≢ (f y).0) xs → HaveOwnNames (map f xs)
own_names f [] apart = tt
own_names f (x ∷ xs) apart =
    (all_in (λ (m : Member). (f x).0 ≢ m.0) (map f xs) (λ m at. let found = of_map f xs m at in λ same. in_all (λ y. (f x).0 ≢ (f y).0) xs apart.0 found.0 found.1 (same ∙ ap (λ (w : Member). w.0) found.2)), own_names f xs apart.1)

-- each item of one list has a counterpart in the other
abbrev Covers : {A : Type 0} → (A → A → Type 0) → List A → List A → Type 0
Covers {A} R xs ys = (x : A) → IsIn x xs → (y : A) × IsIn y ys × R x y

pub one_by_one : {A K : Type 0} (Before : K → K → Type 0) (key : A → K) (R : A → A → Type 0) → IsOrder Before → ((x y : A) → R x y → key x ≡ key y)
    → (xs ys : List A) → EachBefore (λ x y. Before (key x) (key y)) xs → EachBefore (λ x y. Before (key x) (key y)) ys
    → Covers R xs ys → Covers (λ y x. R x y) ys xs → OneByOne R xs ys
one_by_one Before key R order keyed [] [] first second there back = tt
one_by_one Before key R order keyed [] (y ∷ ys) first second there back = (back y (inl refl)).1
one_by_one Before key R order keyed (x ∷ xs) [] first second there back = (there x (inl refl)).1
one_by_one {A} Before key R order keyed (x ∷ xs) (y ∷ ys) first second there back = (heads, one_by_one Before key R order keyed xs ys first.1 second.1 ahead behind)
  where
    -- two counterparts that both stand behind the other list's first item
    crossed : (v u : A) → IsIn v ys → IsIn u xs → R x v → R u y → ⊥
    crossed v u in_y in_x to_v of_u =
        let below : Before (key y) (key v) = in_all (λ w. Before (key y) (key w)) ys second.0 v in_y in
        let above : Before (key x) (key u) = in_all (λ w. Before (key x) (key w)) xs first.0 u in_x in
        let turned : Before (key y) (key x) = subst (Before (key y)) (sym (keyed x v to_v)) below in
        order.never (key y) (order.trans (key y) (key x) (key y) turned (subst (Before (key x)) (keyed u y of_u) above))

    heads : R x y
    heads =
        let v = there x (inl refl) in
        let u = back y (inl refl) in
        elim v.1 [
          | inl e ↦ subst (R x) e v.2
          | inr in_y ↦ elim u.1 [
            | inl e ↦ subst (λ w. R w y) e u.2
            | inr in_x ↦ absurd (crossed v.0 u.0 in_y in_x v.2 u.2)
          ]
        ]

    same : key x ≡ key y
    same = keyed x y heads

    ahead : Covers R xs ys
    ahead u at =
        let v = there u (inr at) in
        elim v.1 [
          | inl e ↦
              absurd (order.never (key x) (subst (Before (key x)) (keyed u y (subst (R u) e v.2) ∙ sym same) (in_all (λ w. Before (key x) (key w)) xs first.0 u at)))
          | inr in_y ↦ (v.0, in_y, v.2)
        ]

    behind : Covers (λ v u. R u v) ys xs
    behind v at =
        let u = back v (inr at) in
        elim u.1 [
          | inl e ↦
              absurd (order.never (key y) (subst (Before (key y)) (sym (keyed x v (subst (λ w. R w v) e u.2)) ∙ same) (in_all (λ w. Before (key y) (key w)) ys second.0 v at)))
          | inr in_x ↦ (u.0, in_x, u.2)
        ]

-- ---- the members of two objects

-- items, each of which is a member of an object: what is known of each, and what equal members tell
pub record AreMembers {A K : Type 0} (Before : K → K → Type 0) (key : A → K) (f : A → Member) (P : A → Type 0) (xs : List A) : Type 0 where
  pub values : AllByRecursion (λ x. IsValue (f x).1) xs
  pub known : AllByRecursion P xs
  pub in_order : EachBefore (λ x y. Before (key x) (key y)) xs
  pub apart : EachBefore (λ x y. (f x).0 ≢ (f y).0) xs

pub map_values : {A : Type 0} (f : A → Member) (xs : List A) → AllByRecursion (λ x. IsValue (f x).1) xs → AllByRecursion (λ m. IsValue m.1) (map f xs)
map_values f [] all = tt
map_values f (x ∷ xs) all = (all.0, map_values f xs all.1)

pub same_members : {A K : Type 0} (Before : K → K → Type 0) (key : A → K) (f g : A → Member) (P Q : A → Type 0) (R : A → A → Type 0) → IsOrder Before
    → ((x y : A) → R x y → key x ≡ key y) → ((x y : A) → P x → Q y → f x ≡ g y → R x y)
    → (xs ys : List A) → AreMembers Before key f P xs → AreMembers Before key g Q ys → object (map f xs) ≡ object (map g ys) → OneByOne R xs ys
same_members Before key f g P Q R order keyed told xs ys first second e =
    one_by_one Before key R order keyed xs ys first.in_order second.in_order
    (λ x at.
    let member = shared (map f xs) (map g ys) (map_values f xs first.values) (map_values g ys second.values) (own_names f xs first.apart) e (f x) (in_map f xs x at) in
    let found = of_map g ys (f x) member in
    (found.0, found.1, told x found.0 (in_all P xs first.known x at) (in_all Q ys second.known found.0 found.1) found.2))
    (λ y at.
    let member = shared (map g ys) (map f xs) (map_values g ys second.values) (map_values f xs first.values) (own_names g ys second.apart) (sym e) (g y) (in_map g ys y at) in
    let found = of_map f xs (g y) member in
    (found.0, found.1, told found.0 y (in_all P xs first.known found.0 found.1) (in_all Q ys second.known y at) (sym found.2)))

-- ---- one item of each key

pub one_of_key : {A K : Type 0} (Before : K → K → Type 0) (key : A → K) → IsOrder Before → (xs : List A) → EachBefore (λ x y. Before (key x) (key y)) xs
    → (x y : A) → IsIn x xs → IsIn y xs → key x ≡ key y → x ≡ y
one_of_key Before key order [] before x y at_x at_y e = absurd at_x
one_of_key Before key order (z ∷ zs) before x y (inl here) (inl there) e = here ∙ sym there
one_of_key Before key order (z ∷ zs) before x y (inl here) (inr at) e =
    absurd (order.never (key y) (subst (λ k. Before k (key y)) (sym (ap key here) ∙ e) (in_all (λ w. Before (key z) (key w)) zs before.0 y at)))
one_of_key Before key order (z ∷ zs) before x y (inr at) (inl there) e =
    absurd (order.never (key x) (subst (λ k. Before k (key x)) (sym (ap key there) ∙ sym e) (in_all (λ w. Before (key z) (key w)) zs before.0 x at)))
one_of_key Before key order (z ∷ zs) before x y (inr at) (inr behind) e = one_of_key Before key order zs before.1 x y at behind e

pub same_lists : {A : Type 0} (xs ys : List A) → OneByOne (λ x y. x ≡ y) xs ys → xs ≡ ys
same_lists [] [] all = refl
same_lists [] (y ∷ ys) all = absurd all
same_lists (x ∷ xs) [] all = absurd all
same_lists (x ∷ xs) (y ∷ ys) all = ap (λ w. w ∷ xs) all.0 ∙ ap (λ ws. y ∷ ws) (same_lists xs ys all.1)
