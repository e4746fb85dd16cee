-- Sums as far as a cap.
use Rattle.std.proofs.Common.{◌≡◌, ℕ, ◌+◌, ◌<◌, Bool, true, false, cond, not, ltb, List, [], ◌∷◌, ◌++◌, take, length, get_or, map, min, refl, sym, ap, subst, ◌∙◌, arith}
use Rattle.std.specs.Prelude.{sum_by, filter, fold, ◌==◌}
use Rattle.std.proofs.lemmas.List.Sums.{sum_by-cons, sum_by-append, sum_by_more}
use Rattle.std.proofs.lemmas.Bool.Decides.{nat_tests}
use Rattle.std.proofs.lemmas.Bool.{ltb-true, ltb-false, lt-ltb, le-ltb}
use Rattle.std.specs.List.{flat_map}
use Rattle.conf_types.specs.declared.acl.Rule.{Rule}
use Rattle.conf_types.specs.declared.datapath.Dp.{Dp}
use Rattle.conf_types.specs.declared.datapath.Port.{Port}
use Rattle.conf_types.specs.declared.vlan.Vlan.{Vlan}
use Rattle.conf_types.specs.Attached.{rules_of}
use Rattle.conf_types.specs.Configuration.{Configuration}
use Rattle.conf_types.specs.Membership.{has_edge_member}
use Rattle.conf_types.specs.Valid.{attached}
use Rattle.conf_limits.specs.Sizes.{capped, cost, named_rules, vlan_cost}

min_again : (cap a b : ℕ) → min cap (min cap a + b) ≡ min cap (a + b)
min_again cap a b = omega arith

capped_from : {A : Type 0} (cap : ℕ) (f : A → ℕ) (s : ℕ) (xs : List A) → fold (λ sum x. min cap (sum + f x)) (min cap s) xs ≡ min cap (fold (λ sum x. sum + f x) s xs)
capped_from cap f s [] = refl
capped_from cap f s (x ∷ xs) = ap (λ n. fold (λ sum x. min cap (sum + f x)) n xs) (min_again cap s (f x)) ∙ capped_from cap f (s + f x) xs

pub capped-sum : {A : Type 0} (cap : ℕ) (f : A → ℕ) (xs : List A) → capped cap f xs ≡ min cap (sum_by f xs)
capped-sum cap f xs =
    let none : min cap 0 ≡ 0 = omega arith in
    ap (λ n. fold (λ sum x. min cap (sum + f x)) n xs) (sym none) ∙ capped_from cap f 0 xs

-- each term as far as the cap
pub sum-capped : {A : Type 0} (cap : ℕ) (f : A → ℕ) (xs : List A) → min cap (sum_by (λ x. min cap (f x)) xs) ≡ min cap (sum_by f xs)
sum-capped cap f [] = refl
sum-capped cap f (x ∷ xs) =
    let a = sum_by-cons (λ y. min cap (f y)) x xs in
    let b = sum_by-cons f x xs in
    let c = sum-capped cap f xs in
    omega arith

pub sum-mapped : {A B : Type 0} (f : B → ℕ) (v : A → B) (xs : List A) → sum_by f (map v xs) ≡ sum_by (λ x. f (v x)) xs
sum-mapped f v [] = refl
sum-mapped f v (x ∷ xs) = sum_by-cons f (v x) (map v xs) ∙ ap (λ n. f (v x) + n) (sum-mapped f v xs) ∙ sym (sum_by-cons (λ y. f (v y)) x xs)

pub sum-filtered : {A : Type 0} (f : A → ℕ) (q : A → Bool) (xs : List A) → sum_by f (filter q xs) ≡ sum_by (λ x. cond (q x) (f x) 0) xs
sum-filtered f q [] = refl
sum-filtered f q (x ∷ xs) =
    elim (q x) as (λ b. sum_by f (cond b (x ∷ filter q xs) (filter q xs)) ≡ cond b (f x) 0 + sum_by (λ y. cond (q y) (f y) 0) xs) [
      | true ↦ sum_by-cons f x (filter q xs) ∙ ap (λ n. f x + n) (sum-filtered f q xs)
      | false ↦ sum-filtered f q xs ∙ sym (zero_more (sum_by (λ y. cond (q y) (f y) 0) xs))
    ] ∙ sym (sum_by-cons (λ y. cond (q y) (f y) 0) x xs)
  where
    zero_more : (n : ℕ) → 0 + n ≡ n
    zero_more n = omega arith

-- whether there are more than a limit
pub above-capped : (most n : ℕ) → ltb most (min (most + 1) n) ≡ ltb most n
above-capped most n = by (ltb most n) refl
  where
    by : (b : Bool) → ltb most n ≡ b → ltb most (min (most + 1) n) ≡ b
    by true h = let l = ltb-true most n h in lt-ltb most (min (most + 1) n) (omega arith)
    by false h = let l = ltb-false most n h in le-ltb most (min (most + 1) n) (omega arith)

-- two sums, each of terms as far as the cap
pub capped-both : {A B : Type 0} (cap : ℕ) (f : A → ℕ) (g : B → ℕ) (xs : List A) (ys : List B)
    → min cap (capped cap (λ x. min cap (f x)) xs + capped cap (λ y. min cap (g y)) ys) ≡ min cap (sum_by f xs + sum_by g ys)
capped-both cap f g xs ys =
    let a : capped cap (λ x. min cap (f x)) xs ≡ min cap (sum_by f xs) = capped-sum cap (λ x. min cap (f x)) xs ∙ sum-capped cap f xs in
    let b : capped cap (λ y. min cap (g y)) ys ≡ min cap (sum_by g ys) = capped-sum cap (λ y. min cap (g y)) ys ∙ sum-capped cap g ys in
    omega arith

pub capped-terms : {A : Type 0} (cap : ℕ) (f : A → ℕ) (xs : List A) → capped cap (λ x. min cap (f x)) xs ≡ min cap (sum_by f xs)
capped-terms cap f xs = capped-sum cap (λ x. min cap (f x)) xs ∙ sum-capped cap f xs

pub sum-joined : {A B : Type 0} (f : B → ℕ) (g : A → List B) (xs : List A) → sum_by f (flat_map g xs) ≡ sum_by (λ x. sum_by f (g x)) xs
sum-joined f g [] = refl
sum-joined f g (x ∷ xs) =
    sum_by-append f (g x) (flat_map g xs) ∙ ap (λ n. sum_by f (g x) + n) (sum-joined f g xs) ∙ sym (sum_by-cons (λ y. sum_by f (g y)) x xs)

-- ACLs cost what each of them does; no name, nothing
pub cost-named : (f : Rule → ℕ) (conf : Configuration) (names : List (List ℕ)) → cost (λ rules. sum_by f rules) conf names ≡ sum_by (λ name. sum_by f (named_rules conf name)) names
cost-named f conf [] = refl
cost-named f conf (name ∷ names) =
    let some : (length (name ∷ names) == 0) ≡ false = grind (arith, nat_tests) in
    subst (λ none. cond (not none) (sum_by f (rules_of conf (name ∷ names))) 0 ≡ sum_by (λ name. sum_by f (named_rules conf name)) (name ∷ names)) (sym some) (sum-joined f (named_rules conf) (name ∷ names))

-- what is attached on a datapath, on its interfaces and for its VLANs
pub attached-sum : (size : List Rule → ℕ) (conf : Configuration) (d : Dp)
    → sum_by size (attached conf d) ≡ sum_by (λ p. cost size conf p.acls) d.ports + sum_by (vlan_cost size conf d) conf.vlans
attached-sum size conf d =
    let acls_of = λ (p : Port). p.acls in
    let acls_in = λ (v : Vlan). v.acls in
    let here = λ (v : Vlan). has_edge_member d v.vid in
    let ports = map acls_of d.ports in
    let vlans = map acls_in (filter here conf.vlans) in
    sum-mapped size (rules_of conf) (filter (λ (names : List (List ℕ)). not (length names == 0)) (ports ++ vlans))
    ∙ sum-filtered (λ names. size (rules_of conf names)) (λ names. not (length names == 0)) (ports ++ vlans)
    ∙ sum_by-append (cost size conf) ports vlans
    ∙ ap (λ n. n + sum_by (cost size conf) vlans) (sum-mapped (cost size conf) acls_of d.ports)
    ∙ ap (λ n. sum_by (λ (p : Port). cost size conf p.acls) d.ports + n)
    (sum-mapped (cost size conf) acls_in (filter here conf.vlans) ∙ sum-filtered (λ (v : Vlan). cost size conf v.acls) here conf.vlans)

-- a sum so far, and one term more
pub added_more : {A : Type 0} (cap : ℕ) (f : A → ℕ) (xs ys : List A) (i : ℕ) (x : A) (t u g : ℕ) → ys ≡ xs → i < length ys → x ≡ get_or ys i x
    → t ≡ min cap (sum_by f (take i xs)) → g ≡ min cap (f x) → u ≡ min cap (t + g) → u ≡ min cap (sum_by f (take (i + 1) xs))
added_more {A} cap f xs ys i x t u g e lt is so_far here further =
    let more : sum_by f (take (i + 1) xs) ≡ sum_by f (take i xs) + f x =
    subst (λ (zs : List A). sum_by f (take (i + 1) zs) ≡ sum_by f (take i zs) + f x) e (sum_by_more f ys i x lt ∙ ap (λ y. sum_by f (take i ys) + f y) (sym is)) in
    omega arith

-- the same, where the term isn't as far as the cap
pub added_whole : {A : Type 0} (cap : ℕ) (f : A → ℕ) (xs ys : List A) (i : ℕ) (x : A) (t u g : ℕ) → ys ≡ xs → i < length ys → x ≡ get_or ys i x
    → t ≡ min cap (sum_by f (take i xs)) → g ≡ f x → u ≡ min cap (t + g) → u ≡ min cap (sum_by f (take (i + 1) xs))
added_whole cap f xs ys i x t u g e lt is so_far here further =
    added_more cap f xs ys i x t u (min cap g) e lt is so_far (ap (min cap) here) (let again : min cap (t + g) ≡ min cap (t + min cap g) = omega arith in further ∙ again)

pub both-capped : (cap a b s t u : ℕ) → s ≡ min cap a → t ≡ min cap b → u ≡ min cap (s + t) → u ≡ min cap (a + b)
both-capped cap a b s t u here there further = omega arith

pub ruleset above_rules = (above-capped)
