-- The test of a walk and the distance as a function give what the relations ask.
use Rattle.std.proofs.Common.{◌≡◌, ℕ, zero, suc, ◌+◌, ◌<◌, ◌≤◌, ◌&&◌, ◌||◌, Bool, true, false, cond, Some, None, List, [], ◌∷◌, length, get_or, refl, inl, inr, sym, ap, ◌∙◌, arith, subst}
use Rattle.std.specs.Prelude.{Contains}
use Rattle.std.specs.List.{list_any}
use Rattle.std.proofs.lemmas.Bool.{eqb-true, eq-eqb, cases_Bool, cases_lt, or_cases, or_left, or_right, and_parts, and_from, both_ways}
use Rattle.std.proofs.lemmas.List.Folds.{Any-from_list_any, list_any_at}
use Rattle.std.proofs.lemmas.Option.{same_Some, none-some}
use Rattle.net_base.specs.declared.stack.Node.{Node}
use Rattle.net_base.specs.declared.numbers.DpId.{DpId}
use Rattle.stack_paths.specs.Stack.{Stack, IsNode, HasLink, IsStack, Walk, IsDistance}
use Rattle.stack_paths.specs.Chosen.{Step, steps, is_same_dp, is_node, is_walk, least_below, distance_of}
use Rattle.stack_paths.proofs.Places.{ids-read, ids-within, ids-at}
use Rattle.stack_paths.proofs.Walks.{link_ends}
use Rattle.stack_paths.proofs.LawLemmas.{steps_sound, steps_complete, distance_same}

-- ---- tests and facts

pub same_dp : (a b : DpId) → is_same_dp a b ≡ true → a ≡ b
same_dp a b e = let made : ℕ → DpId = λ n. record { 0 = n } in ap made (eqb-true a.0 b.0 e)

pub dp_same : (a b : DpId) → a ≡ b → is_same_dp a b ≡ true
dp_same a b e = eq-eqb a.0 b.0 (ap (λ (x : DpId). x.0) e)

pub any_found : {X : Type 0} (t : X → Bool) (xs : List X) → list_any t xs ≡ true → (x : X) × Contains xs x × (t x ≡ true)
any_found t xs e = let found = Any-from_list_any t xs e in (found.1, (found.0, found.2, found.3), found.4)

pub any_here : {X : Type 0} (t : X → Bool) (xs : List X) (x : X) → Contains xs x → t x ≡ true → list_any t xs ≡ true
any_here t xs x c e = list_any_at t xs c.0 x c.1 (subst (λ y. t y ≡ true) (sym c.2) e)

pub node_found : (s : Stack) (d : DpId) → is_node s d ≡ true → IsNode s d
node_found s d e =
    let found = any_found (λ (node : Node). is_same_dp node.id d) s.nodes e in
    let node = found.0 in
    let c = found.1 in
    (c.0, ids-read s.nodes c.0 node c.1 (sym c.2) ∙ ap Some (same_dp node.id d found.2))

pub node_here : (s : Stack) (d : DpId) → IsNode s d → is_node s d ≡ true
node_here s d (i, e) =
    let x : Node = record { id = d; priority = None } in
    list_any_at (λ (node : Node). is_same_dp node.id d) s.nodes i x (ids-within s.nodes i d e) (dp_same (get_or s.nodes i x).id d (ids-at s.nodes i d e x))

-- ---- walks

pub walk_found : (s : Stack) (n : ℕ) (a b : DpId) → is_walk s a b n ≡ true → Walk s a b n
unfolding is_walk
walk_found s zero a b e = let parts = and_parts (is_same_dp a b) (is_node s a) e in (node_found s a parts.1, same_dp a b parts.0)
walk_found s (suc n) a b e =
    let found = any_found (λ (t : Step). is_same_dp t.near a && is_walk s t.far b n) (steps s.links) e in
    let t = found.0 in
    let parts = and_parts (is_same_dp t.near a) (is_walk s t.far b n) found.2 in
    let link : HasLink s t.near t.port t.far t.far_port = steps_sound s.links t found.1 in
    (t.far, t.port, t.far_port, subst (λ x. HasLink s x t.port t.far t.far_port) (same_dp t.near a parts.0) link, walk_found s n t.far b parts.1)

pub walk_here : (s : Stack) (n : ℕ) (a b : DpId) → Walk s a b n → is_walk s a b n ≡ true
unfolding is_walk
walk_here s zero a b w = and_from (is_same_dp a b) (is_node s a) (dp_same a b w.1) (node_here s a w.0)
walk_here s (suc n) a b (c, p, q, link, w) =
    let t = steps_complete s.links link.0 link.1 a p c q link.2 in
    any_here (λ (t : Step). is_same_dp t.near a && is_walk s t.far b n) (steps s.links) t.0 t.1
    (and_from (is_same_dp t.0.near a) (is_walk s t.0.far b n) (dp_same t.0.near a t.2) (walk_here s n t.0.far b (subst (λ x. Walk s x b n) (sym t.4) w)))

-- ---- the least number that passes

module _ (test : ℕ → Bool) where
  pub least_none : (n : ℕ) → least_below test n ≡ None → (k : ℕ) → k < n → test k ≡ false
  unfolding least_below
  least_none zero e k lt = absurd (omega arith)
  least_none (suc n) e k lt = elim (least_below test n) as (λ o. least_below test n ≡ o → test k ≡ false) [
    | None ↦ λ is. elim (cases_Bool (test n)) [
      | inl passes ↦ let here : Some n ≡ None = rw (is, passes) at e in absurd (none-some n (sym here))
      | inr fails ↦ elim (cases_lt k n) [
        | inl less ↦ least_none n is k less
        | inr more ↦ let same : n ≡ k = omega arith in subst (λ j. test j ≡ false) same fails
      ]
    ]
    | Some m ↦ λ is. let here : Some m ≡ None = rw is at e in absurd (none-some m (sym here))
  ] refl

  pub least_some : (n m : ℕ) → least_below test n ≡ Some m → (test m ≡ true) × ((k : ℕ) → k < m → test k ≡ false)
  unfolding least_below
  least_some zero m e = absurd (none-some m e)
  least_some (suc n) m e = elim (least_below test n) as (λ o. least_below test n ≡ o → (test m ≡ true) × ((k : ℕ) → k < m → test k ≡ false)) [
    | None ↦ λ is. elim (cases_Bool (test n)) [
      | inl passes ↦
          let here : Some n ≡ Some m = rw (is, passes) at e in
          let same : n ≡ m = same_Some n m here in
          (subst (λ j. test j ≡ true) same passes, λ k lt. least_none n is k (omega arith))
      | inr fails ↦ let here : None ≡ Some m = rw (is, fails) at e in absurd (none-some m here)
    ]
    | Some j ↦ λ is. let here : Some j ≡ Some m = rw is at e in least_some n m (is ∙ here)
  ] refl

-- ---- as many datapaths are reached within a distance as the distance and one

grows : (s t : Bool) → (s ≡ true → t ≡ true) → cond s 1 0 ≤ cond t 1 0
grows true t h = rw (h refl) (omega arith)
grows false t h = omega arith

count : {X : Type 0} → (X → Bool) → List X → ℕ
count t [] = 0
count t (x ∷ xs) = cond (t x) 1 0 + count t xs

count_most : {X : Type 0} (t : X → Bool) (xs : List X) → count t xs ≤ length xs
unfolding count
count_most t [] = omega arith
count_most t (x ∷ xs) =
    elim (t x) as (λ b. cond b 1 0 + count t xs ≤ length (x ∷ xs)) [ true ↦ omega (arith, count_most t xs) | false ↦ omega (arith, count_most t xs) ]

module _ {X : Type 0} (s t : X → Bool) (h : (x : X) → s x ≡ true → t x ≡ true) where
  count_grows : (xs : List X) → count s xs ≤ count t xs
  unfolding count
  count_grows [] = omega arith
  count_grows (x ∷ xs) = let here : cond (s x) 1 0 ≤ cond (t x) 1 0 = grows (s x) (t x) (h x) in omega (arith, here, count_grows xs)

  -- one more passes
  count_more : (xs : List X) (k : ℕ) (d : X) → k < length xs → s (get_or xs k d) ≡ false → t (get_or xs k d) ≡ true → count s xs + 1 ≤ count t xs
  unfolding count
  count_more [] k d lt no_s yes_t = absurd (omega arith)
  count_more (x ∷ xs) zero d lt no_s yes_t = rw (no_s, yes_t) (omega (arith, count_grows xs))
  count_more (x ∷ xs) (suc k) d lt no_s yes_t =
      let here : cond (s x) 1 0 ≤ cond (t x) 1 0 = grows (s x) (t x) (h x) in
      let more : count s xs + 1 ≤ count t xs = count_more xs k d (omega arith) no_s yes_t in
      omega (arith, here, more)

module _ (s : Stack) (is : IsStack s) (b : DpId) where
  -- a walk of at most n links leads from d
  within : ℕ → DpId → Bool
  within zero d = is_walk s d b zero
  within (suc n) d = within n d || is_walk s d b (suc n)

  within_walk : (n : ℕ) (d : DpId) → within n d ≡ true → (m : ℕ) × (m ≤ n) × Walk s d b m
  unfolding within
  within_walk zero d e = (0, omega arith, walk_found s 0 d b e)
  within_walk (suc n) d e = elim (or_cases (within n d) (is_walk s d b (suc n)) e) [
    | inl before ↦ let rest = within_walk n d before in (rest.0, omega (arith, rest.1), rest.2)
    | inr now ↦ (suc n, omega arith, walk_found s (suc n) d b now)
  ]

  not_within : (n : ℕ) (d : DpId) → IsDistance s d b (suc n) → within n d ≡ false
  not_within n d far = elim (cases_Bool (within n d)) [
    | inl near ↦ let walk = within_walk n d near in absurd (omega (arith, walk.1, far.least walk.0 walk.2))
    | inr fails ↦ fails
  ]

  abbrev in_reach : ℕ → Node → Bool
  in_reach n node = within n node.id

  many : (n : ℕ) (d : DpId) → IsDistance s d b n → suc n ≤ count (in_reach n) s.nodes
  unfolding within
  many zero d far =
      let node = far.walk.0 in
      let x : Node = record { id = d; priority = None } in
      let here : in_reach 0 (get_or s.nodes node.0 x) ≡ true = subst (λ y. within 0 y ≡ true) (sym (ids-at s.nodes node.0 d node.1 x)) (walk_here s 0 d b far.walk) in
      let more = count_more (λ (m : Node). false) (in_reach 0) (λ m e. absurd (both_ways false refl e)) s.nodes node.0 x (ids-within s.nodes node.0 d node.1) refl here in
      omega (arith, more)
  many (suc n) d far =
      let step = far.walk in
      let node = (link_ends s is d step.1 step.0 step.2 step.3).0 in
      let rest : IsDistance s step.0 b n = record { walk = step.4; least = λ m v. let least = far.least (suc m) (step.0, step.1, step.2, step.3, v) in omega (arith, least) } in
      let x : Node = record { id = d; priority = None } in
      let at = ids-at s.nodes node.0 d node.1 x in
      let late : in_reach n (get_or s.nodes node.0 x) ≡ false = subst (λ y. within n y ≡ false) (sym at) (not_within n d far) in
      let now : in_reach (suc n) (get_or s.nodes node.0 x) ≡ true = subst (λ y. within (suc n) y ≡ true) (sym at) (or_right (within n d) (is_walk s d b (suc n)) (walk_here s (suc n) d b far.walk)) in
      let more = count_more (in_reach n) (in_reach (suc n)) (λ m e. or_left (within n m.id) (is_walk s m.id b (suc n)) e) s.nodes node.0 x (ids-within s.nodes node.0 d node.1) late now in
      omega (arith, more, many n step.0 rest)

  pub distance_small : (n : ℕ) (d : DpId) → IsDistance s d b n → n < length s.nodes
  distance_small n d far = omega (arith, many n d far, count_most (in_reach n) s.nodes)

-- ---- the distance

pub distance_found : (s : Stack) (a b : DpId) (n : ℕ) → distance_of s a b ≡ Some n → IsDistance s a b n
unfolding distance_of
distance_found s a b n e =
    let least = least_some (is_walk s a b) (length s.nodes) n e in
    record {
      walk = walk_found s n a b least.0;
      least = λ m w. elim (cases_lt m n) [
        | inl less ↦ absurd (both_ways (is_walk s a b m) (least.1 m less) (walk_here s m a b w))
        | inr more ↦ more
      ];
    }

not_nothing : (s : Stack) → IsStack s → (a b : DpId) (n : ℕ) → IsDistance s a b n → distance_of s a b ≡ None → ⊥
unfolding distance_of
not_nothing s is a b n far none = both_ways (is_walk s a b n) (least_none (is_walk s a b) (length s.nodes) none n (distance_small s is b n a far)) (walk_here s n a b far.walk)

pub distance_here : (s : Stack) → IsStack s → (a b : DpId) (n : ℕ) → IsDistance s a b n → distance_of s a b ≡ Some n
distance_here s is a b n far = elim (distance_of s a b) as (λ o. distance_of s a b ≡ o → o ≡ Some n) [
  | None ↦ λ none. absurd (not_nothing s is a b n far none)
  | Some m ↦ λ some. ap Some (distance_same s a b m n (distance_found s a b m some) far)
] refl
