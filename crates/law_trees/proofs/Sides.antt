-- Which port of a datapath leads towards another along the tree, by the next hops to the root r of their part.
use Rattle.std.proofs.Common.{◌≡◌, ℕ, zero, suc, ◌==◌, ◌&&◌, Bool, true, false, not, cond, if◌then◌else◌, Option, Some, None, List, [], ◌∷◌, find, refl, inl, inr, sym, ap, ◌∙◌, subst, arith}
use Rattle.std.specs.Prelude.{◌⊎◌, Contains}
use Rattle.std.specs.Option.{option_map_or}
use Rattle.std.proofs.lemmas.Bool.{cases_Bool, and_parts, and_from, both_ways, eqb-true, eq-eqb, not_from_true, not_from_false, false_from_ne_true}
use Rattle.std.proofs.lemmas.Option.{same_Some, none-some}
use Rattle.net_base.specs.declared.numbers.DpId.{DpId}
use Rattle.stack_paths.specs.Chosen.{Step, steps, is_same_dp, hop_link}
use Rattle.stack_paths.specs.Stack.{Stack, HasLink, IsStack, IsDistance, IsHop}
use Rattle.stack_paths.proofs.ChosenHops.{hop_found, hop_here}
use Rattle.stack_paths.proofs.ChosenWalks.{same_dp, dp_same}
use Rattle.stack_paths.proofs.Finite.{contains_here, contains_there, contains_cons}
use Rattle.stack_paths.proofs.Firsts.{hop_same}
use Rattle.stack_paths.proofs.LawLemmas.{distance_same, link_back, steps_sound, steps_complete}
use Rattle.stack_paths.proofs.Walks.{far_end_same}
use Rattle.law_trees.specs.Ways.{IsNoEnd, step_at}
use Rattle.law_trees.proofs.Lines.{below, below_itself, below_the_root, above, below_more, child_of, level_once}
use Rattle.law_trees.proofs.Nearer.{hopped, no_hop_back}

-- ---- the link at a port

found_passes : {X : Type 0} (t : X → Bool) (xs : List X) (x : X) → find t xs ≡ Some x → Contains xs x × (t x ≡ true)
found_passes t [] x e = absurd (none-some x e)
found_passes {X = X} t (y ∷ ys) x e = by (t y) refl (found_passes t ys x) e
  where
    by : (b : Bool) → t y ≡ b → (find t ys ≡ Some x → Contains ys x × (t x ≡ true)) → cond b (Some y) (find t ys) ≡ Some x → Contains (y ∷ ys) x × (t x ≡ true)
    by true passes more is = let same = same_Some y x is in (subst (Contains (y ∷ ys)) same (contains_here y ys), subst (λ z. t z ≡ true) same passes)
    by false fails more is = let rest = more is in (contains_there y x ys rest.0, rest.1)

is_found : {X : Type 0} (t : X → Bool) (xs : List X) (x : X) → Contains xs x → t x ≡ true → (y : X) × (find t xs ≡ Some y)
is_found t [] x c passes = absurd (omega (arith, c.1))
is_found {X = X} t (z ∷ zs) x c passes = by (t z) refl (λ later. is_found t zs x later passes)
  where
    by : (b : Bool) → t z ≡ b → (Contains zs x → (y : X) × (find t zs ≡ Some y)) → (y : X) × (cond b (Some z) (find t zs) ≡ Some y)
    by true is more = (z, refl)
    by false is more = elim (contains_cons z x zs c) [
      | inl first ↦ absurd (both_ways (t z) is (ap t first ∙ passes))
      | inr later ↦ more later
    ]

pub record StepAt (s : Stack) (d : DpId) (port : ℕ) (e : DpId) (q : ℕ) : Type 0 where
  pub step : Step
  pub is : step_at s d port ≡ Some step
  pub far : step.far ≡ e
  pub far_port : step.far_port ≡ q

module _ (s : Stack) (is : IsStack s) where
  pub step_leads : (d : DpId) (port : ℕ) (t : Step) → step_at s d port ≡ Some t → HasLink s d port t.far t.far_port
  step_leads d port t e =
      let f = found_passes (λ (t : Step). is_same_dp t.near d && t.port == port) (steps s.links) t e in
      let both = and_parts (is_same_dp t.near d) (t.port == port) f.1 in
      let link : HasLink s t.near t.port t.far t.far_port = steps_sound s.links t f.0 in
      subst (λ k. HasLink s d k t.far t.far_port) (eqb-true t.port port both.1) (subst (λ x. HasLink s x t.port t.far t.far_port) (same_dp t.near d both.0) link)

  pub step_of : (d : DpId) (port : ℕ) (e : DpId) (q : ℕ) → HasLink s d port e q → StepAt s d port e q
  step_of d port e q link =
      let w = steps_complete s.links link.0 link.1 d port e q link.2 in
      let f = is_found (λ (t : Step). is_same_dp t.near d && t.port == port) (steps s.links) w.0 w.1 (and_from (is_same_dp w.0.near d) (w.0.port == port) (dp_same w.0.near d w.2) (eq-eqb w.0.port port w.3)) in
      let same = far_end_same s is d port f.0.far e f.0.far_port q (step_leads d port f.0 f.1) link in
      record { step = f.0; is = f.1; far = same.0; far_port = same.1 }

  pub no_step : (d : DpId) (port : ℕ) → IsNoEnd s d port → step_at s d port ≡ None
  no_step d port free = by (step_at s d port) refl
    where
      by : (o : Option Step) → step_at s d port ≡ o → o ≡ None
      by None none = refl
      by (Some t) some = absurd (free t.far t.far_port (step_leads d port t some))

  module _ (r : DpId) where
    -- a link of the tree leads from a port of d to one of e, up or down
    abbrev pub IsBranch : DpId → ℕ → DpId → ℕ → Type 0
    IsBranch d x e q = IsHop s d r x e q ⊎ IsHop s e r q d x

    pub branch_link : (d : DpId) (x : ℕ) (e : DpId) (q : ℕ) → IsBranch d x e q → HasLink s d x e q
    branch_link d x e q (inl up) = up.nearer.link
    branch_link d x e q (inr down) = link_back s e q d x down.nearer.link

    pub branch_back : (d : DpId) (x : ℕ) (e : DpId) (q : ℕ) → IsBranch d x e q → IsBranch e q d x
    branch_back d x e q (inl up) = inr up
    branch_back d x e q (inr down) = inl down

    is_up : DpId → ℕ → Bool
    is_up d x = option_map_or (λ (u : Step). u.port == x) (hop_link s d r) false

    -- the port leads towards t: up where t isn't below, and down where it is
    pub toward : DpId → ℕ → DpId → Bool
    toward d x t = if is_up d x then not (below s is r d t) else option_map_or (λ (w : Step). below s is r w.far t) (step_at s d x) false

    toward_up : (d : DpId) (x : ℕ) (e : DpId) (q : ℕ) (t : DpId) → IsHop s d r x e q → toward d x t ≡ not (below s is r d t)
    unfolding toward is_up
    toward_up d x e q t hop =
        let u = hop_here s is d r x e q hop in
        let up : is_up d x ≡ true = ap (λ o. option_map_or (λ (u : Step). u.port == x) o false) u.1 ∙ eq-eqb u.0.port x u.3 in
        ap (λ b. cond b (not (below s is r d t)) (option_map_or (λ (w : Step). below s is r w.far t) (step_at s d x) false)) up

    not_up : (d : DpId) (x : ℕ) (e : DpId) (q : ℕ) → HasLink s d x e q → (IsHop s d r x e q → ⊥) → is_up d x ≡ false
    unfolding is_up
    not_up d x e q link none = by (hop_link s d r) refl
      where
        by : (o : Option Step) → hop_link s d r ≡ o → option_map_or (λ (u : Step). u.port == x) o false ≡ false
        by None is_none = refl
        by (Some u) some = false_from_ne_true (u.port == x) (λ same.
            let hop = (hop_found s is d r u some).1 in
            let here : IsHop s d r x u.far u.far_port = subst (λ k. IsHop s d r k u.far u.far_port) (eqb-true u.port x same) hop in
            let ends = far_end_same s is d x u.far e u.far_port q here.nearer.link link in
            none (subst (λ k. IsHop s d r x e k) ends.1 (subst (λ y. IsHop s d r x y u.far_port) ends.0 here)))

    toward_down : (d : DpId) (x : ℕ) (e : DpId) (q : ℕ) (t : DpId) → IsHop s e r q d x → toward d x t ≡ below s is r e t
    unfolding toward
    toward_down d x e q t hop =
        let link = link_back s e q d x hop.nearer.link in
        let w = step_of d x e q link in
        ap (λ b. cond b (not (below s is r d t)) (option_map_or (λ (w : Step). below s is r w.far t) (step_at s d x) false)) (not_up d x e q link (λ up. no_hop_back s is r d e x q up hop))
        ∙ ap (λ o. option_map_or (λ (w : Step). below s is r w.far t) o false) w.is
        ∙ ap (λ y. below s is r y t) w.far

    -- ---- each datapath of the part but itself lies beyond one branch

    pub toward_itself : (d : DpId) (x : ℕ) (e : DpId) (q : ℕ) → IsBranch d x e q → toward d x d ≡ false
    toward_itself d x e q (inl up) = toward_up d x e q d up ∙ not_from_true (below s is r d d) (below_itself s is r (suc up.nearer.rest) d up.nearer.from_here)
    toward_itself d x e q (inr down) = toward_down d x e q d down ∙ false_from_ne_true (below s is r e d) (λ passes.
        let n = down.nearer.rest in
        let a = above s is r n e d down.nearer.from_there passes in
        let most = a.most in
        let level = distance_same s e r a.distance (suc n) a.is_far down.nearer.from_here in
        omega (arith, most, level))

    not_not : (b : Bool) → b ≡ not (not b)
    not_not true = refl
    not_not false = refl

    pub toward_back : (d : DpId) (x : ℕ) (e : DpId) (q : ℕ) (t : DpId) → IsBranch d x e q → toward e q t ≡ not (toward d x t)
    toward_back d x e q t (inl up) = toward_down e q d x t up ∙ not_not (below s is r d t) ∙ sym (ap (λ b. not b) (toward_up d x e q t up))
    toward_back d x e q t (inr down) = toward_up e q d x t down ∙ sym (ap (λ b. not b) (toward_down d x e q t down))

    pub record Toward (d t : DpId) : Type 0 where
      pub port : ℕ
      pub far : DpId
      pub far_port : ℕ
      pub branch : IsBranch d port far far_port
      pub leads : toward d port t ≡ true

    pub some_toward : (m n : ℕ) (d t : DpId) → IsDistance s d r m → IsDistance s t r n → is_same_dp t d ≡ false → Toward d t
    some_toward m n d t d_far t_far other =
        elim (cases_Bool (below s is r d t)) [
          | inl is_below ↦
              let c = child_of s is r n d t t_far is_below other in
              record { port = c.far_port; far = c.child; far_port = c.port; branch = inr c.hop; leads = toward_down d c.far_port c.child c.port t c.hop ∙ c.is_below }
          | inr above_it ↦ by m d_far above_it
        ]
      where
        by : (m : ℕ) → IsDistance s d r m → below s is r d t ≡ false → Toward d t
        by zero far above_it = absurd (both_ways (below s is r d t) above_it (subst (λ x. below s is r x t ≡ true) (sym far.walk.1) (below_the_root s is r n t t_far)))
        by (suc m) far above_it =
            let h = hopped s is r d m far in
            record { port = h.port; far = h.far; far_port = h.far_port; branch = inl h.hop; leads = toward_up d h.port h.far h.far_port t h.hop ∙ not_from_false (below s is r d t) above_it }

    opposite : (d : DpId) (t : DpId) (n : ℕ) (x : ℕ) (e : DpId) (q : ℕ) (y : ℕ) (f : DpId) (u : ℕ) → IsDistance s t r n → IsHop s d r x e q → IsHop s f r u d y → toward d x t ≡ true → toward d y t ≡ true → ⊥
    opposite d t n x e q y f u t_far up down is_x is_y =
        let is_below = below_more s is r n f d t u y down t_far (sym (toward_down d y f u t down) ∙ is_y) in
        both_ways (toward d x t) (toward_up d x e q t up ∙ not_from_true (below s is r d t) is_below) is_x

    pub one_toward : (n : ℕ) (d t : DpId) (x : ℕ) (e : DpId) (q : ℕ) (y : ℕ) (f : DpId) (u : ℕ) → IsDistance s t r n → IsBranch d x e q → IsBranch d y f u → toward d x t ≡ true → toward d y t ≡ true → x ≡ y
    one_toward n d t x e q y f u t_far (inl up) (inl up') is_x is_y = (hop_same s is d r x y e f q u up up').0
    one_toward n d t x e q y f u t_far (inl up) (inr down) is_x is_y = absurd (opposite d t n x e q y f u t_far up down is_x is_y)
    one_toward n d t x e q y f u t_far (inr down) (inl up) is_x is_y = absurd (opposite d t n y f u x e q t_far up down is_y is_x)
    one_toward n d t x e q y f u t_far (inr down) (inr down') is_x is_y =
        let k = down.nearer.rest in
        let level = distance_same s d r down'.nearer.rest k down'.nearer.from_there down.nearer.from_there in
        let f_far : IsDistance s f r (suc k) = subst (λ j. IsDistance s f r (suc j)) level down'.nearer.from_here in
        let same = level_once s is r n (suc k) e f t t_far down.nearer.from_here f_far (sym (toward_down d x e q t down) ∙ is_x) (sym (toward_down d y f u t down') ∙ is_y) in
        (hop_same s is e r q u d d x y down (subst (λ z. IsHop s z r u d y) (sym same) down')).2

    -- by a port at which no link begins nothing lies
    pub free_toward : (d : DpId) (x : ℕ) (t : DpId) → IsNoEnd s d x → toward d x t ≡ false
    unfolding toward is_up
    free_toward d x t free =
        ap (λ b. cond b (not (below s is r d t)) (option_map_or (λ (w : Step). below s is r w.far t) (step_at s d x) false)) (by (hop_link s d r) refl)
        ∙ ap (λ o. option_map_or (λ (w : Step). below s is r w.far t) o false) (no_step d x free)
      where
        by : (o : Option Step) → hop_link s d r ≡ o → option_map_or (λ (u : Step). u.port == x) o false ≡ false
        by None is_none = refl
        by (Some u) some = false_from_ne_true (u.port == x) (λ same.
            free u.far u.far_port (subst (λ k. HasLink s d k u.far u.far_port) (eqb-true u.port x same) (hop_found s is d r u some).1.nearer.link))
