use Rattle.std.proofs.Common.{◌≡◌, ℕ, ◌<◌, ◌≤◌, Some, None, Option, sym, ◌∙◌, ap, subst, ⊎_elim, arith}
use Rattle.std.specs.Prelude.{slice_get}
use Rattle.std.proofs.lemmas.Option.{same_Some}
use Rattle.net_base.specs.declared.stack.Node.{Node}
use Rattle.net_base.specs.declared.numbers.DpId.{DpId}
use Rattle.stack_paths.specs.Stack.{Stack, IsAt, IsStack, HasLink, ChosenBefore, IsHop, LessPriority, RanksFirst, GoesFirst, IsRoot}
use Rattle.stack_paths.proofs.Places.{at_same, place_same, ids-node}
use Rattle.stack_paths.proofs.Walks.{far_end_same}

-- no priority is less than itself
LessPriority-irrefl : (p q : Option ℕ) → LessPriority p q → LessPriority q p → ⊥
LessPriority-irrefl (Some p) (Some q) a b = omega (arith, a, b)
LessPriority-irrefl (Some p) None a b = b
LessPriority-irrefl None q a b = a

LessPriority-same : (p q : Option ℕ) → p ≡ q → LessPriority p q → ⊥
LessPriority-same p q e a = let b = subst (λ x. LessPriority p x) (sym e) a in LessPriority-irrefl p p b b

-- of two places only one goes first
RanksFirst-antisym : (p : Option ℕ) (i : ℕ) (q : Option ℕ) (j : ℕ) → RanksFirst p i q j → RanksFirst q j p i → i ≡ j
RanksFirst-antisym p i q j a b = ⊎_elim
    (λ (x : LessPriority p q). ⊎_elim
    (λ (y : LessPriority q p). absurd (LessPriority-irrefl p q x y))
    (λ (y : (q ≡ p) × (j ≤ i)). absurd (LessPriority-same p q (sym y.0) x)) b)
    (λ (x : (p ≡ q) × (i ≤ j)). ⊎_elim
    (λ (y : LessPriority q p). absurd (LessPriority-same q p (sym x.0) y))
    (λ (y : (q ≡ p) × (j ≤ i)). omega (arith, x.1, y.1)) b)
    a

module _ (s : Stack) (is : IsStack s) where
  pub GoesFirst-antisym : (d e : DpId) → GoesFirst s d e → GoesFirst s e d → d ≡ e
  GoesFirst-antisym d e x y =
      let at_xi : IsAt s x.i d = ids-node s.nodes x.i x.m x.at_i ∙ ap Some x.is_d in
      let at_xj : IsAt s x.j e = ids-node s.nodes x.j x.n x.at_j ∙ ap Some x.is_e in
      let at_yi : IsAt s y.i e = ids-node s.nodes y.i y.m y.at_i ∙ ap Some y.is_d in
      let at_yj : IsAt s y.j d = ids-node s.nodes y.j y.n y.at_j ∙ ap Some y.is_e in
      let d_at : x.i ≡ y.j = place_same s is x.i y.j d at_xi at_yj in
      let e_at : x.j ≡ y.i = place_same s is x.j y.i e at_xj at_yi in
      let m_is : x.m ≡ y.n = same_Some x.m y.n (sym x.at_i ∙ subst (λ k. slice_get s.nodes k ≡ Some y.n) (sym d_at) y.at_j) in
      let n_is : x.n ≡ y.m = same_Some x.n y.m (sym x.at_j ∙ subst (λ k. slice_get s.nodes k ≡ Some y.m) (sym e_at) y.at_i) in
      let back : RanksFirst x.n.priority x.j x.m.priority x.i =
      subst (λ (m : Node). RanksFirst x.n.priority x.j m.priority x.i) (sym m_is)
      (subst (λ (n : Node). RanksFirst n.priority x.j y.n.priority x.i) (sym n_is)
      (subst (λ k. RanksFirst y.m.priority k y.n.priority x.i) (sym e_at)
      (subst (λ k. RanksFirst y.m.priority y.i y.n.priority k) (sym d_at) y.ranks))) in
      let same : x.i ≡ x.j = RanksFirst-antisym x.m.priority x.i x.n.priority x.j x.ranks back in
      at_same s x.i d e at_xi (subst (λ k. IsAt s k e) (sym same) at_xj)

  -- a part has one root
  pub root_same : (d r r' : DpId) → IsRoot s d r → IsRoot s d r' → r ≡ r'
  root_same d r r' x y = GoesFirst-antisym r r' (x.first r' y.joined) (y.first r x.joined)

  pub ChosenBefore-antisym : (e f : DpId) (p q : ℕ) → ChosenBefore s e p f q → ChosenBefore s f q e p → (e ≡ f) × (p ≡ q)
  ChosenBefore-antisym e f p q (i, j, at_i, at_j, x) (j', i', at_j', at_i', y) =
      let e_at : i ≡ i' = place_same s is i i' e at_i at_i' in
      let f_at : j ≡ j' = place_same s is j j' f at_j at_j' in
      ⊎_elim
      (λ (a : i < j). ⊎_elim (λ (b : j' < i'). absurd (omega (arith, a, b, e_at, f_at))) (λ (b : (j' ≡ i') × (q ≤ p)). absurd (omega (arith, a, b.0, e_at, f_at))) y)
      (λ (a : (i ≡ j) × (p ≤ q)). ⊎_elim
      (λ (b : j' < i'). absurd (omega (arith, a.0, b, e_at, f_at)))
      (λ (b : (j' ≡ i') × (q ≤ p)). (at_same s i e f at_i (subst (λ k. IsAt s k f) (sym a.0) at_j), omega (arith, a.1, b.1))) y)
      x

  -- there is one next hop
  pub hop_same : (a b : DpId) (p p' : ℕ) (e e' : DpId) (q q' : ℕ) → IsHop s a b p e q → IsHop s a b p' e' q' → (p ≡ p') × (e ≡ e') × (q ≡ q')
  hop_same a b p p' e e' q q' x y =
      let same = ChosenBefore-antisym e e' p p' (x.first p' e' q' y.nearer) (y.first p e q x.nearer) in
      let link : HasLink s a p e' q' = subst (λ k. HasLink s a k e' q') (sym same.1) y.nearer.link in
      (same.1, same.0, (far_end_same s is a p e e' q q' x.nearer.link link).1)
