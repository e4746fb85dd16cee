use Rattle.std.proofs.Common.{◌≡◌, ℕ, ◌+◌, ◌<◌, ◌≤◌, List, length, get_or, set, take, Some, None, Option, sym, refl, subst, ◌∙◌, inl, inr, ⊎_elim, arith}
use Rattle.std.specs.Prelude.{Contains, IsSomeAnd, IfSome}
use Rattle.std.proofs.lemmas.Bool.{cases_eq}
use Rattle.std.proofs.lemmas.Option.{none-some, same_Some}
use Rattle.std.proofs.lemmas.List.{get_or-set_same, get_or-set_other}
use Rattle.stack_paths.specs.declared.hops.Hop.{Hop}
use Rattle.stack_paths.specs.Hops.{answer_at, LeadsDown, ComesBefore, AreFirst}
use Rattle.stack_paths.proofs.Prefix.{contains_none, contains_later, contains_last, contains_cases}

pub ComesBefore-refl : (g : Hop) → ComesBefore g g
ComesBefore-refl g = inr (refl, omega arith)

pub ComesBefore-trans : (f g h : Hop) → ComesBefore f g → ComesBefore g h → ComesBefore f h
ComesBefore-trans f g h a b =
    ⊎_elim
    (λ (x : f.to < g.to). ⊎_elim (λ (y : g.to < h.to). inl (omega arith)) (λ (y : (g.to ≡ h.to) × (g.port ≤ h.port)). inl (omega arith)) b)
    (λ (x : (f.to ≡ g.to) × (f.port ≤ g.port)). ⊎_elim (λ (y : g.to < h.to). inl (omega arith)) (λ (y : (g.to ≡ h.to) × (g.port ≤ h.port)). inr (omega arith, omega arith)) b)
    a

-- nothing is chosen from no hop
pub AreFirst-none : (hops : List Hop) (distances : List (Option ℕ)) (best : List (Option Hop)) → ((i : ℕ) → answer_at best i ≡ None) → AreFirst (take 0 hops) distances best
AreFirst-none hops distances best empty = record {
  sound = λ i g e. absurd (none-some g (sym (empty i) ∙ e));
  first = λ h c down. absurd (contains_none h c);
}

module _ (hops : List Hop) (distances : List (Option ℕ)) (best : List (Option Hop)) (i : ℕ) (hop : Hop) (within : i < length hops) (is : hop ≡ get_or hops i hop) (so_far : AreFirst (take i hops) distances best) where
  -- one more hop, that doesn't lead nearer or comes behind the chosen one
  pub AreFirst-skip : (LeadsDown distances hop → (g : Hop) × (answer_at best hop.from ≡ Some g) × ComesBefore g hop) → AreFirst (take (i + 1) hops) distances best
  AreFirst-skip behind = record {
    sound = λ j g e. let s = so_far.sound j g e in (contains_later hops i hop g within is s.0, s.1, s.2);
    first = λ h c down. ⊎_elim
        (λ (before : Contains (take i hops) h). so_far.first h before down)
        (λ (same : hop ≡ h). subst (λ (x : Hop). (g : Hop) × (answer_at best x.from ≡ Some g) × ComesBefore g x) same (behind (subst (λ (x : Hop). LeadsDown distances x) (sym same) down)))
        (contains_cases hops i hop h within is c);
  }

  -- one more hop, that is chosen
  pub AreFirst-take : hop.from < length best → LeadsDown distances hop → ((g : Hop) → answer_at best hop.from ≡ Some g → ComesBefore hop g) → AreFirst (take (i + 1) hops) distances (set best hop.from (Some hop))
  AreFirst-take room leads better = record { sound = sounds; first = firsts } where
    here : answer_at (set best hop.from (Some hop)) hop.from ≡ Some hop
    here = get_or-set_same best hop.from (Some hop) None room

    sounds : (j : ℕ) (g : Hop) → answer_at (set best hop.from (Some hop)) j ≡ Some g → Contains (take (i + 1) hops) g × (g.from ≡ j) × LeadsDown distances g
    sounds j g e = ⊎_elim
        (λ (same : j ≡ hop.from).
        let there : answer_at (set best hop.from (Some hop)) hop.from ≡ Some g = subst (λ k. answer_at (set best hop.from (Some hop)) k ≡ Some g) same e in
        let it : hop ≡ g = same_Some hop g (sym here ∙ there) in
        subst (λ (x : Hop). Contains (take (i + 1) hops) x × (x.from ≡ j) × LeadsDown distances x) it (contains_last hops i hop within is, sym same, leads))
        (λ (apart : j ≡ hop.from → ⊥).
        let s = so_far.sound j g (sym (get_or-set_other best hop.from j (Some hop) None apart) ∙ e) in
        (contains_later hops i hop g within is s.0, s.1, s.2))
        (cases_eq j hop.from)

    firsts : (h : Hop) → Contains (take (i + 1) hops) h → LeadsDown distances h → (g : Hop) × (answer_at (set best hop.from (Some hop)) h.from ≡ Some g) × ComesBefore g h
    firsts h c down = ⊎_elim
        (λ (before : Contains (take i hops) h).
        let g = so_far.first h before down in
        ⊎_elim
        (λ (same : h.from ≡ hop.from).
        let old : answer_at best hop.from ≡ Some g.0 = subst (λ k. answer_at best k ≡ Some g.0) same g.1 in
        (hop, subst (λ k. answer_at (set best hop.from (Some hop)) k ≡ Some hop) (sym same) here, ComesBefore-trans hop g.0 h (better g.0 old) g.2))
        (λ (apart : h.from ≡ hop.from → ⊥). (g.0, get_or-set_other best hop.from h.from (Some hop) None apart ∙ g.1, g.2))
        (cases_eq h.from hop.from))
        (λ (same : hop ≡ h). subst (λ (x : Hop). (g : Hop) × (answer_at (set best hop.from (Some hop)) x.from ≡ Some g) × ComesBefore g x) same (hop, here, ComesBefore-refl hop))
        (contains_cases hops i hop h within is c)

-- what a clause says of the value in an answer
pub some_and : {X : Type 0} (o : Option X) (P : X → Type 0) → IsSomeAnd o P → (x : X) × (o ≡ Some x) × P x
some_and (Some x) P h = (x, refl, h)
some_and None P h = absurd h

pub if_some : {X : Type 0} (o : Option X) (P : X → Type 0) → IfSome o P → (x : X) → o ≡ Some x → P x
if_some (Some y) P h x e = subst P (same_Some y x e) h
if_some None P h x e = absurd (none-some x e)
