use Rattle.std.proofs.Common.{◌≡◌, ℕ, zero, suc, ◌+◌, ◌<◌, ◌≤◌, List, length, get_or, set, take, Some, None, Option, sym, refl, ap, subst, ◌∙◌, inl, inr, ⊎_elim, arith, cond}
use Rattle.std.specs.Prelude.{◌⊎◌, Contains, count_by, is_none}
use Rattle.std.proofs.lemmas.Bool.{cases_lt, cases_eq}
use Rattle.std.proofs.lemmas.Option.{none-some, same_Some}
use Rattle.std.proofs.lemmas.List.Sums.{sum_by-set}
use Rattle.std.proofs.lemmas.List.{get_or-set_same, get_or-set_other}
use Rattle.stack_paths.specs.declared.hops.Hop.{Hop}
use Rattle.stack_paths.specs.Hops.{answer_at, WalkAt, Spreads, AreDistances}
use Rattle.stack_paths.proofs.Prefix.{contains_none, contains_later, contains_last, contains_cases}

-- no hop is looked at yet
pub Spreads-none : (hops : List Hop) (level : ℕ) (old : List (Option ℕ)) → Spreads (take 0 hops) level old old
Spreads-none hops level old = record {
  keeps = λ i n e. e;
  adds = λ i n e. inl e;
  marks = λ h c e. absurd (contains_none h c);
}

module _ (hops : List Hop) (level : ℕ) (old new : List (Option ℕ)) (i : ℕ) (hop : Hop) (within : i < length hops) (is : hop ≡ get_or hops i hop) (so_far : Spreads (take i hops) level old new) where
  -- what has this level has had it before
  pub level_stays : (j : ℕ) → answer_at new j ≡ Some level → answer_at old j ≡ Some level
  level_stays j e = ⊎_elim (λ h. h) (λ h. absurd (omega (arith, h.0))) (so_far.adds j level e)

  -- one more hop, from a place that is marked, or not to a place at this level
  pub Spreads-skip : (answer_at old hop.to ≡ Some level → (n : ℕ) × (answer_at new hop.from ≡ Some n)) → Spreads (take (i + 1) hops) level old new
  Spreads-skip skips = record {
    keeps = so_far.keeps;
    adds = λ j n e. ⊎_elim inl (λ h. inr (h.0, (h.1.0, contains_later hops i hop h.1.0 within is h.1.1, h.1.2, h.1.3))) (so_far.adds j n e);
    marks = λ h c e. ⊎_elim
        (λ (before : Contains (take i hops) h). so_far.marks h before e)
        (λ (same : hop ≡ h). subst (λ (x : Hop). (n : ℕ) × (answer_at new x.from ≡ Some n)) same (skips (subst (λ (x : Hop). answer_at old x.to ≡ Some level) (sym same) e)))
        (contains_cases hops i hop h within is c);
  }

  -- one more hop, from a place that gets its mark
  pub Spreads-mark : (v : ℕ) → v ≡ suc level → hop.from < length new → answer_at new hop.from ≡ None → answer_at old hop.to ≡ Some level → Spreads (take (i + 1) hops) level old (set new hop.from (Some v))
  Spreads-mark v v_is room empty leads = record {
    keeps = λ j n e. kept j n (so_far.keeps j n e);
    adds = λ j n e. ⊎_elim
        (λ (same : j ≡ hop.from). inr (added j n same e, (hop, contains_last hops i hop within is, sym same, leads)))
        (λ (apart : j ≡ hop.from → ⊥). ⊎_elim inl (λ h. inr (h.0, (h.1.0, contains_later hops i hop h.1.0 within is h.1.1, h.1.2, h.1.3))) (so_far.adds j n (sym (get_or-set_other new hop.from j (Some v) None apart) ∙ e)))
        (cases_eq j hop.from);
    marks = λ h c e. ⊎_elim
        (λ (before : Contains (take i hops) h). let m = so_far.marks h before e in (m.0, kept h.from m.0 m.1))
        (λ (same : hop ≡ h). (v, subst (λ (x : Hop). answer_at (set new hop.from (Some v)) x.from ≡ Some v) same (get_or-set_same new hop.from (Some v) None room)))
        (contains_cases hops i hop h within is c);
  } where
    kept : (j n : ℕ) → answer_at new j ≡ Some n → answer_at (set new hop.from (Some v)) j ≡ Some n
    kept j n e = ⊎_elim
        (λ (same : j ≡ hop.from). absurd (none-some n (sym empty ∙ subst (λ k. answer_at new k ≡ Some n) same e)))
        (λ (apart : j ≡ hop.from → ⊥). get_or-set_other new hop.from j (Some v) None apart ∙ e)
        (cases_eq j hop.from)

    added : (j n : ℕ) → j ≡ hop.from → answer_at (set new hop.from (Some v)) j ≡ Some n → n ≡ suc level
    added j n same e =
        let here = get_or-set_same new hop.from (Some v) None room in
        let there : answer_at (set new hop.from (Some v)) hop.from ≡ Some n = subst (λ k. answer_at (set new hop.from (Some v)) k ≡ Some n) same e in
        same_Some n v (sym there ∙ here) ∙ v_is

-- the search has found each walk of at most `level` hops
pub record Found (hops : List Hop) (target level : ℕ) (marks : List (Option ℕ)) : Type 0 where
  pub walk : (i n : ℕ) → answer_at marks i ≡ Some n → (n ≤ level) × WalkAt hops target i n
  pub least : (i m : ℕ) → m ≤ level → WalkAt hops target i m → (n : ℕ) × (n ≤ m) × (answer_at marks i ≡ Some n)

-- at first only the target is marked
pub Found-start : (hops : List Hop) (target : ℕ) (marks : List (Option ℕ)) → answer_at marks target ≡ Some 0 → ((i n : ℕ) → answer_at marks i ≡ Some n → (i ≡ target) × (n ≡ 0)) → Found hops target 0 marks
Found-start hops target marks here only = record {
  walk = λ i n e. let o = only i n e in (omega (arith, o.1), subst (WalkAt hops target i) (sym o.1) o.0);
  least = λ i m low w. let zero' : m ≡ 0 = omega arith in let at : i ≡ target = subst (WalkAt hops target i) zero' w in (0, omega arith, subst (λ k. answer_at marks k ≡ Some 0) (sym at) here);
}

module _ (hops : List Hop) (target level : ℕ) (marks : List (Option ℕ)) (found : Found hops target level marks) where
  -- a place before one that is marked below this level is marked, and at most one higher
  nearer_found : (h : Hop) → Contains hops h → (n : ℕ) → answer_at marks h.to ≡ Some n → n < level → (k : ℕ) × (k ≤ suc n) × (answer_at marks h.from ≡ Some k)
  nearer_found h c n e low = found.least h.from (suc n) (omega arith) (h, c, refl, (found.walk h.to n e).1)

  -- one more level
  pub Found-more : (new : List (Option ℕ)) → Spreads hops level marks new → Found hops target (suc level) new
  Found-more new spread = record {
    walk = walks;
    least = leasts;
  } where
    walks : (i n : ℕ) → answer_at new i ≡ Some n → (n ≤ suc level) × WalkAt hops target i n
    walks i n e = ⊎_elim
        (λ (before : answer_at marks i ≡ Some n). let w = found.walk i n before in (omega (arith, w.0), w.1))
        (λ (now : (n ≡ suc level) × ((h : Hop) × Contains hops h × (h.from ≡ i) × (answer_at marks h.to ≡ Some level))).
        (omega (arith, now.0), subst (WalkAt hops target i) (sym now.0) (now.1.0, now.1.1, now.1.2, (found.walk now.1.0.to level now.1.3).1)))
        (spread.adds i n e)

    old_ones : (i m : ℕ) → (n : ℕ) × (n ≤ m) × (answer_at marks i ≡ Some n) → (n : ℕ) × (n ≤ m) × (answer_at new i ≡ Some n)
    old_ones i m f = (f.0, f.1, spread.keeps i f.0 f.2)

    leasts : (i m : ℕ) → m ≤ suc level → WalkAt hops target i m → (n : ℕ) × (n ≤ m) × (answer_at new i ≡ Some n)
    leasts i zero low w = old_ones i zero (found.least i zero (omega arith) w)
    leasts i (suc m) low (h, c, from, w) =
        let next = found.least h.to m (omega arith) w in
        subst (λ k. (n : ℕ) × (n ≤ suc m) × (answer_at new k ≡ Some n)) from
        (⊎_elim
        (λ (low' : next.0 < level). let b = nearer_found h c next.0 next.2 low' in (b.0, omega (arith, b.1, next.1), spread.keeps h.from b.0 b.2))
        (λ (high : level ≤ next.0).
        let level_is : next.0 ≡ level = omega (arith, high, next.1, low) in
        let marked = spread.marks h c (subst (λ k. answer_at marks h.to ≡ Some k) level_is next.2) in
        (marked.0, omega (arith, (walks h.from marked.0 marked.1).0, high, next.1), marked.1))
        (cases_lt next.0 level))

  -- where one more level marks nothing, each walk is found
  pub AreDistances-found : Spreads hops level marks marks → AreDistances hops target marks
  AreDistances-found spread = record { walk = λ i n e. (found.walk i n e).1; least = leasts } where
    leasts : (i m : ℕ) → WalkAt hops target i m → (n : ℕ) × (n ≤ m) × (answer_at marks i ≡ Some n)
    leasts i zero w = found.least i zero (omega arith) w
    leasts i (suc m) (h, c, from, w) =
        let next = leasts h.to m w in
        subst (λ k. (n : ℕ) × (n ≤ suc m) × (answer_at marks k ≡ Some n)) from
        (⊎_elim
        (λ (low : next.0 < level). let b = nearer_found h c next.0 next.2 low in (b.0, omega (arith, b.1, next.1), b.2))
        (λ (high : level ≤ next.0).
        let level_is : next.0 ≡ level = omega (arith, high, (found.walk h.to next.0 next.2).0) in
        let marked = spread.marks h c (subst (λ k. answer_at marks h.to ≡ Some k) level_is next.2) in
        (marked.0, omega (arith, (found.walk h.from marked.0 marked.1).0, high, next.1), marked.1))
        (cases_lt next.0 level))

-- a mark leaves one place fewer without
pub unmarked-mark : (marks : List (Option ℕ)) (i v : ℕ) → i < length marks → answer_at marks i ≡ None → count_by is_none (set marks i (Some v)) + 1 ≡ count_by is_none marks
unmarked-mark marks i v room empty =
    let f : Option ℕ → ℕ = λ o. cond (is_none o) 1 0 in
    let sums = sum_by-set f marks i (Some v) None room in
    let one : f (answer_at marks i) ≡ 1 = ap f empty in
    omega (arith, sums, one)

-- an answer is there or it isn't
pub some_or_none : {X : Type 0} (o : Option X) → ((x : X) × (o ≡ Some x)) ⊎ (o ≡ None)
some_or_none (Some x) = inl (x, refl)
some_or_none None = inr refl
