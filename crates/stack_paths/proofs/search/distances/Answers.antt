use Rattle.std.proofs.Common.{◌≡◌, ◌+◌, ◌≤◌, ℕ, suc, length, List, count_by, is_none, Option, sym, ap, refl, ◌∙◌, subst, arith}
use Rattle.stack_paths.specs.Hops.{Spreads, AreDistances}
use Rattle.stack_paths.proofs.Prefix.{rewritten}
use Rattle.stack_paths.proofs.Levels.{Found, Found-more, AreDistances-found}
use Rattle.stack_paths.proofs.search.distances.Goals as goal

pub levels-preserved : goal.levels-preserved
levels-preserved c =
    let hops = c.args.hops.now in
    let target = c.args.target in
    let level = c.levels.level in
    let items = c.levels.marks.items in
    let new = c.spread.new.marks in
    let before = c.deref_mut.ensures.value in
    let size : length new ≡ c.levels.marks.len = omega (arith, c.spread.auto.marks, ap length before, c.levels.marks.ok.0) in
    let whole = rewritten new items c.levels.marks.len size (sym c.levels.marks.ok.0) in
    let spread = subst (λ (old : List (Option ℕ)). Spreads hops level old new) before c.levels-test.ensures.spreads in
    let next : suc level ≡ level + 1 = omega arith in
    let found = subst (λ (k : ℕ). Found hops target k new) next (Found-more hops target level items c.levels.invariant.found new spread) in
    let fewer = subst (λ (old : List (Option ℕ)). count_by is_none new + 1 ≤ count_by is_none old) before c.levels-test.ensures.falls in
    record {
      len = c.levels.invariant.len;
      found = subst (λ (xs : List (Option ℕ)). Found hops target (level + 1) xs) (sym whole) found;
      levels_left = subst (λ (xs : List (Option ℕ)). level + 1 + count_by is_none xs ≤ 64) (sym whole) (omega (arith, fewer, c.levels.invariant.levels_left));
    }

pub returns-clause-distances : goal.returns-clause-distances
returns-clause-distances c =
    let hops = c.args.hops.now in
    let level = c.levels.level in
    let items = c.levels.marks.items in
    let new = c.spread.new.marks in
    let same = c.levels-test.ensures.unchanged refl ∙ c.deref_mut.ensures.value in
    let whole = rewritten new items c.levels.marks.len (omega (arith, ap length same, c.levels.marks.ok.0)) (sym c.levels.marks.ok.0) in
    let spread = subst (λ (old : List (Option ℕ)). Spreads hops level old items) c.deref_mut.ensures.value (subst (λ (xs : List (Option ℕ)). Spreads hops level c.deref_mut.result.now xs) same c.levels-test.ensures.spreads) in
    subst (λ (xs : List (Option ℕ)). AreDistances hops c.args.target xs) (sym (whole ∙ same)) (AreDistances-found hops c.args.target level items c.levels.invariant.found spread)
