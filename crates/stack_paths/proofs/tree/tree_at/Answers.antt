use Rattle.std.proofs.Common.{◌≡◌, ℕ, List, sym, subst, eqb}
use Rattle.std.specs.Prelude.{Contains}
use Rattle.std.specs.List.{dedup}
use Rattle.std.specs.List.Sorted.{IsStrictlyIncreasing}
use Rattle.std.proofs.lemmas.List.Filters.{dedup_is}
use Rattle.std.proofs.lemmas.List.Kept.{Contains-dedup_nat, Contains-from_dedup}
use Rattle.std.proofs.lemmas.List.Sorted.{Contains-permutation, IsPermutation-sym}
use Rattle.std.proofs.lemmas.Map.Keys.{IsStrictlyIncreasing-dedup}
use Rattle.stack_paths.proofs.tree.tree_at.Goals as goal

pub returns : goal.returns
returns c =
    let found = c.in_ok-ports.ports.items in
    let sorted = c.sort_unstable.new.self.items in
    let moved = c.sort_unstable.ensures.permutation in
    let made : c.dedup.new.self.items ≡ dedup eqb sorted = dedup_is eqb sorted c.dedup.new.self.items c.dedup.ensures.filtered in
    record {
      ends = λ p.
          let before = c.in_ok-ports.ensures p in (
            λ x. before.0 (Contains-permutation sorted found p (IsPermutation-sym found sorted moved) (Contains-from_dedup eqb sorted p (subst (λ (xs : List ℕ). Contains xs p) made x))),
            λ e. subst (λ (xs : List ℕ). Contains xs p) (sym made) (Contains-dedup_nat sorted p (Contains-permutation found sorted p moved (before.1 e))),
          );
      ascending = subst IsStrictlyIncreasing (sym made) (IsStrictlyIncreasing-dedup sorted c.sort_unstable.ensures.sorted);
    }
