use Rattle.std.proofs.Common.{◌≡◌, ℕ, ◌<◌, length, Some}
use Rattle.stack_paths.specs.Hops.{answer_at}
use Rattle.stack_paths.specs.Trees.{PlaceRanksFirst}
use Rattle.stack_paths.proofs.roots.root_among.Given as goal

abbrev pub invariant-loop-place : goal.invariant-loop-place
invariant-loop-place l = record {
  within : l.root < length l.nodes;
  joined : (n : ℕ) × (answer_at l.distances l.root ≡ Some n);
  first : (j : ℕ) → j < l.place → (n : ℕ) → answer_at l.distances j ≡ Some n → PlaceRanksFirst l.nodes l.root j;
}
