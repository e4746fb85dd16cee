use Rattle.std.proofs.Common.{◌≡◌, ℕ, ◌<◌, Some}
use Rattle.std.specs.Prelude.{slice_get}
use Rattle.stack_paths.specs.Stack.{ids}
use Rattle.stack_paths.proofs.hops.place_of.Given as goal

-- no place before this one has the datapath
abbrev pub invariant-loop-place : goal.invariant-loop-place
invariant-loop-place l = (k : ℕ) → k < l.place → slice_get (ids l.nodes) k ≡ Some l.dp → ⊥
