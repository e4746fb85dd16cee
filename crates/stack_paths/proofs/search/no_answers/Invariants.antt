use Rattle.std.proofs.Common.{◌≡◌, ℕ, None, vec_len}
use Rattle.stack_paths.specs.Hops.{answer_at}
use Rattle.stack_paths.proofs.search.no_answers.Given as goal

abbrev pub invariant-loop-i : goal.invariant-loop-i
invariant-loop-i g l = (vec_len l.answers ≡ l._i) × ((k : ℕ) → answer_at l.answers.items k ≡ None)
