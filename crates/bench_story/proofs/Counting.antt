-- Counts of what was said, where more is said.
use Rattle.std.proofs.Common.{◌≡◌, ℕ, ◌+◌, ◌%◌, ◌^◌, cond, List, ◌++◌, arith, sum}
use Rattle.std.proofs.lemmas.List.Sums.{sum_by-append}
use Rattle.ctl_life.specs.declared.saying.Saying.{Saying}
use Rattle.bench_story.specs.Counted.{bytes_by, count_of, is_of, total}

-- a sum in 32 bits goes on from what it came to so far
pub onward : (before first next : ℕ) → ((before + first) % 2 ^ 32 + next) % 2 ^ 32 ≡ (before + (first + next)) % 2 ^ 32
onward before first next = omega arith

pub rest : (before next : ℕ) → (before % 2 ^ 32 + next) % 2 ^ 32 ≡ (before + next) % 2 ^ 32
rest before next = omega arith

pub count-append : (kind : ℕ) (said more : List Saying) → count_of kind (said ++ more) ≡ count_of kind said + count_of kind more
unfolding count_of
count-append kind said more = sum_by-append (λ (s : Saying). cond (is_of kind s) 1 0) said more

pub total-append : (said more : List Saying) → total (said ++ more) ≡ total said + total more
unfolding total
total-append said more = sum_by-append (λ (s : Saying). sum (bytes_by s)) said more
