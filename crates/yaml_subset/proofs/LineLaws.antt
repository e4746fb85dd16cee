use Rattle.std.proofs.Common.{ℕ, ◌+◌, ◌≤◌, ◌==◌, Bool, List, [], ◌∷◌, length, arith, true, false, cond}
use Rattle.std.specs.List.{slice_split}
use Rattle.std.specs.Str.Lines.{lines, lines_of_parts}
use Rattle.std.proofs.lemmas.List.Sums.{count_by-le-length}
use Rattle.std.proofs.lemmas.List.Splits.{length-slice_split}

parts_at_most : (parts : List (List ℕ)) → length (lines_of_parts parts) ≤ length parts
parts_at_most [] = omega arith
parts_at_most (x ∷ []) = few (length x == 0)
  where
    few : (b : Bool) → length (cond b [] (x ∷ [])) ≤ 1
    few true = omega arith
    few false = omega arith
parts_at_most (x ∷ y ∷ more) = omega (arith, parts_at_most (y ∷ more))

-- a text has no more lines than bytes, and one
pub lines_at_most : (text : List ℕ) → length (lines text) ≤ length text + 1
lines_at_most text = omega (arith, parts_at_most (slice_split (λ b. b == 10) text), length-slice_split (λ b. b == 10) text, count_by-le-length (λ b. b == 10) text)
