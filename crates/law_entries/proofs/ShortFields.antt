-- A match that a switch accepts has at most 32 fields: their numbers rise, and are below 32.
use Rattle.std.specs.Prelude.{ℕ, ◌+◌, ◌≤◌, ◌<◌, List, [], ◌∷◌, length}
use Rattle.std.specs.List.{AllByRecursion}
use Rattle.std.proofs.Common.{arith}
use Rattle.net_base.specs.declared.field.Field.{Field}
use Rattle.net_base.specs.FieldId.{number_of}
use Rattle.net_base.specs.WellFormed.{AreAscending}
use Rattle.net_base.proofs.Rows.{low_number}

above : (n : ℕ) (fields : List Field) → n < 32 → AllByRecursion (λ g. n < number_of g.id) fields → AreAscending fields → length fields + n < 32
above n [] small all rises = omega (arith, small)
above n (f ∷ more) small all rises =
    let first = all.0 in
    let rest = above (number_of f.id) more (low_number f.id) rises.0 rises.1 in
    omega (arith, first, rest)

pub few_fields : (fields : List Field) → AreAscending fields → length fields ≤ 32
few_fields [] rises = omega arith
few_fields (f ∷ more) rises = let rest = above (number_of f.id) more (low_number f.id) rises.0 rises.1 in omega (arith, rest)
