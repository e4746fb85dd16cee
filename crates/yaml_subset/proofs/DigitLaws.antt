use Rattle.std.proofs.Common.{◌≡◌, ℕ, zero, suc, ◌+◌, ◌*◌, ◌<◌, ◌≤◌, nat_le, Bool, true, false, cond, List, [], ◌∷◌, Some, None, refl, arith, unwrap_or}
use Rattle.std.specs.Option.{option_and_then}
use Rattle.std.proofs.lemmas.Bool.Decides.{nat_tests}
use Rattle.yaml_subset.specs.Quoted.{hex_digit}
use Rattle.yaml_subset.specs.Numbers.{greatest, grown, magnitude}
use Rattle.yaml_subset.specs.DigitLaws.{digits_value, IsMagnitude}

at_least : (m base : ℕ) → 0 < base → m ≤ m * base
at_least m zero h = absurd (omega arith)
at_least m (suc b) h = omega arith

value_least : (ds : List ℕ) (base m : ℕ) → 0 < base → m ≤ digits_value base m ds
unfolding digits_value
value_least [] base m h = omega arith
value_least (d ∷ ds) base m h = omega (arith, at_least m base h, value_least ds base (m * base + unwrap_or (hex_digit d) 0) h)

by_test : (n : ℕ) (b : Bool) (base : ℕ) (ds : List ℕ) → nat_le n greatest ≡ b → 0 < base
    → IsMagnitude (magnitude base n ds) (digits_value base n ds)
    → IsMagnitude (option_and_then (λ m. magnitude base m ds) (cond b (Some n) None)) (digits_value base n ds)
by_test n true base ds e h later = later
by_test n false base ds e h later = let over : greatest < n = grind (arith, nat_tests) in omega (arith, value_least ds base n h)

pub magnitude_is : (ds : List ℕ) (base m : ℕ) → 0 < base → IsMagnitude (magnitude base m ds) (digits_value base m ds)
unfolding magnitude grown digits_value
magnitude_is [] base m h = refl
magnitude_is (d ∷ ds) base m h = by_test (m * base + unwrap_or (hex_digit d) 0) _ base ds refl h (magnitude_is ds base (m * base + unwrap_or (hex_digit d) 0) h)
