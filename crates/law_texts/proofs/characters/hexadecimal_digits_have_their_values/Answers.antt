use Rattle.std.proofs.Common.{◌≡◌, ◌⊎◌, inl, inr, ℕ, ◌<◌, nat_le, ◌&&◌, false, None, refl, arith}
use Rattle.std.proofs.lemmas.Bool.Decides.{nat_tests}
use Rattle.yaml_subset.specs.Quoted.{hex_digit}
use Rattle.law_texts.specs.Numbers.{IsNoHexDigit}
use Rattle.law_texts.proofs.characters.hexadecimal_digits_have_their_values.Goals as goal

outside : (low c high : ℕ) → (c < low) ⊎ (high < c) → (nat_le low c && nat_le c high) ≡ false
outside low c high (inl l) = grind (arith, nat_tests)
outside low c high (inr l) = grind (arith, nat_tests)

no_digit : (c : ℕ) → IsNoHexDigit c → hex_digit c ≡ None
no_digit c none = rw (outside 48 c 57 (in_digits none), outside 97 c 102 (in_lower none), outside 65 c 70 (in_upper none)) refl
  where
    in_digits : IsNoHexDigit c → (c < 48) ⊎ (57 < c)
    in_digits (inl l) = inl l
    in_digits (inr (inl l)) = inr l.0
    in_digits (inr (inr (inl l))) = inr (omega (arith, l.0))
    in_digits (inr (inr (inr l))) = inr (omega arith)

    in_lower : IsNoHexDigit c → (c < 97) ⊎ (102 < c)
    in_lower (inl l) = inl (omega arith)
    in_lower (inr (inl l)) = inl (omega (arith, l.1))
    in_lower (inr (inr (inl l))) = inl l.1
    in_lower (inr (inr (inr l))) = inr l

    in_upper : IsNoHexDigit c → (c < 65) ⊎ (70 < c)
    in_upper (inl l) = inl (omega arith)
    in_upper (inr (inl l)) = inl l.1
    in_upper (inr (inr (inl l))) = inr l.0
    in_upper (inr (inr (inr l))) = inr (omega arith)

pub returns : goal.returns
returns c = record { digits = refl; lower = refl; upper = refl; none = no_digit }
