use Rattle.std.proofs.Common.{◌≡◌, ℕ, Bool, true, false, List, refl}
use Rattle.std.specs.Str.{IsUtf8, is_utf8}
use Rattle.std.proofs.lemmas.Str.{IsUtf8-from_is_utf8, is_utf8-from_IsUtf8, utf8_valid_len-IsValidUpTo}

false_unless_true : (b : Bool) → ¬ (b ≡ true) → b ≡ false
false_unless_true true h = absurd (h refl)
false_unless_true false h = refl

-- what is no UTF-8 fails the test
pub is_utf8-not : (bs : List ℕ) → ¬ (IsUtf8 bs) → is_utf8 bs ≡ false
is_utf8-not bs h = false_unless_true (is_utf8 bs) (λ t. h (IsUtf8-from_is_utf8 bs t))

-- what reading bytes as UTF-8 tells
pub ruleset valid_lens = (is_utf8-from_IsUtf8, is_utf8-not, utf8_valid_len-IsValidUpTo)
