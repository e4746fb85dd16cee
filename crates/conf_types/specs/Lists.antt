-- Words on lists and texts.
use Rattle.std.specs.Prelude.{◌≡◌, ℕ, ◌+◌, ◌==◌, ◌≤◌, Bool, List, [], ◌∷◌, length, if◌then◌else◌}
use Rattle.std.specs.List.{AllByRecursion, list_any}
use Rattle.std.specs.declared.cmp.Ordering.TheVariants.{Less}
use Rattle.std.specs.Ordering.{nat_cmp, is_eq}
use Rattle.std.specs.Cmp.Lexicographic.{slice_cmp}

-- each stands so to every one behind it
abbrev pub EachBefore : {A : Type 0} → (A → A → Type 0) → List A → Type 0
EachBefore R [] = Unit {0}
EachBefore R (x ∷ xs) = AllByRecursion (R x) xs × EachBefore R xs

-- no two are equal
abbrev pub AreDistinct : {A : Type 0} → List A → Type 0
AreDistinct xs = EachBefore (λ x y. x ≡ y → ⊥) xs

-- the number is one of these
abbrev pub is_among : List ℕ → ℕ → Bool
is_among xs n = list_any (λ x. x == n) xs

-- how many different numbers there are
abbrev pub different : List ℕ → ℕ
different [] = 0
different (x ∷ xs) = (if is_among xs x then 0 else 1) + different xs

-- the text comes first in the order of bytes
abbrev pub IsTextBefore : List ℕ → List ℕ → Type 0
IsTextBefore a b = slice_cmp nat_cmp a b ≡ Less

-- two texts or addresses have the same bytes
abbrev pub is_same : List ℕ → List ℕ → Bool
is_same a b = is_eq (slice_cmp nat_cmp a b)

-- a name or a description has 1 to 255 bytes
pub record IsLabel (text : List ℕ) : Type 0 where
  pub least : 1 ≤ length text
  pub most : length text ≤ 255
