-- How a text is spelled in double quotes.
use Rattle.std.specs.Prelude.{◌≡◌, ◌≢◌, ◌⊎◌, ℕ, ◌+◌, ◌*◌, ◌<◌, true, List, [], ◌∷◌, ◌++◌, Some}
use Rattle.std.specs.List.{list_all}
use Rattle.yaml_subset.specs.Characters.{is_kept}
use Rattle.yaml_subset.specs.Quoted.{hex_digit, utf8_bytes}

-- the escapes of one character, and the byte that each stands for
pub data ShortEscape : (letter byte : ℕ) → Type 0 where
  backslash : ShortEscape 92 92
  quote : ShortEscape 34 34
  line_feed : ShortEscape 110 10
  tab : ShortEscape 116 9
  carriage_return : ShortEscape 114 13

-- a number that is no surrogate: one below 0xd800 or above 0xdfff
abbrev pub IsNoSurrogate : ℕ → Type 0
IsNoSurrogate n = (n < 0xd800) ⊎ (0xdfff < n)

-- an escape and the bytes that it stands for: a short one, `\xHH` up to 0x7f, or `\uHHHH`
pub data IsEscape (spelling bytes : List ℕ) : Type 0 where
  short : (letter byte : ℕ) → ShortEscape letter byte → spelling ≡ 92 ∷ letter ∷ [] → bytes ≡ byte ∷ [] → IsEscape spelling bytes
  low : (a b m n : ℕ) → hex_digit a ≡ Some m → hex_digit b ≡ Some n → m < 8
      → spelling ≡ 92 ∷ 120 ∷ a ∷ b ∷ [] → bytes ≡ utf8_bytes (m * 16 + n) → IsEscape spelling bytes
  unicode : (a b c d m n o p : ℕ) → hex_digit a ≡ Some m → hex_digit b ≡ Some n → hex_digit c ≡ Some o → hex_digit d ≡ Some p
      → IsNoSurrogate (((m * 16 + n) * 16 + o) * 16 + p)
      → spelling ≡ 92 ∷ 117 ∷ a ∷ b ∷ c ∷ d ∷ [] → bytes ≡ utf8_bytes (((m * 16 + n) * 16 + o) * 16 + p) → IsEscape spelling bytes

-- a character that is neither a quote nor a backslash stands for itself, and an escape for its bytes
pub data IsPiece (spelling bytes : List ℕ) : Type 0 where
  character : (c : ℕ) → c ≢ 34 → c ≢ 92 → spelling ≡ c ∷ [] → bytes ≡ c ∷ [] → IsPiece spelling bytes
  escape : IsEscape spelling bytes → IsPiece spelling bytes

-- characters and escapes, one behind the other, and the text that they stand for
pub data IsSpelled : (spelling text : List ℕ) → Type 0 where
  spelled_none : IsSpelled [] []
  spelled_more : (piece bytes more text : List ℕ) → IsPiece piece bytes → IsSpelled more text → IsSpelled (piece ++ more) (bytes ++ text)

-- behind an opening quote: the text as it is spelled, the closing quote, and what follows
pub record IsDoubleQuoted (rest text after : List ℕ) : Type 0 where
  pub spelling : List ℕ
  pub spelled : IsSpelled spelling text
  pub kept : list_all is_kept spelling ≡ true
  pub whole : rest ≡ spelling ++ 34 ∷ after

-- the bytes begin an escape
pub record BeginsEscape (front : List ℕ) : Type 0 where
  pub more : List ℕ
  pub bytes : List ℕ
  pub is : IsEscape (front ++ more) bytes

-- the bytes begin an escape, and are none yet
pub record IsUnfinished (front : List ℕ) : Type 0 where
  pub next : ℕ
  pub begins : BeginsEscape (front ++ next ∷ [])
