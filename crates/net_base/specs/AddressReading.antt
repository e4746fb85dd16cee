-- Reading addresses, as functions of the text.
use Rattle.std.specs.Prelude.{◌≡◌, ℕ, ◌+◌, ◌-◌, ◌*◌, ◌^◌, List, [], ◌∷◌, length, Option, Some, None, nat_le, ◌==◌, if◌then◌else◌}
use Rattle.std.specs.Char.{digit_value, is_ascii_digit, is_ascii_hexdigit}
use Rattle.std.specs.Int.{is_in_range}
use Rattle.std.specs.Borrow.{Bor}
use Rattle.net_base.specs.declared.address.Mac.{Mac}

infixl 10 ◌>>=◌
abbrev pub ◌>>=◌ : {A B : Type 0} → Option A → (A → Option B) → Option B
None >>= f = None
(Some x) >>= f = f x

-- a found value with the bytes behind it, which a function lends
abbrev pub Lends : Option (ℕ × Bor (List ℕ)) → Option (ℕ × List ℕ) → Type 0
Lends None read = read ≡ None
Lends (Some x) read = read ≡ Some (x.0, x.1.now)

-- what a function found
abbrev pub IsRead : {A : Type 0} → Option A → Option A → Type 0
IsRead found read = found ≡ read

-- an address and its bytes
abbrev pub IsMac : Option Mac → Option (List ℕ) → Type 0
IsMac None read = read ≡ None
IsMac (Some mac) read = read ≡ Some mac.0

abbrev pub hex_of : ℕ → Option ℕ
hex_of b = if is_ascii_hexdigit b then Some (digit_value b) else None

abbrev pub digit_of : ℕ → Option ℕ
digit_of b = if is_ascii_digit b then Some (b - 48) else None

abbrev pub first_digit_of : ℕ → Option ℕ
first_digit_of b = if is_in_range 49 57 b then Some (b - 48) else None

-- two hexadecimal digits
unfoldable pub pair_at : List ℕ → Option (ℕ × List ℕ)
pair_at (a ∷ b ∷ rest) = hex_of a >>= λ high. hex_of b >>= λ low. Some (16 * high + low, rest)
pair_at _ = None

-- a colon and two digits
unfoldable pub next_at : List ℕ → Option (ℕ × List ℕ)
next_at [] = None
next_at (c ∷ rest) = if c == 58 then pair_at rest else None

unfoldable pub spelled_mac : List ℕ → Option (List ℕ)
spelled_mac text = do
  a ← pair_at text
  b ← next_at a.1
  c ← next_at b.1
  d ← next_at c.1
  e ← next_at d.1
  f ← next_at e.1
  if length f.1 == 0 then Some (a.0 ∷ b.0 ∷ c.0 ∷ d.0 ∷ e.0 ∷ f.0 ∷ []) else None

-- a decimal number without leading zeros, below 1000
unfoldable pub number_of : List ℕ → Option ℕ
number_of (a ∷ []) = digit_of a
number_of (a ∷ b ∷ []) = first_digit_of a >>= λ tens. digit_of b >>= λ ones. Some (10 * tens + ones)
number_of (a ∷ b ∷ c ∷ []) = first_digit_of a >>= λ hundreds. digit_of b >>= λ tens. digit_of c >>= λ ones. Some (100 * hundreds + 10 * tens + ones)
number_of _ = None

unfoldable pub number_up_to : ℕ → List ℕ → Option ℕ
number_up_to most bytes = number_of bytes >>= λ n. if nat_le n most then Some n else None

-- the bytes before the first mark, and those behind it
abbrev pub cut_at : ℕ → List ℕ → Option (List ℕ × List ℕ)
cut_at mark [] = None
cut_at mark (b ∷ bs) = if b == mark then Some ([], bs) else cut_at mark bs >>= λ cut. Some (b ∷ cut.0, cut.1)

-- what is cut is lent
abbrev pub Cuts : Option (Bor (List ℕ) × Bor (List ℕ)) → Option (List ℕ × List ℕ) → Type 0
Cuts None read = read ≡ None
Cuts (Some x) read = read ≡ Some (x.0.now, x.1.now)

unfoldable pub ip4_of : List ℕ → Option ℕ
ip4_of text = do
  first ← cut_at 46 text
  second ← cut_at 46 first.1
  third ← cut_at 46 second.1
  a ← number_up_to 255 first.0
  b ← number_up_to 255 second.0
  c ← number_up_to 255 third.0
  d ← number_up_to 255 third.1
  Some (2 ^ 24 * a + 2 ^ 16 * b + 2 ^ 8 * c + d)

unfoldable pub net4_of : List ℕ → Option (ℕ × ℕ)
net4_of text = do
  parts ← cut_at 47 text
  ip ← ip4_of parts.0
  len ← number_up_to 32 parts.1
  Some (ip, len)
