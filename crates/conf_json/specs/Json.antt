-- JSON texts without spaces (RFC 8259).
use Rattle.std.specs.Prelude.{ℕ, List, [], ◌∷◌, ◌++◌, Bool, true, false, ◌==◌, ◌||◌, nat_lt, if◌then◌else◌, codes, fold, flat_map}
use Rattle.std.specs.List.{join_by}
use Rattle.std.specs.Ordering.{nat_cmp, match_ordering}
use Rattle.std.specs.Cmp.Lexicographic.{slice_cmp}
use Rattle.net_base.specs.Address.{pair_text}

-- ---- values that have no parts (section 3)

abbrev pub null : List ℕ
null = codes "null"

abbrev pub flag : Bool → List ℕ
flag true = codes "true"
flag false = codes "false"

-- ---- strings (section 7)

-- a backslash and a letter
abbrev pub escape : ℕ → List ℕ
escape letter = 92 ∷ letter ∷ []

-- what stands for a byte: escapes for the quotation mark, the backslash and the control characters, with
-- the letters b, f, n, r and t where there is one
unfoldable pub escaped : ℕ → List ℕ
escaped byte =
    if byte == 34 || byte == 92 then escape byte
    else if byte == 8 then escape 98
    else if byte == 12 then escape 102
    else if byte == 10 then escape 110
    else if byte == 13 then escape 114
    else if byte == 9 then escape 116
    else if nat_lt byte 32 then escape 117 ++ 48 ∷ 48 ∷ pair_text byte
    else byte ∷ []

unfoldable pub quoted : List ℕ → List ℕ
quoted text = 34 ∷ (flat_map escaped text ++ 34 ∷ [])

-- ---- arrays (section 5)

unfoldable pub list : List (List ℕ) → List ℕ
list items = 91 ∷ (join_by (λ item. item) (44 ∷ []) items ++ 93 ∷ [])

-- ---- objects (section 4)

-- a name, and the text of its value
abbrev pub Member : Type 0
Member = List ℕ × List ℕ

-- a further member among members in the order of their names' bytes, in the place of one with its name
unfoldable pub with_member : List Member → Member → List Member
with_member [] m = m ∷ []
with_member (n ∷ ns) m = match_ordering (slice_cmp nat_cmp m.0 n.0) (m ∷ n ∷ ns) ((n.0, m.1) ∷ ns) (n ∷ with_member ns m)

-- members as they stand
unfoldable pub braces : List Member → List ℕ
braces ms = 123 ∷ (join_by (λ m. quoted m.0 ++ 58 ∷ m.1) (44 ∷ []) ms ++ 125 ∷ [])

-- members in the order of their names' bytes
abbrev pub object : List Member → List ℕ
object ms = braces (fold with_member [] ms)
