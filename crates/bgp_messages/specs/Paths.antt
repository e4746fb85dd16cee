-- The AS_PATH (RFC 4271, 4.3 and 5.1.2): segments, each with the numbers of autonomous systems.
use Rattle.std.specs.Prelude.{◌≡◌, ℕ, zero, suc, ◌+◌, ◌*◌, ◌≤◌, List, [], ◌∷◌, length, drop, ◌||◌, ◌==◌, Bool, true}
use Rattle.std.specs.List.{flat_map}
use Rattle.bgp_messages.specs.Numbers.{number_in}
use Rattle.bgp_messages.specs.Grammar.{Joined}

-- so many numbers of two bytes each
abbrev pub numbers_in : ℕ → List ℕ → List ℕ
numbers_in zero bytes = []
numbers_in (suc n) bytes = number_in 0 2 bytes ∷ numbers_in n (drop 2 bytes)

-- AS_SET and AS_SEQUENCE
abbrev pub is_known : ℕ → Bool
is_known kind = kind == 1 || kind == 2

pub record Segment : Type 0 where
  pub kind : ℕ
  pub numbers : List ℕ

-- its type; how many numbers follow, one at least; and these
pub record SpellsSegment (s : Segment) (bytes : List ℕ) : Type 0 where
  pub kind : number_in 0 1 bytes ≡ s.kind
  pub known : is_known s.kind ≡ true
  pub count : number_in 1 1 bytes ≡ length s.numbers
  pub some : 1 ≤ length s.numbers
  pub size : length bytes ≡ 2 + 2 * length s.numbers
  pub numbers : s.numbers ≡ numbers_in (length s.numbers) (drop 2 bytes)

-- the numbers of a path, in their order
pub record SpellsPath (numbers : List ℕ) (value : List ℕ) : Type 0 where
  pub segments : List Segment
  pub joined : Joined SpellsSegment segments value
  pub all : numbers ≡ flat_map (λ s. s.numbers) segments

-- the segment at the front, of n numbers
abbrev pub segment_in : ℕ → List ℕ → Segment
segment_in n bytes = record { kind = number_in 0 1 bytes; numbers = numbers_in n (drop 2 bytes) }
