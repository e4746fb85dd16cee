-- Words for grammars: what bytes may be. A grammar is a property of a list of bytes, which are
-- those of its parts, one behind the other.
use Rattle.std.specs.Prelude.{◌≡◌, ℕ, ◌^◌, ◌<◌, List, [], ◌∷◌, ◌++◌, length, replicate}
use Rattle.of_wire.specs.Parts.{number}

-- one part, and behind it another
pub record Then (front back : List ℕ → Type 0) (bytes : List ℕ) : Type 0 where
  pub first : List ℕ
  pub rest : List ℕ
  pub whole : bytes ≡ first ++ rest
  pub in_front : front first
  pub behind : back rest

infixr 5 ◌▷◌
abbrev pub ◌▷◌ : (List ℕ → Type 0) → (List ℕ → Type 0) → List ℕ → Type 0
front ▷ back = Then front back

-- a number in so many bytes, the highest first
pub record Number (len value : ℕ) (bytes : List ℕ) : Type 0 where
  pub fits : value < 256 ^ len
  pub spelled : bytes ≡ number len value

-- padding or a reserved field, whose bytes may be anything
abbrev pub Ignored : ℕ → List ℕ → Type 0
Ignored len bytes = length bytes ≡ len

-- padding that has to be zeros
abbrev pub Zeros : ℕ → List ℕ → Type 0
Zeros len bytes = bytes ≡ replicate len 0

-- these bytes
abbrev pub Just : List ℕ → List ℕ → Type 0
Just data_bytes bytes = bytes ≡ data_bytes

-- parts of one kind, one behind the other, each with what stands before it
abbrev pub Joined : {A : Type 0} → (List A → A → List ℕ → Type 0) → (before : List A) → List A → List ℕ → Type 0
Joined spells before [] bytes = bytes ≡ []
Joined spells before (x ∷ xs) bytes = Then (spells before x) (Joined spells (before ++ x ∷ []) xs) bytes
