-- Words for grammars: what bytes may be.
use Rattle.std.specs.Prelude.{◌≡◌, ℕ, ◌≤◌, List, [], ◌∷◌, ◌++◌, length, take, Option, Some, None}

-- one part, and behind it others
pub record Then (front back : List ℕ → Type 0) (bytes : List ℕ) : Type 0 where
  pub first : List ℕ
  pub rest : List ℕ
  pub whole : bytes ≡ first ++ rest
  pub in_front : front first
  pub behind : back rest

-- parts of one kind, one behind the other, and nothing behind them
abbrev pub Joined : {A : Type 0} → (A → List ℕ → Type 0) → List A → List ℕ → Type 0
Joined spells [] bytes = bytes ≡ []
Joined spells (x ∷ xs) bytes = Then (spells x) (Joined spells xs) bytes

-- the bytes spell this, or, where there is none, nothing
abbrev pub Parsed : {A : Type 0} → (A → List ℕ → Type 0) → List ℕ → Option A → Type 0
Parsed spells bytes (Some x) = spells x bytes
Parsed {A = A} spells bytes None = (x : A) → spells x bytes → ⊥

-- the first n bytes, one at least, spell a part
pub record Begins (spells : List ℕ → Type 0) (n : ℕ) (bytes : List ℕ) : Type 0 where
  pub some : 1 ≤ n
  pub within : n ≤ length bytes
  pub spelled : spells (take n bytes)

-- no part stands at the front
abbrev pub BeginsNone : {A : Type 0} → (A → List ℕ → Type 0) → List ℕ → Type 0
BeginsNone {A = A} spells bytes = (x : A) (first rest : List ℕ) → spells x first → bytes ≡ first ++ rest → ⊥
