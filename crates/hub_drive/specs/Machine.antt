-- What is run on the turns of a hub: what is known behind all that happens, and what a turn says and prints.
use Rattle.std.specs.Prelude.{ℕ, List, [], ◌∷◌, Option}
use Rattle.std.specs.Option.{option_map_or}
use Rattle.fg_outside.specs.declared.hub.Happening.{Happening}
use Rattle.ctl_life.specs.declared.saying.Saying.{Saying}

-- what is known takes in what happens, and then tells of that turn its moment in milliseconds, what is said, and the bytes that
-- are printed, where it prints
pub record Workings (S : Type 0) : Type 0 where
  pub turn : Happening → S → S
  pub moment : S → ℕ
  pub says : S → List Saying
  pub prints : Option (S → List ℕ)

-- what a value in memory stands for, and how that works
pub record Runs (X : Type 0) : Type 1 where
  pub State : Type 0
  pub works : Workings State
  pub stands : X → State → Type 0

module _ {S : Type 0} (m : Workings S) where
  -- what was printed in the last turn
  abbrev pub printed : S → List ℕ
  printed w = option_map_or (λ (prints : S → List ℕ). prints w) m.prints []

  -- what is known behind all that happens
  abbrev pub behind : S → List Happening → S
  behind w [] = w
  behind w (h ∷ hs) = behind (m.turn h w) hs
