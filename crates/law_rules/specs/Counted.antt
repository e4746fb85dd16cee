-- How many things there are of which something holds.
use Rattle.std.specs.Prelude.{◌≡◌, ℕ, List, length, Contains}
use Rattle.conf_types.specs.Lists.{AreDistinct}

-- the list has each thing of which it holds, once, and nothing else
pub record ListsThem {A : Type 0} (P : A → Type 0) (xs : List A) : Type 0 where
  pub once : AreDistinct xs
  pub only : (x : A) → Contains xs x → P x
  pub each : (x : A) → P x → Contains xs x

-- there are so many things of which it holds: as many as a list has that lists them
pub record IsNumberOf {A : Type 0} (P : A → Type 0) (n : ℕ) : Type 0 where
  pub things : List A
  pub lists : ListsThem P things
  pub as_many : n ≡ length things
