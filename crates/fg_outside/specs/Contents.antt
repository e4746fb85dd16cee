-- What files hold, where they tell it.
use Rattle.std.specs.Prelude.{◌≡◌, ℕ, ◌+◌, ◌-◌, ◌^◌, ◌<◌, ◌≤◌, List, length, take, drop, Option, Some, None}

-- what is held under each name (its UTF-8 bytes) after so many more refreshes
abbrev pub Contents : Type 0
Contents = ℕ → List ℕ → Option (List ℕ)

-- the same, one refresh later
abbrev pub refreshed : Option Contents → Option Contents
refreshed None = None
refreshed (Some held) = Some (λ later. held (later + 1))

-- what is told of a name now: nothing, or the file, or that there is none
abbrev pub told_now : Option Contents → List ℕ → Option (Option (List ℕ))
told_now None name = None
told_now (Some held) name = Some (held 0 name)

-- the files tell what this name has now: this file, or none
abbrev pub Tells : Option Contents → List ℕ → Option (List ℕ) → Type 0
Tells contents name file = told_now contents name ≡ Some file

-- a read of a file from a place put its next n bytes at the front of a buffer
pub record ReadsAt (file : List ℕ) (from : ℕ) (buf : List ℕ) (n : ℕ) : Type 0 where
  pub bytes : take n buf ≡ take n (drop from file)
  pub within : n ≤ length file - from
  -- a buffer with room gets no byte only where the file ends
  pub end : n ≡ 0 → 0 < length buf → length file ≤ from
  pub size : length file ≤ 2 ^ 64 - 1
