-- What a poller tells of the calls that it got.
use Rattle.std.specs.Prelude.{◌≡◌, ℕ, List, [], ◌∷◌, ◌++◌, length, nat_lt, if◌then◌else◌, Option, Some, None}
use Rattle.fg_links.specs.declared.told.Told.{Told}

-- A poller was told these things: where it tells all that it was told, that is what it told before, and these behind it. A
-- poller that no longer tells it doesn't begin again.
abbrev pub Appends : Option (List Told) → List Told → Option (List Told) → Type 0
Appends before calls None = Unit {0}
Appends None calls (Some after) = ⊥
Appends (Some before) calls (Some after) = after ≡ before ++ calls

-- the same of a poller in memory with room for so many: it stops telling at the first for which there is no room
abbrev pub told_within : ℕ → Option (List Told) → Told → Option (List Told)
told_within room None what = None
told_within room (Some before) what = if nat_lt (length before) room then Some (before ++ what ∷ []) else None
