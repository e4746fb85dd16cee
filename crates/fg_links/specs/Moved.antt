-- How many bytes a call of a link moved.
use Rattle.std.specs.Prelude.{ℕ, Bool, true, false, ◌&&◌, if◌then◌else◌, nat_eq, nat_lt, min}
use Rattle.fg_links.specs.declared.link.Took.{Took}
use Rattle.fg_links.specs.declared.link.Took.TheVariants as took
use Rattle.fg_links.specs.declared.link.Gave.{Gave}
use Rattle.fg_links.specs.declared.link.Gave.TheVariants as gave

-- a fact of how many bytes a read took, where it took some
abbrev pub IfTook : Took → (ℕ → Type 0) → Type 0
IfTook (took.Some n) P = P n
IfTook took.NotYet P = Unit {0}
IfTook took.End P = Unit {0}
IfTook took.Failed P = Unit {0}

-- a fact of a read with another answer
abbrev pub UnlessTook : Took → Type 0 → Type 0
UnlessTook (took.Some n) P = Unit {0}
UnlessTook took.NotYet P = P
UnlessTook took.End P = P
UnlessTook took.Failed P = P

-- a fact of how many bytes a write gave, where it gave some
abbrev pub IfGave : Gave → (ℕ → Type 0) → Type 0
IfGave (gave.Some n) P = P n
IfGave gave.NotYet P = Unit {0}
IfGave gave.Failed P = Unit {0}

-- a fact of a write with another answer
abbrev pub UnlessGave : Gave → Type 0 → Type 0
UnlessGave (gave.Some n) P = Unit {0}
UnlessGave gave.NotYet P = P
UnlessGave gave.Failed P = P

-- What a read of a link in memory answers, where its lists say whether the call fails or waits: with so much room in the
-- buffer, and so many bytes left.
abbrev pub took_by : (fails waits : Bool) → (room left : ℕ) → Took
took_by true waits room left = took.Failed
took_by false true room left = took.NotYet
took_by false false room left = if nat_lt 0 room && nat_eq left 0 then took.End else took.Some (min room left)

-- the same of a write: with a piece of so many bytes, and room for so many more
abbrev pub gave_by : (fails waits : Bool) → (piece room : ℕ) → Gave
gave_by true waits piece room = gave.Failed
gave_by false true piece room = gave.NotYet
gave_by false false piece room = if nat_lt 0 piece && nat_eq room 0 then gave.Failed else gave.Some (min piece room)
