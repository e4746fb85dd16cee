-- How far words are parted.
use Rattle.std.specs.Prelude.{◌≡◌, ◌++◌, ℕ, List, Option, Some, None}
use Rattle.std.specs.Borrow.{Bor}
use Rattle.std.specs.Option.{option_map}
use Rattle.net_base.specs.AddressReading.{◌>>=◌}
use Rattle.command_line.specs.declared.parts.Parts.{Parts}
use Rattle.command_line.specs.Parts.{parted}

-- a found text is lent
abbrev pub Lends : Option (Bor (List ℕ)) → Option (List ℕ) → Type 0
Lends None found = found ≡ None
Lends (Some text) found = found ≡ Some text.now

-- a name is lent, and a value where there is one
abbrev pub LendsOption : Option (Bor (List ℕ) × Option (Bor (List ℕ))) → Option (List ℕ × Option (List ℕ)) → Type 0
LendsOption None found = found ≡ None
LendsOption (Some o) found = found ≡ Some (o.0.now, option_map (λ text. text.now) o.1)

-- the parts so far, with those of further words behind them
abbrev pub joined : Parts → Option Parts → Option Parts
joined parts more = more >>= λ m. Some (record { plain = parts.plain ++ m.plain; options = parts.options ++ m.options })

-- What is left and was added to the old parts makes up the words; nothing is left where they have no parts.
abbrev pub Leaves : Parts → List (List ℕ) → Option (Bor (List (List ℕ))) → Parts → Type 0
Leaves old words None new = parted None words ≡ None
Leaves old words (Some left) new = joined old (parted None words) ≡ joined new (parted None left.now)
