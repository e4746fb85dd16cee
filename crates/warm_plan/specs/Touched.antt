-- Keys that tell where tables may differ from others, as the tables change.
use Rattle.std.specs.Prelude.{Bool, List, if◌then◌else◌}
use Rattle.of_match.specs.declared.entry.Entry.{Entry}
use Rattle.of_match.specs.declared.entry.Key.{Key}
use Rattle.plan_difference.specs.Difference.{AreAllTold}

-- where the old keys tell all differences from some tables to the old ones, the new keys tell those to the new
-- ones
abbrev pub KeepTold : List Key → List Entry → List Key → List Entry → Type 0
KeepTold old_keys old_tables new_keys new_tables = (from : List Entry) → AreAllTold old_keys from old_tables → AreAllTold new_keys from new_tables

-- what is to be held: behind a take that is what was sent, and else what was made
abbrev pub wanted_of : Bool → List Entry → List Entry → List Entry
wanted_of is_taken sent made = if is_taken then sent else made
