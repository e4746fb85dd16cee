-- Hosts that were passed, when those that are to be forgotten were looked for.
use Rattle.std.specs.Prelude.{ℕ, ◌<◌, ◌≤◌, Bool, List, [], ◌∷◌, nat_lt, if◌then◌else◌}
use Rattle.std.specs.List.{AllByRecursion, list_any}
use Rattle.net_base.specs.declared.numbers.Moment.{Moment}
use Rattle.conf_types.specs.declared.state.HostRec.{HostRec}
use Rattle.conf_types.specs.Configuration.{Configuration}
use Rattle.host_list.specs.declared.ageing.Passed.{Passed}
use Rattle.host_list.specs.declared.shelves.Shelf.{Shelf}
use Rattle.host_list.specs.Addresses.{Entry}
use Rattle.host_list.specs.Order.{is_due_from}
use Rattle.host_list.specs.Shelves.{last_moment}

-- what stands before the front was heard no earlier than the least moment
abbrev pub ArePassed : Passed → List Entry → Type 0
ArePassed passed = AllByRecursion (λ (e : Entry). e.0 < passed.front → passed.least.0 ≤ e.1.learned.0)

abbrev pub none_passed : Passed
none_passed = record { front = 0; least = last_moment }

abbrev pub earlier : Moment → Moment → Moment
earlier a b = if nat_lt b.0 a.0 then b else a

-- the least of a moment and those of the hosts before the first that passes a test
abbrev pub least_until : (HostRec → Bool) → Moment → List Entry → Moment
least_until test least [] = least
least_until test least (e ∷ entries) = if test e.1 then least else least_until test (earlier least e.1.learned) entries

-- the shelf, with a moment that is no earlier than this one
abbrev pub no_earlier : Moment → Shelf → Shelf
no_earlier least shelf = if nat_lt shelf.least.0 least.0 then record shelf { least = least } else shelf

-- a host of the shelf that was passed would be to be forgotten, if it was heard as early as may be
abbrev pub is_due_past : Configuration → ℕ → Moment → Shelf → Bool
is_due_past conf moment least shelf = is_due_from conf moment (no_earlier least shelf)

-- what needn't be looked at
abbrev pub start_from : Configuration → ℕ → List Shelf → Passed → Passed
start_from conf moment shelves passed = if list_any (is_due_past conf moment passed.least) shelves then none_passed else passed
