-- The flow entries of a switch, and what commands make of them.
use Rattle.std.specs.Prelude.{◌≡◌, List, [], ◌∷◌, ◌++◌, map, Option}
use Rattle.std.specs.List.{AllByRecursion, filter, find}
use Rattle.std.specs.declared.cmp.Ordering.TheVariants.{Less}
use Rattle.std.specs.Ordering.{is_lt, is_eq, is_gt}
use Rattle.of_match.specs.declared.entry.Key.{Key}
use Rattle.of_match.specs.declared.entry.Entry.{Entry}
use Rattle.of_match.specs.declared.entry.Command.{Command}
use Rattle.of_match.specs.declared.entry.Command.TheVariants.{Add, DeleteStrict, DeleteAll}
use Rattle.of_match.specs.KeyOrder.{key_cmp}

-- each key is before those after it, so no two entries have one key (OpenFlow 1.3, 5.2)
abbrev pub IsInKeyOrder : List Entry → Type 0
IsInKeyOrder [] = Unit {0}
IsInKeyOrder (e ∷ es) = AllByRecursion (λ f. key_cmp e.key f.key ≡ Less) es × IsInKeyOrder es

-- the entry with a key
abbrev pub entry_at : List Entry → Key → Option Entry
entry_at tables key = find (λ e. is_eq (key_cmp e.key key)) tables

-- the entries before a key, and those after it
abbrev pub below : Key → List Entry → List Entry
below key tables = filter (λ e. is_lt (key_cmp e.key key)) tables

abbrev pub above : Key → List Entry → List Entry
above key tables = filter (λ e. is_gt (key_cmp e.key key)) tables

-- the tables after a command: an add puts the entry at its key's place, in place of one that has
-- the key; a strict delete takes out the entry with the key, if there is one (OpenFlow 1.3, 6.4)
abbrev pub after : List Entry → Command → List Entry
after tables (Add entry) = below entry.key tables ++ entry ∷ above entry.key tables
after tables (DeleteStrict key) = below key tables ++ above key tables
after tables DeleteAll = []

-- the commands that only take out
abbrev pub NeedsNoMemory : Command → Type 0
NeedsNoMemory (Add entry) = ⊥
NeedsNoMemory (DeleteStrict key) = Unit {0}
NeedsNoMemory DeleteAll = Unit {0}

-- each entry beside its key, by which it is found
abbrev pub keyed : List Entry → List (Key × Entry)
keyed tables = map (λ e. (e.key, e)) tables
