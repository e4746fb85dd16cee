-- What is promised of a difference.
use Rattle.std.specs.Prelude.{◌≡◌, List, [], ◌∷◌, Option, Some, None, IsSome}
use Rattle.std.specs.List.{AllByRecursion}
use Rattle.std.specs.declared.cmp.Ordering.TheVariants.{Less}
use Rattle.of_match.specs.declared.entry.Key.{Key}
use Rattle.of_match.specs.declared.entry.Entry.{Entry}
use Rattle.of_match.specs.declared.entry.Command.{Command}
use Rattle.of_match.specs.declared.entry.Command.TheVariants.{Add, DeleteStrict, DeleteAll}
use Rattle.of_match.specs.FlowTables.{entry_at}
use Rattle.of_match.specs.KeyOrder.{key_cmp}
use Rattle.of_match.specs.Settled.{key_of}

-- a command without which nothing leads from the one plan to the other: a strict delete of a key that has an
-- entry and is to have none, or an add of an entry that is to stand and doesn't stand
abbrev pub IsNeeded : List Entry → List Entry → Command → Type 0
IsNeeded from to (Add e) = (entry_at to e.key ≡ Some e) × (entry_at from e.key ≡ Some e → ⊥)
IsNeeded from to (DeleteStrict key) = (entry_at to key ≡ None) × IsSome (entry_at from key)
IsNeeded from to DeleteAll = ⊥

-- a command is about a key behind this one
abbrev pub IsBehind : Key → Command → Type 0
IsBehind key (Add e) = key_cmp key e.key ≡ Less
IsBehind key (DeleteStrict k) = key_cmp key k ≡ Less
IsBehind key DeleteAll = ⊥

abbrev pub AreBehind : Command → List Command → Type 0
AreBehind (Add e) cs = AllByRecursion (IsBehind e.key) cs
AreBehind (DeleteStrict k) cs = AllByRecursion (IsBehind k) cs
AreBehind DeleteAll cs = ⊥

-- each command is about a key, and the keys ascend
abbrev pub AscendByKey : List Command → Type 0
AscendByKey [] = Unit {0}
AscendByKey (c ∷ cs) = AreBehind c cs × AscendByKey cs

-- each command is about one key
abbrev pub NameKeys : List Command → Type 0
NameKeys cs = AllByRecursion (λ c. IsSome (key_of c)) cs
