-- What leads from the entries of one plan to those of another, and no more.
use Rattle.std.specs.Prelude.{◌≡◌, ◌≢◌, Bool, List, [], ◌∷◌, ◌++◌, map, Option, Some, None, IsSome, Contains, if◌then◌else◌}
use Rattle.std.specs.List.{AllByRecursion}
use Rattle.std.specs.Option.{option_map_or}
use Rattle.std.specs.declared.cmp.Ordering.TheVariants.{Less}
use Rattle.of_match.specs.declared.entry.Key.{Key}
use Rattle.of_match.specs.declared.entry.Entry.{Entry}
use Rattle.of_match.specs.declared.entry.Command.{Command}
use Rattle.of_match.specs.declared.entry.Command.TheVariants.{Add, DeleteStrict, DeleteAll}
use Rattle.of_match.specs.FlowTables.{entry_at, below, above}
use Rattle.of_match.specs.KeyOrder.{key_cmp}
use Rattle.of_match.specs.Same.{entry_same}
use Rattle.of_match.specs.Settled.{key_of}

-- strict deletes of these entries
abbrev pub deletes : List Entry → List Command
deletes es = map (λ e. DeleteStrict e.key) es

-- the entry is among these, with the same instructions
abbrev pub has : List Entry → Entry → Bool
has es e = option_map_or (λ f. entry_same f e) (entry_at es e.key) Bool.false

-- In key order, for each entry that is to stand: a strict delete of each key before it that isn't to stand,
-- and an add, unless this very entry stands.
abbrev pub difference : List Entry → List Entry → List Command
difference from [] = deletes from
difference from (e ∷ to) =
    deletes (below e.key from) ++ ((if has from e then [] else Add e ∷ []) ++ difference (above e.key from) to)

-- ---- at a key

-- what leads to the entry that is to stand there, if one is, from the one that stands
abbrev pub change_of : Key → Option Entry → Option Entry → List Command
change_of key None from = option_map_or (λ f. DeleteStrict key ∷ []) from []
change_of key (Some e) from = if option_map_or (λ f. entry_same f e) from Bool.false then [] else Add e ∷ []

abbrev pub change_at : List Entry → List Entry → Key → List Command
change_at from to key = change_of key (entry_at to key) (entry_at from key)

-- each key at which the plans differ is among these
abbrev pub AreAllTold : List Key → List Entry → List Entry → Type 0
AreAllTold keys from to = (key : Key) → (entry_at from key ≡ entry_at to key → ⊥) → Contains keys key
