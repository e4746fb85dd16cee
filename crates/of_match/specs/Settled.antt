-- What a list of commands settles to, which a switch may do in any order up to a barrier
-- (OpenFlow 1.3, 6.2).
use Rattle.std.specs.Prelude.{◌≡◌, ◌≢◌, List, [], ◌∷◌, Option, Some, None, IsSome, IsPermutation}
use Rattle.std.specs.List.{AllByRecursion}
use Rattle.of_match.specs.declared.entry.Key.{Key}
use Rattle.of_match.specs.declared.entry.Entry.{Entry}
use Rattle.of_match.specs.declared.entry.Command.{Command}
use Rattle.of_match.specs.declared.entry.Command.TheVariants.{Add, DeleteStrict, DeleteAll}
use Rattle.of_match.specs.FlowTables.{after}

-- the tables after each command in turn
abbrev pub after_all : List Entry → List Command → List Entry
after_all tables [] = tables
after_all tables (command ∷ more) = after_all (after tables command) more

-- some order of the commands leads from the tables to these
pub record Settles (tables : List Entry) (commands : List Command) (settled : List Entry) : Type 0 where
  pub order : List Command
  pub reordered : IsPermutation commands order
  pub leads : settled ≡ after_all tables order

-- lists of commands with a barrier behind each settle one after another
abbrev pub SettlesInTurn : List Entry → List (List Command) → List Entry → Type 0
SettlesInTurn tables [] settled = settled ≡ tables
SettlesInTurn tables (commands ∷ more) settled = (between : List Entry) × Settles tables commands between × SettlesInTurn between more settled

-- the key that a command is about; a delete of all is about none
abbrev pub key_of : Command → Option Key
key_of (Add entry) = Some entry.key
key_of (DeleteStrict key) = Some key
key_of DeleteAll = None

-- each command is about a key, and no two about one
abbrev pub AreOfDistinctKeys : List Command → Type 0
AreOfDistinctKeys [] = Unit {0}
AreOfDistinctKeys (command ∷ more) = IsSome (key_of command) × AllByRecursion (λ other. key_of other ≢ key_of command) more × AreOfDistinctKeys more
