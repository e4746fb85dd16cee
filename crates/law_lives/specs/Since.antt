-- What was said of a switch's tables since its connection was opened, by what happened and what was said alone.
use Rattle.std.specs.Prelude.{◌≡◌, ℕ, ◌==◌, ◌&&◌, not, Bool, false, if◌then◌else◌, List, [], ◌∷◌, ◌++◌}
use Rattle.std.specs.List.{AllByRecursion, flat_map, fold}
use Rattle.fg_outside.specs.declared.hub.Happening.{Happening}
use Rattle.fg_outside.specs.declared.hub.Happening.TheVariants as happenings
use Rattle.of13_codec.specs.declared.message.Message.{Message}
use Rattle.ctl_world.specs.declared.said.Said.{Said}
use Rattle.ctl_world.specs.declared.said.Said.TheVariants as said
use Rattle.ctl_world.specs.TablesSaid.{is_of_tables, tables_said}
use Rattle.ctl_world.specs.World.{World}
use Rattle.ctl_core.specs.Turns.{turn}
use Rattle.law_stories.specs.Settlings.{Settling, at_work, known_behind, said_before, said_behind}
use Rattle.law_lives.specs.Known.{open_more}
use Rattle.law_lives.specs.Told.{Told}

-- an Opened opens a connection that isn't open
abbrev pub begins : (number : ℕ) → (opened : Bool) → Happening → Bool
begins number opened (happenings.Opened n) = n == number && not opened
begins number opened other = false

-- the message of tables, with its transaction id, that is said on the connection
abbrev pub of_tables : (number : ℕ) → Said → List (Message × ℕ)
of_tables number (said.Message n m xid) = if n == number && is_of_tables m then (m, xid) ∷ [] else []
of_tables number other = []

-- whether a connection is open, and what was said of tables since it was opened
pub record Since : Type 0 where
  pub opened : Bool
  pub said : List (Message × ℕ)

abbrev pub since_more : (number : ℕ) → Since → Told → Since
since_more number s t = record {
  opened = open_more number s.opened t;
  said = (if begins number s.opened t.what then [] else s.said) ++ flat_map (of_tables number) t.said;
}

-- those of the turns from the last Opened on that found the connection not open
abbrev pub tables_since : (number : ℕ) → List Told → List (Message × ℕ)
tables_since number turns = (fold (since_more number) (record { opened = false; said = [] }) turns).said

-- ---- at each settling

-- What was said of tables is the same by both counts, just before a settling and at its end: behind these turns this happens, and so
-- much was said of it.
abbrev pub CountsAlike : List Told → Happening → Settling → Type 0
CountsAlike turns h s =
    (number : ℕ)
    → (tables_said number (said_before s) ≡ tables_since number (turns ++ record { what = h; said = s.before.said } ∷ []))
    × (tables_said number (said_behind s) ≡ tables_since number (turns ++ record { what = h; said = (known_behind s).said } ∷ []))

-- at each settling of a story, where this was said before it, in these turns
abbrev pub CountAlike : (past : List Said) → List Told → World → List Happening → Type 0
CountAlike past turns w [] = Unit {0}
CountAlike past turns w (h ∷ hs) =
    AllByRecursion (CountsAlike turns h) (at_work past h (record w { said = [] }))
    × CountAlike (past ++ (turn h w).said) (turns ++ record { what = h; said = (turn h w).said } ∷ []) (turn h w) hs
