-- Which lines are said.
use Rattle.std.specs.Prelude.{◌≡◌, if◌then◌else◌, List, [], ◌∷◌, ◌++◌, codes, ℕ, Result, Ok, Err}
use Rattle.std.specs.List.{flat_map}
use Rattle.fg_outside.specs.declared.hub.Happening.{Happening}
use Rattle.fg_outside.specs.declared.hub.Happening.TheVariants as happenings
use Rattle.conf_types.specs.Configuration.{Configuration}
use Rattle.ctl_world.specs.declared.said.Said.{Said}
use Rattle.ctl_world.specs.declared.said.Said.TheVariants as said
use Rattle.ctl_world.specs.Ends.{end_line}
use Rattle.ctl_life.specs.Life.{closing_for}
use Rattle.ctl_core.specs.Reloading.{accepted}
use Rattle.law_lives.specs.Known.{open_by}
use Rattle.law_lives.specs.Told.{Told}

-- a closing has its line right behind it, and no other line is kept
abbrev pub with_line : Said → List Said
with_line (said.Message number m xid) = said.Message number m xid ∷ []
with_line (said.Closing number cause) = said.Closing number cause ∷ end_line number cause ∷ []
with_line (said.Line text) = []

abbrev pub with_lines : List Said → List Said
with_lines all = flat_map with_line all

-- why a reload is refused
abbrev pub refusal : Result Configuration (List ℕ) → List Said
refusal (Ok next) = []
refusal (Err cause) = said.Line (codes "reload: " ++ cause) ∷ []

-- the line of the turn itself: of an open connection that ended, or of a reload that is refused
abbrev pub own_line : (before : List Told) → Happening → List Said
own_line before (happenings.Closed number cause) = if open_by number before then end_line number (closing_for cause) ∷ [] else []
own_line before (happenings.Reload text) = refusal (accepted text)
own_line before other = []

-- in each turn, where these were before it: its own line, and then what is said, with a line behind each closing
abbrev pub HaveTheirLines : (before : List Told) → List Told → Type 0
HaveTheirLines before [] = Unit {0}
HaveTheirLines before (t ∷ more) = (t.said ≡ own_line before t.what ++ with_lines t.said) × HaveTheirLines (before ++ t ∷ []) more
