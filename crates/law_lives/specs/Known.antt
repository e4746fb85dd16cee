-- What a controller knows by what happened and what it said alone: its configuration, the moment, and which connections are open.
use Rattle.std.specs.Prelude.{ℕ, ◌==◌, max, Bool, true, false, if◌then◌else◌, List, [], ◌∷◌, Result, Ok, Err}
use Rattle.std.specs.List.{fold}
use Rattle.fg_outside.specs.declared.hub.Happening.{Happening}
use Rattle.fg_outside.specs.declared.hub.Happening.TheVariants as happenings
use Rattle.conf_types.specs.Configuration.{Configuration}
use Rattle.ctl_world.specs.declared.said.Said.{Said}
use Rattle.ctl_world.specs.declared.said.Said.TheVariants as said
use Rattle.ctl_core.specs.Reloading.{accepted}
use Rattle.law_lives.specs.Told.{Told}

-- ---- the configuration

-- a text that has none leaves it
abbrev pub conf_or : Configuration → Result Configuration (List ℕ) → Configuration
conf_or conf (Ok next) = next
conf_or conf (Err cause) = conf

abbrev pub conf_more : Configuration → Happening → Configuration
conf_more conf (happenings.Reload text) = conf_or conf (accepted text)
conf_more conf other = conf

-- that of the last reload that was accepted, or else the first one
abbrev pub conf_by : Configuration → List Happening → Configuration
conf_by conf story = fold conf_more conf story

-- ---- the moment

abbrev pub moment_more : ℕ → Happening → ℕ
moment_more shown (happenings.Moment moment) = max shown moment
moment_more shown other = shown

-- the greatest that was shown
abbrev pub moment_by : List Happening → ℕ
moment_by story = fold moment_more 0 story

-- ---- open connections

-- what opens is open, and what ended isn't
abbrev pub opens : (number : ℕ) → Bool → Happening → Bool
opens number was (happenings.Opened n) = if n == number then true else was
opens number was (happenings.Closed n cause) = if n == number then false else was
opens number was other = was

-- what is closed isn't
abbrev pub shuts : (number : ℕ) → Bool → Said → Bool
shuts number was (said.Closing n cause) = if n == number then false else was
shuts number was other = was

abbrev pub open_more : (number : ℕ) → Bool → Told → Bool
open_more number was t = fold (shuts number) (opens number was t.what) t.said

-- the connection opened, and neither ended nor was closed since
abbrev pub open_by : (number : ℕ) → List Told → Bool
open_by number turns = fold (open_more number) false turns
