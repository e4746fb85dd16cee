-- Reloads that change nothing, in a story.
use Rattle.std.specs.Prelude.{ℕ, Bool, true, false, not, List, [], filter, Result, Ok, Err}
use Rattle.fg_outside.specs.declared.hub.Happening.{Happening}
use Rattle.fg_outside.specs.declared.hub.Happening.TheVariants as happenings
use Rattle.conf_types.specs.Configuration.{Configuration}
use Rattle.ctl_world.specs.World.{World}
use Rattle.ctl_core.specs.Reloading.{accepted}

abbrev pub is_fault : Result Configuration (List ℕ) → Bool
is_fault (Ok conf) = false
is_fault (Err cause) = true

-- a reload whose text has no configuration
abbrev pub is_refused : Happening → Bool
is_refused (happenings.Opened number) = false
is_refused (happenings.Heard number piece) = false
is_refused (happenings.Closed number cause) = false
is_refused (happenings.Moment moment) = false
is_refused (happenings.Reload text) = is_fault (accepted text)

-- any reload
abbrev pub is_reload : Happening → Bool
is_reload (happenings.Opened number) = false
is_reload (happenings.Heard number piece) = false
is_reload (happenings.Closed number cause) = false
is_reload (happenings.Moment moment) = false
is_reload (happenings.Reload text) = true

-- a story without what passes a test
abbrev pub without : (Happening → Bool) → List Happening → List Happening
without test story = filter (λ h. not (test h)) story

-- what is known, but for what was said in the last turn
abbrev pub unsaid : World → World
unsaid w = record w { said = [] }
