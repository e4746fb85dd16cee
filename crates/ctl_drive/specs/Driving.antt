-- What is done about a story that happens to the controller (`hub_drive`).
use Rattle.std.specs.Prelude.{ℕ, List}
use Rattle.fg_outside.specs.declared.hub.Happening.{Happening}
use Rattle.recording.specs.Turns.{Closing}
use Rattle.recording.specs.Written.{WrittenRecord}
use Rattle.ctl_world.specs.World.{World}
use Rattle.ctl_life.specs.declared.saying.Saying.{Saying}
use Rattle.hub_drive.specs.declared.sayings.Outlet.{Outlet}
use Rattle.hub_drive.specs.Driving as hub
use Rattle.ctl_drive.specs.Controller.{controller}

-- what is said in a turn, as it goes out
abbrev pub sayings_of : Happening → World → List Saying
sayings_of h w = hub.sayings_of controller h w

-- its records
abbrev pub turn_records : Happening → World → List WrittenRecord
turn_records h w = hub.turn_records controller h w

-- its lines
abbrev pub turn_lines : Happening → World → List ℕ
turn_lines h w = hub.turn_lines controller h w

-- what a hub gives and is told in a story that begins where this is known
abbrev pub deeds_of : Outlet → World → List Happening → List hub.Deed
deeds_of outlet w hs = hub.deeds_of controller outlet w hs

-- its lines on standard error
abbrev pub lines_of : World → List Happening → List ℕ
lines_of w hs = hub.lines_of controller w hs

-- its records, one for each message and each closing
abbrev pub records_of : World → List Happening → List WrittenRecord
records_of w hs = hub.records_of controller w hs

-- the connections that the controller closes, each with how many happenings came before, where so many came before the story
abbrev pub closings_of : (given : ℕ) → World → List Happening → List Closing
closings_of given w hs = hub.closings_of controller given w hs
