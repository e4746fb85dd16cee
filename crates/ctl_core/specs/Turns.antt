-- A controller's turn: what happens, what is done about it, and the settling.
use Rattle.std.specs.Prelude.{ℕ, not, map, if◌then◌else◌, List, [], length, filter}
use Rattle.fg_outside.specs.declared.hub.Happening.{Happening}
use Rattle.fg_outside.specs.declared.hub.Happening.TheVariants as happenings
use Rattle.conf_types.specs.State.{is_to_forget}
use Rattle.ctl_world.specs.Connections.{is_open}
use Rattle.ctl_world.specs.Ends.{ended}
use Rattle.ctl_world.specs.World.{World}
use Rattle.ctl_life.specs.Life.{closing_for, feed, open_conn, unread}
use Rattle.ctl_life.specs.Silence.{look_each, show}
use Rattle.ctl_settle.specs.Settling.{settle}
use Rattle.ctl_core.specs.Hearing.{hear_frames}
use Rattle.ctl_core.specs.Reloading.{accepted, reload}

-- ---- connections

abbrev pub hear_all : (number : ℕ) → World → World
hear_all number w = hear_frames (length (unread number w)) number w

-- there are no more frames than bytes
abbrev pub hear : (number : ℕ) → (piece : List ℕ) → World → World
hear number piece w = hear_all number (feed number piece w)

-- ---- the clock

abbrev pub age : World → World
age w = record w { hosts = record w.hosts { hosts = filter (λ h. not (is_to_forget w.conf w.moment.0 h)) w.hosts.hosts } }

-- A moment below the last one counts as that. The connections are looked after, by number, and then the hosts whose
-- time is over are forgotten.
abbrev pub pass_in : World → World
pass_in w = age (look_each (map (λ c. c.number) w.conns) w)

abbrev pub pass : (moment : ℕ) → World → World
pass moment w = pass_in (show moment w)

-- ---- one turn

-- what opens is new, and what is heard or ends is open; else nothing is done
abbrev pub work : Happening → World → World
work (happenings.Opened number) w = if is_open w.conns number then w else settle (open_conn number w)
work (happenings.Heard number piece) w = if is_open w.conns number then hear number piece w else w
work (happenings.Closed number cause) w = if is_open w.conns number then settle (ended (closing_for cause) number w) else w
work (happenings.Moment moment) w = settle (pass moment w)
work (happenings.Reload text) w = settle (reload (accepted text) w)

-- what is said counts from the turn's beginning
abbrev pub turn : Happening → World → World
turn h w = work h (record w { said = [] })
