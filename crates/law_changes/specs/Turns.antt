-- What a turn changes, under one configuration.
use Rattle.std.specs.Prelude.{if◌then◌else◌, List, [], ◌++◌}
use Rattle.fg_outside.specs.declared.hub.Happening.{Happening}
use Rattle.fg_outside.specs.declared.hub.Happening.TheVariants as happenings
use Rattle.ctl_world.specs.Connections.{is_open}
use Rattle.ctl_world.specs.Ends.{ended}
use Rattle.ctl_world.specs.World.{World, now}
use Rattle.ctl_life.specs.Life.{closing_for, open_conn}
use Rattle.ctl_core.specs.Reloading.{accepted, reload}
use Rattle.ctl_core.specs.Turns.{pass, turn}
use Rattle.conf_types.specs.declared.change.Change.{Change}
use Rattle.law_changes.specs.Clock.{by_clock}
use Rattle.law_names.specs.Differing.{differing}
use Rattle.law_names.specs.Ends.{by_end}
use Rattle.law_changes.specs.Frames.{by_piece}
use Rattle.law_changes.specs.Settlings.{by_settling}

-- what happens touches, and the settling behind it
abbrev pub touched : Happening → World → List Change
touched (happenings.Opened number) w = if is_open w.conns number then [] else by_settling (open_conn number w)
touched (happenings.Heard number piece) w = if is_open w.conns number then by_piece number piece w else []
touched (happenings.Closed number cause) w =
    if is_open w.conns number then by_end number w ++ by_settling (ended (closing_for cause) number w) else []
touched (happenings.Moment moment) w = by_clock moment w ++ by_settling (pass moment w)
-- a reload that is refused; under a new configuration all is compiled
touched (happenings.Reload text) w = by_settling (reload (accepted text) w)

-- of that what differs
abbrev pub changes_of : Happening → World → List Change
changes_of h w = differing w.conf (now w) (now (turn h w)) (touched h (record w { said = [] }))
