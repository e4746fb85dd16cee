-- How many units of work a turn may count. At each of its settlings a running datapath allows three for each unit that
-- the differences since the settling before reach; for all its units where it begins to run or a new configuration came.
use Rattle.std.specs.Prelude.{ℕ, zero, suc, ◌+◌, ◌*◌, ◌&&◌, Bool, false, if◌then◌else◌, List, [], filter, length, sum_by, Result, Ok, Err}
use Rattle.std.specs.Option.{option_map_or}
use Rattle.net_base.specs.declared.numbers.DpId.{DpId}
use Rattle.fg_outside.specs.declared.hub.Happening.{Happening}
use Rattle.fg_outside.specs.declared.hub.Happening.TheVariants as happenings
use Rattle.conf_types.specs.Configuration.{Configuration}
use Rattle.conf_types.specs.State.{is_running}
use Rattle.switch_session.specs.declared.closing.Closing.TheVariants.{BadFrame}
use Rattle.warm_plan.specs.Kept.{reached_at}
use Rattle.ctl_world.specs.declared.conns.Conn.{Conn}
use Rattle.ctl_world.specs.declared.frames.Front.{Front}
use Rattle.ctl_world.specs.declared.frames.Front.TheVariants.{Part, Frame, Bad}
use Rattle.ctl_world.specs.Connections.{conn_of, has_number, is_open}
use Rattle.ctl_world.specs.Ends.{close, ended}
use Rattle.ctl_world.specs.Frames.{front}
use Rattle.ctl_world.specs.World.{World, now, running}
use Rattle.ctl_life.specs.Life.{closing_for, feed, has_frame, open_conn, read, says, unread}
use Rattle.ctl_settle.specs.Counted.{whole, works}
use Rattle.ctl_settle.specs.Settling.{ask_all}
use Rattle.law_names.specs.Differences.{differences}
use Rattle.ctl_core.specs.Hearing.{hear_frame, hear_next}
use Rattle.ctl_core.specs.Reloading.{accepted, reload}
use Rattle.ctl_core.specs.Turns.{pass}

-- ---- one settling, from what was known behind the one before to what is known behind its asks

module _ (was is : World) where
  -- the datapath ran then, on this connection
  abbrev pub ran : DpId → Conn → Bool
  ran dp c = is_running (running was) dp && option_map_or (has_number c.number) (conn_of was.conns dp) false

  -- the units that all that differs reaches
  abbrev pub reached : DpId → ℕ
  reached dp = 3 * length (reached_at is.conf (now was) (now is) dp (differences is.conf (now was) (now is)))

  abbrev pub allowed_of : Conn → DpId → ℕ
  allowed_of c dp = if ran dp c then reached dp else whole is.conf (now is) dp

  abbrev pub allowed_on : Conn → ℕ
  allowed_on c = option_map_or (allowed_of c) c.dp 0

-- by each datapath that runs
abbrev pub allowed : (was is : World) → ℕ
allowed was is = sum_by (allowed_on was is) (filter works is.conns)

-- behind a step
abbrev pub settling : (was w : World) → ℕ
settling was w = allowed was (ask_all w)

-- where a new configuration came
abbrev pub anew_on : World → Conn → ℕ
anew_on w c = option_map_or (whole w.conf (now w)) c.dp 0

abbrev pub allowed_anew : World → ℕ
allowed_anew w = sum_by (anew_on w) (filter works w.conns)

-- ---- the settlings of frames

abbrev pub front_allows : Front → (number : ℕ) → World → ℕ
front_allows Part number w = 0
front_allows (Frame frame) number w = settling w (hear_frame (says frame) number w)
front_allows Bad number w = settling w (close BadFrame number w)

abbrev pub next_allows : (number : ℕ) → World → ℕ
next_allows number w = front_allows (front (unread number w)) number (read number w)

-- of so many at most
abbrev pub frames_allow : (most : ℕ) → (number : ℕ) → World → ℕ
frames_allow zero number w = 0
frames_allow (suc most) number w = next_allows number w + (if has_frame number w then frames_allow most number (hear_next number w) else 0)

abbrev pub unread_allows : (number : ℕ) → World → ℕ
unread_allows number w = frames_allow (length (unread number w)) number w

-- ---- the settlings of a turn

abbrev pub reload_allows : Result Configuration (List ℕ) → World → ℕ
reload_allows (Ok next) w = allowed_anew (ask_all (reload (Ok next) w))
reload_allows (Err cause) w = settling w (reload (Err cause) w)

abbrev pub allows : Happening → World → ℕ
allows (happenings.Opened number) w = if is_open w.conns number then 0 else settling w (open_conn number w)
allows (happenings.Heard number piece) w = if is_open w.conns number then unread_allows number (feed number piece w) else 0
allows (happenings.Closed number cause) w = if is_open w.conns number then settling w (ended (closing_for cause) number w) else 0
allows (happenings.Moment moment) w = settling w (pass moment w)
allows (happenings.Reload text) w = reload_allows (accepted text) w

-- what is said counts from the turn's beginning
abbrev pub turn_allows : Happening → World → ℕ
turn_allows h w = allows h (record w { said = [] })
