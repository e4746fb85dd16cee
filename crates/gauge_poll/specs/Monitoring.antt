-- What Gauge says of all that happens, and which lines and blocks it gives.
use Rattle.std.specs.Prelude.{ℕ, zero, suc, ◌==◌, is_some, not, if◌then◌else◌, List, [], ◌∷◌, ◌++◌, length, map, option_and_then, Option, Some, None}
use Rattle.std.specs.Option.{option_map_or}
use Rattle.net_base.specs.declared.numbers.DpId.{DpId}
use Rattle.fg_outside.specs.declared.hub.Happening.{Happening}
use Rattle.fg_outside.specs.declared.hub.Happening.TheVariants as happenings
use Rattle.conf_types.specs.declared.datapath.Dp.{Dp}
use Rattle.conf_types.specs.Configuration.{Configuration, dp_with}
use Rattle.gauge_conf.specs.declared.gauge.Watcher.{Watcher}
use Rattle.gauge_conf.specs.declared.gauge.GaugeConf.{GaugeConf}
use Rattle.of13_codec.specs.declared.message.Message.{Message}
use Rattle.of13_codec.specs.declared.message.Message.TheVariants as messages
use Rattle.switch_session.specs.declared.closing.Closing.{Closing}
use Rattle.switch_session.specs.declared.closing.Closing.TheVariants.{Auxiliary, BadFrame, UnknownDp}
use Rattle.switch_session.specs.declared.state.Step.{Step}
use Rattle.switch_session.specs.declared.state.Step.TheVariants as steps
use Rattle.switch_session.specs.Stages.{leads}
use Rattle.ctl_world.specs.declared.conns.Conn.{Conn}
use Rattle.ctl_world.specs.declared.frames.Front.{Front}
use Rattle.ctl_world.specs.declared.frames.Front.TheVariants.{Part, Frame, Bad}
use Rattle.ctl_world.specs.Connections.{change, conn_with, is_open, with_heard}
use Rattle.ctl_world.specs.Ends.{close, ended}
use Rattle.ctl_world.specs.Frames.{front}
use Rattle.ctl_world.specs.Saying.{say}
use Rattle.ctl_world.specs.World.{World, first}
use Rattle.ctl_life.specs.Life.{closing_for, echo, feed, has_frame, open_conn, read, replace, take_dp, turn_away, unread}
use Rattle.ctl_life.specs.Silence.{look_each, show}
use Rattle.gauge_poll.specs.declared.telling.Telling.{Telling}
use Rattle.gauge_poll.specs.Lines.{told_lines, told_waits}
use Rattle.gauge_poll.specs.Polls.{Said, Waits, no_part, of_others, poll_due, poll_first, without_conn}
use Rattle.gauge_poll.specs.Telling.{reads, told_by}

-- The connections, of which World speaks, with what is said in the present turn; every poll that was said, but for those of
-- connections that were opened again since; what waits of replies; and the lines and blocks of the present turn.
pub record Monitor : Type 0 where
  pub watchers : List Watcher
  pub said : Said
  pub lines : List (List ℕ)

-- before anything happened: the watchers as gauge_conf answers them, by the bytes of their names, and the datapaths of each by
-- number (`raw_with`, `watched`)
abbrev pub begun : GaugeConf → Monitor
begun g = record { watchers = g.watchers; said = record { world = first g.conf; polls = []; waits = λ conn place. no_part }; lines = [] }

-- ---- the setup of a connection (OpenFlow 1.3, 6.3): it is done with the features

-- why a switch that says what it is, is turned away
abbrev pub unfit : Configuration → DpId → (auxiliary : ℕ) → Option Closing
unfit conf dp auxiliary =
    if not (is_some (dp_with conf.dps dp)) then Some UnknownDp
    else if not (auxiliary == 0) then Some Auxiliary
    else None

-- its datapath runs from now on, and is polled
abbrev pub introduce : List Watcher → (number : ℕ) → DpId → Option Closing → Said → Said
introduce ws number dp (Some cause) s = record s { world = close cause number s.world }
introduce ws number dp None s = poll_first 0 ws dp (record s { world = take_dp number dp (replace dp s.world) })

-- ---- one message

-- what follows from the step that a connection took
abbrev pub follow : List Watcher → Step → Message → (xid : ℕ) → (number : ℕ) → Said → Said
follow ws steps.AskFeatures m xid number s = record s { world = say number messages.FeaturesRequest s.world }
follow ws (steps.Features id n_tables auxiliary) m xid number s = introduce ws number id (unfit s.world.conf id auxiliary) s
follow ws steps.Echo m xid number s = record s { world = echo m number xid s.world }
follow ws (steps.Close cause) m xid number s = record s { world = turn_away cause number xid s.world }
follow ws step m xid number s = s

-- the connection takes its step
abbrev pub heard : Message → (xid number : ℕ) → Said → Said
heard m xid number s = record s { world = record s.world { conns = change number (with_heard m xid) s.world.conns } }

-- the datapath of a connection, once it runs
abbrev pub dp_on : World → Conn → Option Dp
dp_on w c = option_and_then (λ (dp : DpId). dp_with w.conf.dps dp) c.dp

-- what a message tells on a connection, where its datapath runs
abbrev pub lines_on : Message → (xid number : ℕ) → Monitor → List (List ℕ)
lines_on m xid number k =
    option_map_or (told_lines 0 k.watchers k.said number (told_by m) xid) (option_and_then (dp_on k.said.world) (conn_with k.said.world.conns number)) []

-- what waits of replies, once it was told on a connection whose datapath runs
abbrev pub waits_on : List Watcher → Telling → (xid number : ℕ) → Option Dp → Said → Waits
waits_on ws told xid number dp s = option_map_or (λ d. told_waits ws s number told xid) dp s.waits

-- what is told on a connection whose datapath runs gives its lines and blocks; and some of it waits
abbrev pub told_on : Telling → (xid number : ℕ) → Option Dp → Monitor → Monitor
told_on told xid number dp k = record k {
  said = record k.said { waits = waits_on k.watchers told xid number dp k.said };
  lines = k.lines ++ option_map_or (told_lines 0 k.watchers k.said number told xid) dp [];
}

-- what a message tells is written; then what follows from it is done
abbrev pub hear_by : Message → (xid number : ℕ) → Conn → Monitor → Monitor
hear_by m xid number c k = record k { said = follow k.watchers (leads c.session.state m xid).1 m xid number (heard m xid number k.said) }

abbrev pub hear_on : Message → (xid number : ℕ) → Monitor → Conn → Monitor
hear_on m xid number k c = hear_by m xid number c (told_on (told_by m) xid number (dp_on k.said.world c) k)

abbrev pub hear_message : Message → (xid number : ℕ) → Monitor → Monitor
hear_message m xid number k = option_map_or (hear_on m xid number k) (conn_with k.said.world.conns number) k

-- what is done with the connections alone
abbrev pub with_world : (World → World) → Monitor → Monitor
with_world f k = record k { said = record k.said { world = f k.said.world } }

-- a frame that spells no message closes its connection, as does one of which a flow entry is wrong
abbrev pub hear_frame : Option (Message × ℕ) → (number : ℕ) → Monitor → Monitor
hear_frame (Some told) number k = hear_message told.0 told.1 number k
hear_frame None number k = with_world (close BadFrame number) k

-- ---- frames in the bytes that came (7.1)

-- a header that tells less than its own length closes the connection
abbrev pub hear_front : Front → (number : ℕ) → Monitor → Monitor
hear_front Part number k = k
hear_front (Frame frame) number k = hear_frame (reads frame) number k
hear_front Bad number k = with_world (close BadFrame number) k

abbrev pub hear_next : (number : ℕ) → Monitor → Monitor
hear_next number k = hear_front (front (unread number k.said.world)) number (with_world (read number) k)

-- each frame, so many at most; behind one that closed the connection nothing is heard
abbrev pub hear_frames : (most : ℕ) → (number : ℕ) → Monitor → Monitor
hear_frames zero number k = k
hear_frames (suc most) number k = if has_frame number k.said.world then hear_frames most number (hear_next number k) else hear_next number k

abbrev pub hear_all : (number : ℕ) → Monitor → Monitor
hear_all number k = hear_frames (length (unread number k.said.world)) number k

-- ---- one turn

-- the connections are looked after, by number
abbrev pub looked : Said → Said
looked s = record s { world = look_each (map (λ c. c.number) s.world.conns) s.world }

-- and then it is polled
abbrev pub pass_in : Monitor → Monitor
pass_in k = record k { said = poll_due 0 k.watchers (looked k.said) }

abbrev pub opened : (number : ℕ) → Monitor → Monitor
opened number k = record k {
  said = record { world = open_conn number k.said.world; polls = of_others number k.said.polls; waits = without_conn number k.said.waits };
}

-- what opens is new, and what is heard or ends is open; else nothing is done. A reload is passed over.
abbrev pub work : Happening → Monitor → Monitor
work (happenings.Opened number) k = if is_open k.said.world.conns number then k else opened number k
work (happenings.Heard number piece) k = if is_open k.said.world.conns number then hear_all number (with_world (feed number piece) k) else k
work (happenings.Closed number cause) k = if is_open k.said.world.conns number then with_world (ended (closing_for cause) number) k else k
work (happenings.Moment moment) k = pass_in (with_world (show moment) k)
work (happenings.Reload text) k = k

-- nothing is said yet, and no line and no block is given
abbrev pub anew : Monitor → Monitor
anew k = record k { said = record k.said { world = record k.said.world { said = [] } }; lines = [] }

-- what is said and which lines are given count from the turn's beginning
abbrev pub turn : Happening → Monitor → Monitor
turn h k = work h (anew k)

-- ---- stories

-- what is known behind all that happens
abbrev pub behind : Monitor → List Happening → Monitor
behind k [] = k
behind k (h ∷ hs) = behind (turn h k) hs

-- the lines and blocks that are given of it, in order
abbrev pub lines_of : Monitor → List Happening → List (List ℕ)
lines_of k [] = []
lines_of k (h ∷ hs) = (turn h k).lines ++ lines_of (turn h k) hs
