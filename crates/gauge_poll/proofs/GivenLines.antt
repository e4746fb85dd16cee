-- Which lines are given of what happens.
use Rattle.std.proofs.Common.{◌≡◌, ℕ, suc, ◌++◌, Bool, true, false, Option, Some, None, option_and_then, List, [], ◌∷◌, refl, ap, true≢false, if◌then◌else◌}
use Rattle.std.specs.Option.{option_map_or}
use Rattle.fg_outside.specs.declared.hub.EndCause.{EndCause}
use Rattle.fg_outside.specs.declared.hub.Happening.TheVariants as happenings
use Rattle.conf_types.specs.declared.datapath.Dp.{Dp}
use Rattle.gauge_conf.specs.declared.gauge.Watcher.{Watcher}
use Rattle.of13_codec.specs.declared.message.Message.{Message}
use Rattle.ctl_world.specs.declared.conns.Conn.{Conn}
use Rattle.ctl_world.specs.Connections.{conn_with, is_open}
use Rattle.ctl_world.specs.Ends.{ended}
use Rattle.ctl_life.specs.Life.{closing_for, feed}
use Rattle.gauge_poll.specs.declared.telling.Telling.{Telling}
use Rattle.gauge_poll.specs.declared.telling.Telling.TheVariants.{Ports, Flows, State, Nothing}
use Rattle.gauge_poll.specs.Lines.{told_lines}
use Rattle.gauge_poll.specs.Polls.{Said}
use Rattle.gauge_poll.specs.Telling.{is_telling, told_by}
use Rattle.gauge_poll.specs.Monitoring.{Monitor, dp_on, hear_all, hear_message, hear_on, opened, turn, with_world}

none_behind : {A : Type 0} (xs : List A) → xs ≡ xs ++ []
none_behind [] = refl
none_behind (x ∷ xs) = ap (λ ys. x ∷ ys) (none_behind xs)

either_none : (b : Bool) (k m : Monitor) → k.lines ≡ [] → m.lines ≡ [] → (if b then k else m).lines ≡ []
either_none true k m here there = here
either_none false k m here there = there

abbrev begin : Monitor → Monitor
begin m = record m { said = record m.said { world = record m.said.world { said = [] } }; lines = [] }

pub opened_none : (number : ℕ) (m : Monitor) → (turn (happenings.Opened number) m).lines ≡ []
opened_none number m = either_none (is_open m.said.world.conns number) (begin m) (opened number (begin m)) refl refl

pub closed_none : (number : ℕ) (cause : EndCause) (m : Monitor) → (turn (happenings.Closed number cause) m).lines ≡ []
closed_none number cause m = either_none (is_open m.said.world.conns number) (with_world (ended (closing_for cause) number) (begin m)) (begin m) refl refl

pub shut_none : (number : ℕ) (piece : List ℕ) (m : Monitor) → is_open m.said.world.conns number ≡ false → (turn (happenings.Heard number piece) m).lines ≡ []
shut_none number piece m shut = ap (λ b. (if b then hear_all number (with_world (feed number piece) (begin m)) else begin m).lines) shut

pub message_lines : (msg : Message) (xid number : ℕ) (m : Monitor)
    → (hear_message msg xid number m).lines ≡ m.lines ++ option_map_or (told_lines 0 m.watchers m.said number (told_by msg) xid) (option_and_then (dp_on m.said.world) (conn_with m.said.world.conns number)) []
message_lines msg xid number m = by (conn_with m.said.world.conns number)
  where
    by : (o : Option Conn) → (option_map_or (hear_on msg xid number m) o m).lines ≡ m.lines ++ option_map_or (told_lines 0 m.watchers m.said number (told_by msg) xid) (option_and_then (dp_on m.said.world) o) []
    by (Some c) = refl
    by None = none_behind m.lines

pub others_none : (place : ℕ) (ws : List Watcher) (s : Said) (conn : ℕ) (told : Telling) (xid : ℕ) (d : Dp) → is_telling told ≡ false → told_lines place ws s conn told xid d ≡ []
others_none place [] s conn told xid d none = refl
others_none place (w ∷ ws) s conn (Ports more stats) xid d none = absurd (true≢false none)
others_none place (w ∷ ws) s conn (Flows part) xid d none = absurd (true≢false none)
others_none place (w ∷ ws) s conn (State reason port) xid d none = absurd (true≢false none)
others_none place (w ∷ ws) s conn Nothing xid d none = others_none (suc place) ws s conn Nothing xid d none
