-- When what happens changes something that a settling looks at.
use Rattle.std.specs.Prelude.{◌≡◌, IsSomeAnd, ℕ, zero, suc, ◌&&◌, ◌||◌, not, max, Bool, true, false, is_ok, [], length, map, Option, Some, None}
use Rattle.std.specs.List.{list_any}
use Rattle.std.specs.Option.{option_map_or}
use Rattle.net_base.specs.declared.numbers.DpId.{DpId}
use Rattle.fg_outside.specs.declared.hub.Happening.{Happening}
use Rattle.fg_outside.specs.declared.hub.Happening.TheVariants as happenings
use Rattle.of13_codec.specs.declared.message.Message.{Message}
use Rattle.of13_codec.specs.declared.message.Message.TheVariants as messages
use Rattle.switch_session.specs.declared.state.Step.{Step}
use Rattle.switch_session.specs.declared.state.Step.TheVariants as steps
use Rattle.switch_session.specs.Stages.{leads}
use Rattle.ctl_world.specs.declared.conns.Conn.{Conn}
use Rattle.ctl_world.specs.declared.frames.Front.{Front}
use Rattle.ctl_world.specs.declared.frames.Front.TheVariants.{Part, Frame, Bad}
use Rattle.ctl_world.specs.Connections.{conn_with, is_open}
use Rattle.ctl_world.specs.Frames.{front}
use Rattle.switch_session.specs.Staying.{leaves}
use Rattle.ctl_world.specs.World.{World}
use Rattle.ctl_packets.specs.Changes.{packet_changes}
use Rattle.ctl_life.specs.Life.{has_frame, read, says, unread, feed}
use Rattle.ctl_core.specs.Hearing.{hear_next}
use Rattle.ctl_core.specs.Reloading.{accepted}
use Rattle.ctl_life.specs.Silence.{falls_silent, show}

-- ---- one message

abbrev pub heard_packet_changes : Message → Option DpId → World → Bool
heard_packet_changes (messages.PacketIn m) (Some dp) w = packet_changes m dp w
heard_packet_changes m dp w = false

-- a packet changes what it tells; a setup goes on, or the connection is closed
abbrev pub step_changes : Step → Message → Option DpId → World → Bool
step_changes steps.Nothing m dp w = false
step_changes steps.Settled m dp w = false
step_changes (steps.PortChanged port) m dp w = false
step_changes steps.Echo m dp w = false
step_changes steps.Packet m dp w = heard_packet_changes m dp w
step_changes steps.AskFeatures m dp w = true
step_changes (steps.Features id n_tables auxiliary) m dp w = true
step_changes steps.PortsKnown m dp w = true
step_changes steps.Wiped m dp w = true
step_changes (steps.Close cause) m dp w = true

-- the message isn't one of those that leave the state of its connection, or its step changes something
abbrev pub message_changes_on : Message → (xid : ℕ) → World → Conn → Bool
message_changes_on m xid w c = not (leaves c.session.state m xid) || step_changes (leads c.session.state m xid).1 m c.dp w

abbrev pub message_changes : Message → (xid : ℕ) → (number : ℕ) → World → Bool
message_changes m xid number w = option_map_or (message_changes_on m xid w) (conn_with w.conns number) false

-- the connection of this datapath is there, and the message isn't one of those that leave its state
abbrev pub Changes : Message → (xid : ℕ) → Option DpId → Option Conn → Type 0
Changes m xid dp o = IsSomeAnd o (λ c. (c.dp ≡ dp) × (leaves c.session.state m xid ≡ false))

-- a frame that spells no message closes its connection
abbrev pub frame_changes : Option (Message × ℕ) → (number : ℕ) → World → Bool
frame_changes (Some said) number w = message_changes said.0 said.1 number w
frame_changes None number w = true

-- ---- the bytes that came

abbrev pub front_changes : Front → (number : ℕ) → World → Bool
front_changes Part number w = false
front_changes (Frame frame) number w = frame_changes (says frame) number w
front_changes Bad number w = true

abbrev pub next_changes : (number : ℕ) → World → Bool
next_changes number w = front_changes (front (unread number w)) number (read number w)

-- one of the frames does, of so many at most
abbrev pub any_changes : (most : ℕ) → (number : ℕ) → World → Bool
any_changes zero number w = false
any_changes (suc most) number w = next_changes number w || (has_frame number w && any_changes most number (hear_next number w))

abbrev pub unread_changes : (number : ℕ) → World → Bool
unread_changes number w = any_changes (length (unread number w)) number w

-- ---- the clock

-- ---- one turn

-- a connection that opens or ends does; bytes do where a frame in them does, a moment where a connection falls silent at
-- it, and a reload where its text has a configuration
abbrev pub changes : Happening → World → Bool
changes (happenings.Opened number) w = not (is_open w.conns number)
changes (happenings.Heard number piece) w = is_open w.conns number && unread_changes number (feed number piece w)
changes (happenings.Closed number cause) w = is_open w.conns number
changes (happenings.Moment moment) w = list_any (falls_silent (show moment w)) (map (λ c. c.number) w.conns)
changes (happenings.Reload text) w = is_ok (accepted text)

-- what is said counts from the turn's beginning
abbrev pub turn_changes : Happening → World → Bool
turn_changes h w = changes h (record w { said = [] })

-- the moment that the clock shows when it has happened
abbrev pub latest : Happening → World → ℕ
latest (happenings.Moment moment) w = max w.moment.0 moment
latest h w = w.moment.0
