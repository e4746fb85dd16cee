-- What is touched by the bytes that came on a connection.
use Rattle.std.specs.Prelude.{ℕ, zero, suc, if◌then◌else◌, List, [], ◌++◌, length, Option, Some, None}
use Rattle.std.specs.Option.{option_map_or}
use Rattle.net_base.specs.declared.numbers.DpId.{DpId}
use Rattle.of13_codec.specs.declared.message.Message.{Message}
use Rattle.of13_codec.specs.declared.message.Message.TheVariants as messages
use Rattle.switch_session.specs.declared.closing.Closing.{Closing}
use Rattle.switch_session.specs.declared.closing.Closing.TheVariants.{BadFrame}
use Rattle.switch_session.specs.declared.state.Step.{Step}
use Rattle.switch_session.specs.declared.state.Step.TheVariants as steps
use Rattle.switch_session.specs.Stages.{leads}
use Rattle.ctl_world.specs.declared.conns.Conn.{Conn}
use Rattle.ctl_world.specs.declared.frames.Front.{Front}
use Rattle.ctl_world.specs.declared.frames.Front.TheVariants.{Part, Frame, Bad}
use Rattle.ctl_world.specs.Connections.{change, conn_with, with_heard}
use Rattle.ctl_world.specs.Ends.{close, forget_lost}
use Rattle.ctl_world.specs.Frames.{front}
use Rattle.ctl_world.specs.World.{World}
use Rattle.ctl_life.specs.Life.{feed, has_frame, read, replace, says, unread}
use Rattle.ctl_core.specs.Hearing.{hear_frame, hear_next, unfit}
use Rattle.conf_types.specs.declared.change.Change.{Change}
use Rattle.law_names.specs.Ends.{by_change, by_end, by_replace, by_take}
use Rattle.law_names.specs.Packets.{by_packet_in}
use Rattle.law_changes.specs.Settlings.{by_settling}

-- ---- one message

abbrev pub by_introduce : (number : ℕ) → DpId → Option Closing → World → List Change
by_introduce number dp (Some cause) w = by_end number w
by_introduce number dp None w = by_replace dp w ++ by_take number dp (replace dp w)

abbrev pub by_packet : Message → Option DpId → World → List Change
by_packet (messages.PacketIn m) (Some dp) w = by_packet_in m dp w
by_packet m dp w = []

-- what follows from the step that a connection took. A datapath that begins to run was named with that step
abbrev pub by_step : Step → Message → (number : ℕ) → Option DpId → World → List Change
by_step steps.Nothing m number dp w = []
by_step steps.AskFeatures m number dp w = []
by_step (steps.Features id n_tables auxiliary) m number dp w = by_introduce number id (unfit w.conf id n_tables auxiliary) w
by_step steps.PortsKnown m number dp w = []
by_step steps.Wiped m number dp w = []
by_step steps.Settled m number dp w = []
by_step (steps.PortChanged port) m number dp w = []
by_step steps.Packet m number dp w = by_packet m dp w
by_step steps.Echo m number dp w = []
by_step (steps.Close cause) m number dp w = by_end number w

abbrev pub by_message_on : Message → (xid number : ℕ) → World → Conn → List Change
by_message_on m xid number w c =
    by_change number (with_heard m xid) w
    ++ by_step (leads c.session.state m xid).1 m number c.dp (forget_lost (record w { conns = change number (with_heard m xid) w.conns }))

abbrev pub by_message : Message → (xid number : ℕ) → World → List Change
by_message m xid number w = option_map_or (by_message_on m xid number w) (conn_with w.conns number) []

abbrev pub by_frame : Option (Message × ℕ) → (number : ℕ) → World → List Change
by_frame (Some said) number w = by_message said.0 said.1 number w
by_frame None number w = by_end number w

-- ---- the bytes, each frame with its settling

abbrev pub by_front : Front → (number : ℕ) → World → List Change
by_front Part number w = []
by_front (Frame frame) number w = by_frame (says frame) number w ++ by_settling (hear_frame (says frame) number w)
by_front Bad number w = by_end number w ++ by_settling (close BadFrame number w)

abbrev pub by_next : (number : ℕ) → World → List Change
by_next number w = by_front (front (unread number w)) number (read number w)

abbrev pub by_frames : (most : ℕ) → (number : ℕ) → World → List Change
by_frames zero number w = []
by_frames (suc most) number w =
    if has_frame number w then by_next number w ++ by_frames most number (hear_next number w) else by_next number w

abbrev pub by_unread : (number : ℕ) → World → List Change
by_unread number w = by_frames (length (unread number w)) number w

abbrev pub by_piece : (number : ℕ) → (piece : List ℕ) → World → List Change
by_piece number piece w = by_unread number (feed number piece w)
