-- What becomes of a connection, whatever is made of what its switch tells.
use Rattle.std.specs.Prelude.{ℕ, List, [], Bool, Option, Some, None, Result, Ok, Err}
use Rattle.std.specs.Option.{option_map_or}
use Rattle.net_base.specs.declared.numbers.DpId.{DpId}
use Rattle.fg_outside.specs.declared.hub.EndCause.{EndCause}
use Rattle.fg_outside.specs.declared.hub.EndCause.TheVariants as ends
use Rattle.of13_codec.specs.declared.message.Message.{Message}
use Rattle.of13_codec.specs.declared.message.Message.TheVariants as messages
use Rattle.of13_codec.specs.declared.refused.WireRefused.{WireRefused}
use Rattle.of13_codec.specs.Decoding.{decoded}
use Rattle.switch_session.specs.declared.closing.Closing.{Closing}
use Rattle.switch_session.specs.declared.closing.Closing.TheVariants.{WrongVersion, Replaced, Overfull, LinkFault, End}
use Rattle.switch_session.specs.Connections.{opened}
use Rattle.ctl_world.specs.Connections.{change, conn_of, conn_with, put, with_dp, with_fed}
use Rattle.ctl_world.specs.Ends.{close, forget_lost}
use Rattle.ctl_world.specs.Frames.{front, is_frame, with_read}
use Rattle.ctl_world.specs.Saying.{repeat, say}
use Rattle.ctl_world.specs.World.{World}

-- ---- it opens, it is set up, it ends

-- a HELLO of version 4, whose bitmap has that version alone (OpenFlow 1.3, 7.5.1)
abbrev pub open_conn : (number : ℕ) → World → World
open_conn number w =
    say number (messages.Hello 4 (Some 16)) (record w { conns = put (record { number = number; session = opened w.moment; dp = None; sent = [] }) w.conns })

-- another connection of the datapath gives way
abbrev pub replace : DpId → World → World
replace dp w = option_map_or (λ c. close Replaced c.number w) (conn_of w.conns dp) w

abbrev pub take_dp : (number : ℕ) → DpId → World → World
take_dp number dp w = forget_lost (record w { conns = change number (with_dp dp) w.conns })

abbrev pub closing_for : EndCause → Closing
closing_for ends.End = End
closing_for ends.LinkFault = LinkFault
closing_for ends.Overfull = Overfull

-- ---- its bytes, and the frames in them (OpenFlow 1.3, 7.1)

abbrev pub feed : (number : ℕ) → (piece : List ℕ) → World → World
feed number piece w = record w { conns = change number (with_fed piece w.moment) w.conns }

abbrev pub unread : (number : ℕ) → World → List ℕ
unread number w = option_map_or (λ c. c.session.unread) (conn_with w.conns number) []

-- what stands at the front is taken
abbrev pub read : (number : ℕ) → World → World
read number w = record w { conns = change number with_read w.conns }

abbrev pub has_frame : (number : ℕ) → World → Bool
has_frame number w = is_frame (front (unread number w))

-- ---- its messages

-- the message that a frame spells, with its transaction id
abbrev pub says_by : Result (Message × ℕ) WireRefused → Option (Message × ℕ)
says_by (Ok said) = Some said
says_by (Err refused) = None

abbrev pub says : (frame : List ℕ) → Option (Message × ℕ)
says frame = says_by (decoded frame)

-- an ECHO_REQUEST is answered with its data and its transaction id (7.5.3)
abbrev pub echo : Message → (number : ℕ) → (xid : ℕ) → World → World
echo (messages.EchoRequest payload) number xid w = repeat number (messages.EchoReply payload) xid w
echo m number xid w = w

-- before a closing for the version goes an ERROR of type 0 and code 0 (OFPET_HELLO_FAILED, OFPHFC_INCOMPATIBLE; 7.4.4)
abbrev pub tell_version : Closing → (number : ℕ) → (xid : ℕ) → World → World
tell_version WrongVersion number xid w = repeat number (messages.Error 0 0 []) xid w
tell_version cause number xid w = w

abbrev pub turn_away : Closing → (number : ℕ) → (xid : ℕ) → World → World
turn_away cause number xid w = close cause number (tell_version cause number xid w)
