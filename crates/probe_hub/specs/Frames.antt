-- The frames in the bytes of a connection (OpenFlow 1.3, 7.1), and those of them that are looked into.
use Rattle.std.specs.Prelude.{ℕ, ◌==◌, ◌&&◌, ◌||◌, nat_lt, nat_le, Bool, if◌then◌else◌, List, length, Option, Some, None, Result, Ok, Err}
use Rattle.of_wire.specs.Numbers.{number_in}
use Rattle.of13_codec.specs.declared.message.Message.{Message}
use Rattle.of13_codec.specs.declared.refused.WireRefused.{WireRefused}
use Rattle.of13_codec.specs.Decoding.{decoded}
use Rattle.switch_session.specs.Frames.{told_length}

-- how many bytes the frame at the front takes; None where less than a frame stands there, or a header that tells fewer bytes
-- than it has itself
abbrev pub frame_len : List ℕ → Option ℕ
frame_len bytes =
    if nat_lt (length bytes) 8 then None
    else if nat_lt (told_length bytes) 8 || nat_lt (length bytes) (told_length bytes) then None
    else Some (told_length bytes)

-- a multipart message of type 13, ports' descriptions (7.3.5)
abbrev pub is_of_ports : List ℕ → Bool
is_of_ports frame = nat_le 10 (length frame) && (number_in 8 2 frame == 13)

-- HELLO, FEATURES_REPLY, PORT_STATUS, where packets matter PACKET_IN, and ports' descriptions are looked into, by their
-- types 0, 6, 12, 10 and 19; all else is passed over
abbrev pub is_read : (packets : Bool) → List ℕ → Bool
is_read packets frame =
    (number_in 1 1 frame == 0) || ((number_in 1 1 frame == 6) || ((number_in 1 1 frame == 12)
    || (((number_in 1 1 frame == 10) && packets) || ((number_in 1 1 frame == 19) && is_of_ports frame))))

-- the message that a frame spells, with its transaction id
abbrev pub says_by : Result (Message × ℕ) WireRefused → Option (Message × ℕ)
says_by (Ok said) = Some said
says_by (Err refused) = None

abbrev pub says : (frame : List ℕ) → Option (Message × ℕ)
says frame = says_by (decoded frame)

-- a message is the request for the ports' descriptions: a MULTIPART_REQUEST of type 13 (7.3.5.7)
abbrev pub asks_ports : List ℕ → Bool
asks_ports message = nat_le 10 (length message) && ((number_in 1 1 message == 18) && is_of_ports message)

-- its transaction id
abbrev pub asked_id : List ℕ → Option ℕ
asked_id message = if asks_ports message then Some (number_in 4 4 message) else None
