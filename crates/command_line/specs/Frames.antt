-- Frames as hexadecimal digits spell them.
use Rattle.std.specs.Prelude.{ℕ, nat_le, if◌then◌else◌, List, length, Option, Some, None, Ok, Err}
use Rattle.hex.specs.Hex.{decode_of}
use Rattle.pkt_view.specs.Frame.{has_type}

-- bytes whose EtherType is there
abbrev pub typed : List ℕ → Option (List ℕ)
typed bytes = if has_type bytes then Some bytes else None

-- the frame that a text spells: an even number of digits of either case, and no more than two for each of 1,522 bytes
-- (the longest tagged frame: IEEE 802.3, 3.2.7)
abbrev pub frame_of : List ℕ → Option (List ℕ)
frame_of text = if nat_le (length text) 3044 then elim (decode_of text) [ Ok bytes ↦ typed bytes | Err cause ↦ None ] else None
