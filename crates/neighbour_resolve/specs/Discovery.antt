-- Neighbour discovery: which solicitations and advertisements count, and what they tell (RFC 4861).
use Rattle.std.specs.Prelude.{ℕ, zero, suc, ◌-◌, ◌*◌, ◌==◌, ◌&&◌, ◌||◌, not, nat_le, Bool, true, if◌then◌else◌, List, [], ◌∷◌, Option, Some, None, length, take, drop, slice_index}
use Rattle.std.specs.Option.{option_map}
use Rattle.net_base.specs.declared.address.Mac.{Mac}
use Rattle.conf_types.specs.declared.address.Ip.{Ip}
use Rattle.conf_types.specs.declared.address.Ip.TheVariants as ip
use Rattle.conf_types.specs.Lists.{is_same}
use Rattle.pkt_view.specs.Numbers.{ip6_at}
use Rattle.pkt_view.specs.Replies.{checksum6, destination6, message_in, payload_len, source6}
use Rattle.neighbour_resolve.specs.declared.discovery.NdMessage.{NdMessage}

-- ---- a message (4.3 and 4.4)

-- a whole message of ICMPv6 (58) of at least 24 bytes, which no router passed on: its hop limit is 255
unfoldable pub carries_discovery : (header body : List ℕ) → Bool
carries_discovery header body =
    (length header == 40) && (slice_index header 6 == 58) && (slice_index header 7 == 255) && nat_le 24 (payload_len header) && nat_le (payload_len header) (length body)

-- a solicitation (135) or an advertisement (136) of code 0 with a right checksum
unfoldable pub is_discovery : (header message : List ℕ) → Bool
is_discovery header message =
    ((slice_index message 0 == 135) || (slice_index message 0 == 136)) && (slice_index message 1 == 0) && (checksum6 (source6 header) (destination6 header) message == 0)

-- ---- its options (4.6)

-- the type of the option that tells the Ethernet address of who is known by a message (4.6.1)
abbrev pub told_option : (kind : ℕ) → ℕ
told_option kind = if kind == 135 then 1 else 2

-- an option of this type has to begin with this Ethernet address; any other one may hold anything
abbrev pub may_stand : (asked : ℕ) → (mac : List ℕ) → (kind : ℕ) → (value : List ℕ) → Bool
may_stand asked mac kind value = not (kind == asked) || is_same (take 6 value) mac

-- how long the first option is, which tells that in units of 8 bytes; none where that is 0 or the option doesn't
-- lie inside
abbrev pub first_len : List ℕ → Option ℕ
first_len options =
    if nat_le 2 (length options) && not (slice_index options 1 == 0) && nat_le (8 * slice_index options 1) (length options) then Some (8 * slice_index options 1)
    else None

-- Options in a row, each of a type, a length in units of 8 bytes that counts these two bytes too, and a value;
-- so many bytes of the one before come first. None where a length is 0 or an option doesn't lie inside; else
-- whether each may stand there.
abbrev pub options_tell : (asked : ℕ) → (mac : List ℕ) → List ℕ → (left : ℕ) → Option Bool
options_tell asked mac [] zero = Some true
options_tell asked mac [] (suc left) = None
options_tell asked mac (b ∷ more) (suc left) = options_tell asked mac more left
options_tell asked mac (kind ∷ []) zero = None
options_tell asked mac (kind ∷ len ∷ more) zero =
    if len == 0 then None else option_map (λ rest. may_stand asked mac kind more && rest) (options_tell asked mac more (8 * len - 2))

-- ---- what it tells

abbrev pub told_in : (from : Mac) → (header message : List ℕ) → Option NdMessage
told_in from header message =
    option_map (λ own. record { kind = slice_index message 0; source = ip6_at 8 header; target = ip6_at 8 message; is_own = own })
    (options_tell (told_option (slice_index message 0)) from.0 (drop 24 message) 0)

-- the message behind a header, in a frame from an Ethernet address; none where there is none that counts
abbrev pub nd_message : (from : Mac) → (header body : List ℕ) → Option NdMessage
nd_message from header body =
    if carries_discovery header body && is_discovery header (message_in header body) then told_in from header (message_in header body) else None

-- who is known by it (7.2.3 and 7.2.5): the source of a solicitation, the target of an advertisement
abbrev pub who : NdMessage → Ip
who m = ip.V6 (if m.kind == 135 then m.source else m.target)
