-- How a packet is written that leaves by a port.
use Rattle.std.specs.Prelude.{ℕ, ◌==◌, if◌then◌else◌, List, [], ◌∷◌, ◌++◌, codes}
use Rattle.std.specs.Fmt.{decimal}
use Rattle.std.specs.List.{flat_map}
use Rattle.net_base.specs.Address.{mac_text}
use Rattle.of_match.specs.declared.action.TheConstants.{CONTROLLER}
use Rattle.of_match.specs.declared.packet.Packet.{Packet}
use Rattle.of_match.specs.declared.packet.Tag.{Tag}
use Rattle.of_match.specs.declared.packet.Upper.{Upper}
use Rattle.of_match.specs.declared.packet.Upper.TheVariants.{None as NoUpper, Arp, V4, V6}

-- the port's number, or the word for the controller
abbrev pub port_text : ℕ → List ℕ
port_text port = if port == CONTROLLER then codes "controller" else decimal port

-- a comma and the VLAN of a tag
abbrev pub further_tag : Tag → List ℕ
further_tag tag = codes "," ++ decimal tag.vid

-- the VLANs of the tags, the outermost first; a dash where there is none
abbrev pub tags_text : List Tag → List ℕ
tags_text [] = codes "-"
tags_text (tag ∷ tags) = decimal tag.vid ++ flat_map further_tag tags

-- the time to live of an IPv4 packet (RFC 791, 3.1), or the hop limit of an IPv6 packet (RFC 8200, 3); a dash of
-- any other
abbrev pub ttl_text : Upper → List ℕ
ttl_text NoUpper = codes "-"
ttl_text (Arp op spa tpa) = codes "-"
ttl_text (V4 src dst proto ttl l4) = decimal ttl
ttl_text (V6 src dst proto hops l4) = decimal hops

-- port, tags, source, destination and time to live or hop limit, with a space between, and the line's end
abbrev pub sent_line : (port : ℕ) → Packet → List ℕ
sent_line port p =
    port_text port ++ codes " " ++ tags_text p.tags ++ codes " " ++ mac_text p.src.0 ++ codes " " ++ mac_text p.dst.0 ++ codes " " ++ ttl_text p.upper ++ 10 ∷ []
