-- Whom a frame lets hear.
use Rattle.std.specs.Prelude.{ℕ, ◌&&◌, not, Option, Some, None, if◌then◌else◌}
use Rattle.std.specs.Option.{option_and_then}
use Rattle.net_base.specs.Address.{is_group}
use Rattle.net_base.specs.declared.address.Ip4.{Ip4}
use Rattle.net_base.specs.declared.address.Mac.{Mac}
use Rattle.conf_types.specs.declared.address.Ip.{Ip}
use Rattle.conf_types.specs.declared.address.Ip.TheVariants as ip
use Rattle.conf_types.specs.Configuration.{Configuration}
use Rattle.conf_types.specs.Lists.{is_same}
use Rattle.conf_types.specs.Networks.{is_neighbour_address}
use Rattle.conf_types.specs.Routing.{vips_of}
use Rattle.pkt_view.specs.Frame.{FrameParts, UpperParts, Unknown, Arp, V4, V6}
use Rattle.neighbour_resolve.specs.declared.discovery.NdMessage.{NdMessage}
use Rattle.neighbour_resolve.specs.declared.hearing.Sender.{Sender}
use Rattle.neighbour_resolve.specs.Discovery.{nd_message, who}

-- an address at the Ethernet address that a frame is from: it is a neighbour's of the VLAN, and that is one
-- station's
abbrev pub sender_at : Configuration → (vid : ℕ) → (from : Mac) → Ip → Option Sender
sender_at conf vid from who = if is_neighbour_address (vips_of conf vid) who && not (is_group from) then Some (record { ip = who; mac = from }) else None

-- the sender of an ARP packet (RFC 826), of either operation, where the Ethernet address that it tells is the
-- frame's source
abbrev pub arp_sender : Configuration → (vid : ℕ) → (from sha : Mac) → (spa : Ip4) → Option Sender
arp_sender conf vid from sha spa = if is_same sha.0 from.0 then sender_at conf vid from (ip.V4 spa) else None

-- who is known by a message of neighbour discovery (RFC 4861, 7.2.3 and 7.2.5), where the Ethernet address that it
-- tells, if it does, is the frame's source
abbrev pub nd_sender : Configuration → (vid : ℕ) → (from : Mac) → NdMessage → Option Sender
nd_sender conf vid from m = if m.is_own then sender_at conf vid from (who m) else None

abbrev pub upper_sender : Configuration → (vid : ℕ) → (from : Mac) → UpperParts → Option Sender
upper_sender conf vid from Unknown = None
upper_sender conf vid from (Arp op sha spa tha tpa) = arp_sender conf vid from sha spa
upper_sender conf vid from (V4 header body) = None
upper_sender conf vid from (V6 header body) = option_and_then (nd_sender conf vid from) (nd_message from header body)

abbrev pub heard_sender : Configuration → (vid : ℕ) → FrameParts → Option Sender
heard_sender conf vid frame = upper_sender conf vid frame.src frame.upper
