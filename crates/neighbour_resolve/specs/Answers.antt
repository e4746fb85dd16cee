-- What a VLAN's gateway answers to a frame.
use Rattle.std.specs.Prelude.{ℕ, ◌==◌, ◌&&◌, not, Bool, List, if◌then◌else◌}
use Rattle.std.specs.List.{list_any}
use Rattle.std.specs.Option.{option_map_or}
use Rattle.net_base.specs.Address.{is_group}
use Rattle.net_base.specs.declared.address.Ip4.{Ip4}
use Rattle.net_base.specs.declared.address.Mac.{Mac}
use Rattle.net_base.specs.declared.numbers.DpId.{DpId}
use Rattle.conf_types.specs.declared.address.Ip.{Ip}
use Rattle.conf_types.specs.declared.address.Ip.TheVariants as ip
use Rattle.conf_types.specs.declared.vlan.Vlan.{Vlan}
use Rattle.conf_types.specs.Configuration.{Configuration, vlan_with}
use Rattle.conf_types.specs.Networks.{is_vip}
use Rattle.conf_types.specs.Routing.{routing_set, vips_of}
use Rattle.pkt_view.specs.Frame.{FrameParts, UpperParts, Unknown, Arp, V4, V6}
use Rattle.pkt_view.specs.Numbers.{ip4_at, ip6_at}
use Rattle.pkt_view.specs.Replies.{arp_reply, echo_reply, nd_advert}
use Rattle.neighbour_resolve.specs.declared.answers.Reply.{Reply}
use Rattle.neighbour_resolve.specs.declared.answers.Reply.TheVariants.{ArpReply, EchoReply, Advert, Nothing}
use Rattle.neighbour_resolve.specs.declared.discovery.NdMessage.{NdMessage}
use Rattle.neighbour_resolve.specs.Counted.{counted_vid}
use Rattle.neighbour_resolve.specs.Discovery.{nd_message}

-- the address is a VIP of one of the VLANs that packets of this one are routed to
abbrev pub is_routed_vip : Configuration → (vid : ℕ) → Ip → Bool
is_routed_vip conf vid to = list_any (λ w. is_vip (vips_of conf w) to) (routing_set conf vid)

-- to an ARP request (1) for a VIP of the VLAN the reply, which goes to the frame's source and to the sender's
-- address, whatever that is (RFC 826)
abbrev pub arp_answer : Vlan → (to : Mac) → (op : ℕ) → (spa tpa : Ip4) → Reply
arp_answer vlan to op spa tpa = if (op == 1) && is_vip vlan.vips (ip.V4 tpa) then ArpReply (arp_reply vlan.mac tpa to spa) else Nothing

-- to a neighbour's solicitation (135) of a VIP of the VLAN the advertisement, which goes to the frame's source and to
-- the packet's, unless that is :: (RFC 4861, 7.2.4)
abbrev pub nd_answer : Vlan → (to : Mac) → NdMessage → Reply
nd_answer vlan to m =
    if (m.kind == 135) && is_vip vlan.vips (ip.V6 m.target) && not (m.source.0 == 0) then Advert (nd_advert vlan.mac m.target to m.source)
    else Nothing

-- to a packet for a routed VIP the echo reply, where one is due (RFC 792; RFC 4443, 4.2)
abbrev pub echo_answer : Configuration → Vlan → FrameParts → (to : Ip) → Reply
echo_answer conf vlan frame to =
    if is_routed_vip conf vlan.vid to then option_map_or EchoReply (echo_reply vlan.mac frame) Nothing
    else Nothing

-- to a packet of IPv6, which is a message of neighbour discovery or may be an echo request
abbrev pub v6_answer : Configuration → Vlan → FrameParts → (header body : List ℕ) → Reply
v6_answer conf vlan frame header body =
    option_map_or (nd_answer vlan frame.src) (nd_message frame.src header body) (echo_answer conf vlan frame (ip.V6 (ip6_at 24 header)))

-- by what stands behind the EtherType
abbrev pub upper_answer : Configuration → Vlan → FrameParts → UpperParts → Reply
upper_answer conf vlan frame Unknown = Nothing
upper_answer conf vlan frame (Arp op sha spa tha tpa) = arp_answer vlan frame.src op spa tpa
upper_answer conf vlan frame (V4 header body) = echo_answer conf vlan frame (ip.V4 (ip4_at 16 header))
upper_answer conf vlan frame (V6 header body) = v6_answer conf vlan frame header body

-- a frame from a group address gets no answer
abbrev pub answer_in : Configuration → FrameParts → Vlan → Reply
answer_in conf frame vlan = if is_group frame.src then Nothing else upper_answer conf vlan frame frame.upper

-- the answer, untagged, to a frame that came in by a port
abbrev pub answer : Configuration → DpId → ℕ → FrameParts → Reply
answer conf dp port frame =
    option_map_or (λ vid. option_map_or (answer_in conf frame) (vlan_with conf.vlans vid) Nothing) (counted_vid conf dp port frame) Nothing
