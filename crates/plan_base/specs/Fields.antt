-- Fields of matches (OpenFlow 1.3, 7.2.3.7).
use Rattle.std.specs.Prelude.{ℕ, ◌+◌, ◌==◌, Option, Some, None, if◌then◌else◌}
use Rattle.net_base.specs.declared.address.Mac.{Mac}
use Rattle.net_base.specs.declared.field.Field.{Field}
use Rattle.net_base.specs.declared.field.FieldId.TheVariants.{InPort, EthDst, EthSrc, EthType, VlanVid, IpProto, Icmpv4Type, ArpTpa, Icmpv6Type, Ipv6NdTarget}
use Rattle.net_base.specs.Address.{mac_value, group_bit}
use Rattle.net_base.specs.Field.{exact, bits, prefix_in}
use Rattle.conf_types.specs.declared.family.Family.{Family}

-- the port that a packet came in by
abbrev pub in_port : ℕ → Field
in_port port = exact InPort port

abbrev pub eth_dst : Mac → Field
eth_dst mac = exact EthDst (mac_value mac)

abbrev pub eth_src : Mac → Field
eth_src mac = exact EthSrc (mac_value mac)

-- any group address: the group bit alone counts
abbrev pub group_dst : Field
group_dst = bits EthDst group_bit

abbrev pub group_src : Field
group_src = bits EthSrc group_bit

abbrev pub eth_type : ℕ → Field
eth_type number = exact EthType number

-- a tag of the VLAN; 0x1000 says that a tag is there
abbrev pub vid_field : ℕ → Field
vid_field vid = exact VlanVid (0x1000 + vid)

-- no tag at all
abbrev pub untagged : Field
untagged = exact VlanVid 0

abbrev pub ip_proto : ℕ → Field
ip_proto number = exact IpProto number

abbrev pub icmpv4_type : ℕ → Field
icmpv4_type number = exact Icmpv4Type number

-- the target's protocol address in ARP
abbrev pub arp_tpa : ℕ → Field
arp_tpa ip = exact ArpTpa ip

abbrev pub icmpv6_type : ℕ → Field
icmpv6_type number = exact Icmpv6Type number

-- the target of a message of neighbour discovery
abbrev pub nd_target : ℕ → Field
nd_target ip = exact Ipv6NdTarget ip

-- the destination is of the network of a family; a prefix without bits takes every address, and has no
-- field
abbrev pub ip_dst : Family → ℕ → ℕ → Option Field
ip_dst f ip len = if len == 0 then None else Some (prefix_in f.width f.destination ip len)
