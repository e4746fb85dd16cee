-- Packets that a datapath drops, by its settings.
use Rattle.std.specs.Prelude.{◌==◌, ◌&&◌, ◌||◌, Bool}
use Rattle.net_base.specs.Address.{mac_value}
use Rattle.of_match.specs.declared.packet.Packet.{Packet}
use Rattle.conf_types.specs.declared.datapath.Dp.{Dp}
use Rattle.conf_types.specs.Configuration.{Configuration}
use Rattle.conf_types.specs.State.{is_gateway_address}
use Rattle.packet_way.specs.declared.drops.TheConstants.{BROADCAST, PVST_GROUP, BRIDGE_GROUP}
use Rattle.of_match.specs.declared.ether_type.TheConstants.{LLDP}

-- what bridges say to each other: IEEE 802.1D's, and Cisco's
abbrev pub is_of_bridges : Packet → Bool
is_of_bridges p = mac_value p.dst == BRIDGE_GROUP || mac_value p.dst == PVST_GROUP

abbrev pub is_dropped : Configuration → Dp → Packet → Bool
is_dropped conf d p =
    (d.drop_bpdu && is_of_bridges p) || (d.drop_lldp && p.eth_type == LLDP) || (d.drop_broadcast && mac_value p.src == BROADCAST)
    || (d.drop_spoofed && is_gateway_address conf p.src.0)
