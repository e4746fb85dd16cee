-- Where the description's routing leads an address, and which neighbour is wanted because of a packet for it.
use Rattle.std.specs.Prelude.{◌≡◌, ℕ, Contains, Option, Some, None, List, []}
use Rattle.std.specs.Option.{option_map_or}
use Rattle.net_base.specs.declared.numbers.DpId.{DpId}
use Rattle.conf_types.specs.declared.address.Ip.{Ip}
use Rattle.conf_types.specs.declared.address.Net.{Net}
use Rattle.conf_types.specs.Configuration.{Configuration, vlan_with}
use Rattle.conf_types.specs.Groups.{group_of}
use Rattle.conf_types.specs.Networks.{Holds}
use Rattle.conf_types.specs.Routing.{routing_set, vips_from}
use Rattle.packet_way.specs.declared.routes.RouteItem.{RouteItem}
use Rattle.packet_way.specs.declared.routes.Target.TheVariants.{Network}
use Rattle.packet_way.specs.Routes.{longest, route_list}
use Rattle.pkt_view.specs.Frame.{FrameParts}
use Rattle.ctl_world.specs.World.{World}
use Rattle.ctl_packets.specs.Packets.{glean, want}

-- the item of the route list that an address takes: the one with the longest prefix
abbrev pub led : World → DpId → (vid : ℕ) → Ip → Option RouteItem
led w dp vid to = longest (route_list w.conf w.neighbours.neighbours (group_of w.conf dp) vid) to

-- it leads into a network, where neighbours are still to be found
abbrev pub LeadsIntoNetwork : World → DpId → (vid : ℕ) → Ip → Type 0
LeadsIntoNetwork w dp vid to = (item : RouteItem) × (led w dp vid to ≡ Some item) × (item.to ≡ Network)

-- the VIPs of a VLAN that packets of VLAN vid are routed by
abbrev pub routed_vips : Configuration → (vid other : ℕ) → List Net
routed_vips conf vid other = option_map_or (vips_from vid) (vlan_with conf.vlans other) []

-- the address lies in a network of such a VIP of this VLAN, to which packets of that one are routed
pub record LiesIn (conf : Configuration) (vid : ℕ) (to : Ip) (other : ℕ) : Type 0 where
  pub routed : Contains (routing_set conf vid) other
  pub vip : Net
  pub here : Contains (routed_vips conf vid other) vip
  pub holds : Holds vip to

-- because of the packet the neighbour with the address is wanted in the VLAN of that network, and nothing else comes of it
abbrev pub WantsThere : World → DpId → (vid : ℕ) → FrameParts → Ip → Type 0
WantsThere w dp vid frame to = (other : ℕ) × LiesIn w.conf vid to other × (glean dp vid frame w ≡ want (group_of w.conf dp) other to w)
