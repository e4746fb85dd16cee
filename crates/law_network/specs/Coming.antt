-- How a packet comes into a network, up to the step of known destinations at the datapath that took it in.
use Rattle.std.specs.Prelude.{◌≡◌, ◌&&◌, ◌||◌, Bool, true, false, List, [], Some, ℕ, option_and_then}
use Rattle.net_base.specs.Address.{is_group}
use Rattle.of_match.specs.Shaped.{IsShaped}
use Rattle.of_match.specs.declared.packet.Packet.{Packet}
use Rattle.stack_paths.specs.Stack.{IsJoined}
use Rattle.conf_types.specs.declared.datapath.Dp.{Dp}
use Rattle.conf_types.specs.declared.datapath.Port.{Port}
use Rattle.conf_types.specs.declared.state.HostRec.{HostRec}
use Rattle.conf_types.specs.declared.vlan.Vlan.{Vlan}
use Rattle.conf_types.specs.Configuration.{Configuration, dp_with, port_with, vlan_with}
use Rattle.conf_types.specs.Groups.{group_of}
use Rattle.conf_types.specs.Membership.{is_edge, is_accepting}
use Rattle.conf_types.specs.State.{State, IsValidState}
use Rattle.conf_types.specs.Valid.{IsValid}
use Rattle.packet_way.specs.declared.known.Onward.TheVariants.{Everywhere}
use Rattle.packet_way.specs.declared.routes.Routed.TheVariants.{GoesOn}
use Rattle.packet_way.specs.declared.source.Heard.TheVariants.{Ends}
use Rattle.packet_way.specs.Admission.{admitted_to, tagged_with}
use Rattle.packet_way.specs.Drops.{is_dropped}
use Rattle.packet_way.specs.Known.{stack_of, host_with, onward}
use Rattle.packet_way.specs.Routes.{route_list, routed}
use Rattle.packet_way.specs.Source.{heard}
use Rattle.packet_way.specs.Verdict.{acl_sends, is_allowed}
use Rattle.plan_units.specs.Laws.{HasAddresses}

-- a valid configuration and state, in which the addresses of hosts and neighbours are Ethernet addresses
pub record IsNetwork (conf : Configuration) (now : State) : Type 0 where
  pub valid : IsValid conf
  pub state : IsValidState conf now
  pub addresses : HasAddresses now

-- ACLs let the packet on, and send nothing of it elsewhere
pub record LetOn (conf : Configuration) (d : Dp) (acls : List (List ℕ)) (port : ℕ) (p : Packet) : Type 0 where
  pub allows : is_allowed conf acls port p ≡ true
  pub sends : acl_sends conf d acls port p ≡ []

-- VLAN v admits a packet that came in by an edge port that takes packets in; nothing drops it, and the ACLs of
-- the port and of the VLAN let it on and send nothing of it elsewhere
pub record IsLetIn (conf : Configuration) (d : Dp) (i : Port) (p : Packet) (v : Vlan) : Type 0 where
  pub is_dp : dp_with conf.dps d.id ≡ Some d
  pub is_port : port_with d.ports i.no ≡ Some i
  pub takes : is_accepting i ≡ true
  pub port_acls : LetOn conf d i.acls i.no p
  pub kept : is_dropped conf d p ≡ false
  pub admitted : option_and_then (vlan_with conf.vlans) (admitted_to i p) ≡ Some v
  pub vlan_acls : LetOn conf d v.acls i.no (tagged_with v.vid p)

-- it comes to the step of known destinations in VLAN w as packet y: its source lets it on, and routing leads
-- it there, which without a VIP leaves it where it is
pub record ComesToDestinations (conf : Configuration) (now : State) (d : Dp) (i : Port) (p : Packet) (w : Vlan) (y : Packet) : Type 0 where
  pub admitting : Vlan
  pub let_in : IsLetIn conf d i p admitting
  pub goes_on : heard conf now d i admitting (tagged_with admitting.vid p).src ≡ Ends → ⊥
  pub routed : routed (route_list conf now.neighbours (group_of conf d.id) admitting.vid) admitting (tagged_with admitting.vid p) ≡ GoesOn w.vid y
  pub is_vlan : vlan_with conf.vlans w.vid ≡ Some w

-- a packet that fits its headers came in by a port without `hairpin`, and comes to the step of known
-- destinations
pub record ComesIn (conf : Configuration) (now : State) (d : Dp) (i : Port) (p : Packet) (w : Vlan) (y : Packet) : Type 0 where
  pub network : IsNetwork conf now
  pub shaped : IsShaped p
  pub no_hairpin : i.hairpin ≡ false
  pub comes : ComesToDestinations conf now d i p w y

-- it is flooded there: no host of the group has its destination, or none that links lead to
abbrev pub IsFlooded : Configuration → State → Dp → Vlan → Packet → Type 0
IsFlooded conf now d w y = onward conf now.hosts (stack_of conf now.ups) d w.vid y.dst ≡ Everywhere

-- a flood of the packet may leave by the port: a group address by each, any other where `unicast_flood` is set
-- for the VLAN and for the port
abbrev pub may_flood : Vlan → Packet → Port → Bool
may_flood w y q = is_group y.dst || (w.unicast_flood && q.unicast_flood)

-- an edge port of a datapath
pub record IsEdgePort (conf : Configuration) (e : Dp) (q : Port) : Type 0 where
  pub is_dp : dp_with conf.dps e.id ≡ Some e
  pub is_port : port_with e.ports q.no ≡ Some q
  pub edge : is_edge q ≡ true

-- its destination is host h, on a datapath that links join to this one
pub record IsFor (conf : Configuration) (now : State) (d : Dp) (w : Vlan) (y : Packet) (h : HostRec) : Type 0 where
  pub known : host_with conf now.hosts d w.vid y.dst ≡ Some h
  pub joined : IsJoined (stack_of conf now.ups) d.id h.dp
