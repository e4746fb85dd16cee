-- What datapaths are told to send, to ask for a neighbour or to answer (OpenFlow 1.3, 7.3.7).
use Rattle.std.specs.Prelude.{ℕ, ◌+◌, ◌==◌, ◌++◌, Bool, true, false, Option, Some, None, List, [], ◌∷◌, length, map, filter, nat_lt, if◌then◌else◌}
use Rattle.std.specs.List.{filter_map}
use Rattle.std.specs.Option.{option_map, option_and_then}
use Rattle.net_base.specs.Field.{exact}
use Rattle.net_base.specs.declared.field.FieldId.TheVariants.{VlanVid}
use Rattle.net_base.specs.declared.address.Mac.{Mac}
use Rattle.net_base.specs.declared.numbers.DpId.{DpId}
use Rattle.conf_types.specs.declared.address.Ip.{Ip}
use Rattle.conf_types.specs.declared.address.Ip.TheVariants as ip
use Rattle.conf_types.specs.declared.datapath.Dp.{Dp}
use Rattle.conf_types.specs.declared.datapath.Member.{Member}
use Rattle.conf_types.specs.declared.datapath.Member.TheVariants.{Native, Tagged, Stack}
use Rattle.conf_types.specs.declared.datapath.Member.TheVariants as member_case
use Rattle.conf_types.specs.declared.vlan.Vlan.{Vlan}
use Rattle.conf_types.specs.Configuration.{Configuration, dp_with, vlan_with}
use Rattle.conf_types.specs.Families.{address_of}
use Rattle.conf_types.specs.Groups.{group_of}
use Rattle.conf_types.specs.Membership.{has_edge_member, member_of}
use Rattle.conf_types.specs.Networks.{vip_for}
use Rattle.of_match.specs.declared.action.Action.{Action}
use Rattle.of_match.specs.declared.action.Action.TheVariants.{Output, PushVlan, Set}
use Rattle.of_match.specs.declared.ether_type.TheConstants.{VLAN_TAG}
use Rattle.pkt_view.specs.Replies.{arp_request, nd_solicit}
use Rattle.neighbour_resolve.specs.declared.asks.Outgoing.{Outgoing}

-- ---- the actions on an untagged frame that leaves in a VLAN

abbrev pub out_of : List ℕ → List Action
out_of ports = map (λ port. Output port 0) ports

-- a tag of the VLAN is put on (IEEE 802.1Q, 9.5; OpenFlow 1.3, 7.2.3.7: 0x1000 says that there is a tag)
abbrev pub tag_with : (vid : ℕ) → List Action
tag_with vid = PushVlan VLAN_TAG ∷ Set (exact VlanVid (0x1000 + vid)) ∷ []

-- out of the native members as it is; then, where there are any, out of the tagged ones with a tag
abbrev pub send_in : (vid : ℕ) → (native tagged : List ℕ) → List Action
send_in vid native tagged = out_of native ++ (if length tagged == 0 then [] else tag_with vid ++ out_of tagged)

-- an answer leaves by the port that the frame came in by
abbrev pub send_back : (vid port : ℕ) → Member → List Action
send_back vid port Native = send_in vid (port ∷ []) []
send_back vid port Tagged = send_in vid [] (port ∷ [])
send_back vid port Stack = []
send_back vid port member_case.None = []

-- ---- one datapath's part of an ask

abbrev pub is_native : Member → Bool
is_native Native = true
is_native Tagged = false
is_native Stack = false
is_native member_case.None = false

abbrev pub is_tagged : Member → Bool
is_tagged Native = false
is_tagged Tagged = true
is_tagged Stack = false
is_tagged member_case.None = false

-- the edge ports of a VLAN, by number
abbrev pub native_ports : Dp → ℕ → List ℕ
native_ports d vid = map (λ p. p.no) (filter (λ p. is_native (member_of p vid)) d.ports)

abbrev pub tagged_ports : Dp → ℕ → List ℕ
tagged_ports d vid = map (λ p. p.no) (filter (λ p. is_tagged (member_of p vid)) d.ports)

-- the frame in which the owner of an address asks for another of its family: an ARP request (RFC 826), or a
-- neighbour's solicitation (RFC 4861, 4.3)
abbrev pub asking : Mac → (own target : Ip) → Option (List ℕ)
asking mac (ip.V4 own) (ip.V4 target) = Some (arp_request mac own target)
asking mac (ip.V4 own) (ip.V6 target) = None
asking mac (ip.V6 own) (ip.V4 target) = None
asking mac (ip.V6 own) (ip.V6 target) = Some (nd_solicit mac own target)

-- from the VLAN's gateway address and the VIP whose network holds the address
abbrev pub asking_in : Vlan → Ip → Option (List ℕ)
asking_in vlan target = option_and_then (λ vip. asking vlan.mac (address_of vip) target) (vip_for vlan.vips target)

-- where the datapath has edge ports of the VLAN
abbrev pub ask_on : Dp → Vlan → Ip → Option Outgoing
ask_on d vlan target =
    if has_edge_member d vlan.vid
    then option_map (λ frame. record { frame = frame; actions = send_in vlan.vid (native_ports d vlan.vid) (tagged_ports d vlan.vid) }) (asking_in vlan target)
    else None

abbrev pub ask : Configuration → DpId → ℕ → Ip → Option Outgoing
ask conf dp vid target = option_and_then (λ d. option_and_then (λ vlan. ask_on d vlan target) (vlan_with conf.vlans vid)) (dp_with conf.dps dp)

-- ---- the whole ask

-- identifiers ascending, each once
abbrev pub put_in_order : DpId → List DpId → List DpId
put_in_order id [] = id ∷ []
put_in_order id (first ∷ more) =
    if nat_lt id.0 first.0 then id ∷ first ∷ more
    else if id.0 == first.0 then first ∷ more
    else first ∷ put_in_order id more

abbrev pub in_order : List DpId → List DpId
in_order [] = []
in_order (id ∷ more) = put_in_order id (in_order more)

-- the running datapaths of a group, by identifier
abbrev pub running_in : Configuration → (running : List DpId) → DpId → List DpId
running_in conf running group = filter (λ dp. (group_of conf dp).0 == group.0) (in_order running)

pub record AskOn : Type 0 where
  pub dp : DpId
  pub out : Outgoing

-- what each running datapath of the group is told, those without edge ports of the VLAN being passed over
abbrev pub asks : Configuration → (running : List DpId) → (group : DpId) → (vid : ℕ) → Ip → List AskOn
asks conf running group vid target =
    filter_map (λ dp. option_map (λ out. record { dp = dp; out = out }) (ask conf dp vid target)) (running_in conf running group)
