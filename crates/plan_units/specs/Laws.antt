-- What each table of a plan does with the packets that come to it: what it sends, and to which table it
-- hands the packet on. Each law is said of what the rest of the run sends.
use Rattle.std.specs.Prelude.{◌≡◌, ◌⊎◌, ℕ, ◌+◌, ◌^◌, ◌<◌, Bool, true, false, List, [], ◌∷◌, ◌++◌, length, Option, Some, None, IfSome, Contains, option_and_then, if◌then◌else◌}
use Rattle.std.specs.List.{AllByRecursion}
use Rattle.std.specs.Option.{option_map_or}
use Rattle.net_base.specs.Address.{IsSixBytes}
use Rattle.of_match.specs.declared.packet.Packet.{Packet}
use Rattle.of_match.specs.declared.packet.Sent.{Sent}
use Rattle.of_match.specs.declared.packet.Tag.{Tag}
use Rattle.of_match.specs.Hit.{outermost}
use Rattle.of_match.specs.Shaped.{IsShaped}
use Rattle.conf_types.specs.declared.datapath.Dp.{Dp}
use Rattle.conf_types.specs.declared.datapath.Port.{Port}
use Rattle.conf_types.specs.declared.state.HostRec.{HostRec}
use Rattle.conf_types.specs.declared.state.NeighRec.{NeighRec}
use Rattle.conf_types.specs.declared.vlan.Vlan.{Vlan}
use Rattle.conf_types.specs.Configuration.{Configuration, dp_with, port_with, vlan_with}
use Rattle.conf_types.specs.Groups.{group_of}
use Rattle.conf_types.specs.Membership.{is_stack, is_accepting, is_edge_member, mirrors_of}
use Rattle.conf_types.specs.State.{State, IsValidState}
use Rattle.conf_types.specs.Valid.{IsValid}
use Rattle.packet_way.specs.declared.known.Onward.TheVariants.{ByPort, OverStack, Everywhere}
use Rattle.packet_way.specs.declared.routes.Routed.TheVariants as routed_case
use Rattle.packet_way.specs.declared.source.Heard.TheVariants as heard_case
use Rattle.packet_way.specs.Admission.{admitted_to, tagged_with}
use Rattle.packet_way.specs.Description.{is_bare_lldp}
use Rattle.packet_way.specs.Drops.{is_dropped}
use Rattle.packet_way.specs.Flood.{flooded}
use Rattle.packet_way.specs.Known.{stack_of, onward, to_port, to_hop}
use Rattle.packet_way.specs.Leaving.{copies, to_controller}
use Rattle.packet_way.specs.Routes.{route_list, routed}
use Rattle.packet_way.specs.Source.{heard}
use Rattle.packet_way.specs.Verdict.{acl_sends, is_allowed}
use Rattle.plan_base.specs.Entries.{table_number}
use Rattle.vlan_compile.specs.Admissions.{next_in}
use Rattle.law_runs.specs.Runs.{SendsJust}
use Rattle.plan_units.specs.Units.{plan}

-- ---- of what the laws speak

-- the addresses of hosts and neighbours are Ethernet addresses
pub record HasAddresses (now : State) : Type 0 where
  pub hosts : AllByRecursion (λ (h : HostRec). IsSixBytes h.mac.0) now.hosts
  pub neighbours : AllByRecursion (λ (n : NeighRec). IfSome n.mac (λ mac. IsSixBytes mac.0)) now.neighbours

-- a datapath of a valid configuration and state
pub record IsSetting (conf : Configuration) (now : State) (d : Dp) : Type 0 where
  pub valid : IsValid conf
  pub state : IsValidState conf now
  pub addresses : HasAddresses now
  pub is_dp : dp_with conf.dps d.id ≡ Some d

-- the packet's outermost tag names the VLAN
abbrev pub IsIn : ℕ → Packet → Type 0
IsIn vid p = (tag : Tag) × (outermost p.tags ≡ Some tag) × (tag.vid ≡ vid)

-- the number is that of the interface
abbrev pub IsPort : Dp → ℕ → Port → Type 0
IsPort d port i = port_with d.ports port ≡ Some i

module _ (conf : Configuration) (now : State) (d : Dp) where
  -- from table t on this is sent of the packet, and nothing else
  abbrev pub Sends : ℕ → ℕ → Packet → List Sent → Type 0
  Sends t port p outs = SendsJust (plan conf now d) port t p outs

  -- a packet of a VLAN that came in by an edge port of it
  pub record IsOf (port : ℕ) (p : Packet) (i : Port) (v : Vlan) : Type 0 where
    pub shaped : IsShaped p
    pub is_port : IsPort d port i
    pub accepting : is_accepting i ≡ true
    pub is_vlan : vlan_with conf.vlans v.vid ≡ Some v
    pub member : is_edge_member i v.vid ≡ true
    pub is_in : IsIn v.vid p

  -- a packet of a VLAN from a port that takes packets in, be it an edge port, of this VLAN or not, or an end
  -- of a stack link
  pub record Leaves (port : ℕ) (p : Packet) (i : Port) (v : Vlan) : Type 0 where
    pub shaped : IsShaped p
    pub is_port : IsPort d port i
    pub takes_in : (is_stack i ≡ true) ⊎ (is_accepting i ≡ true)
    pub is_vlan : vlan_with conf.vlans v.vid ≡ Some v
    pub is_in : IsIn v.vid p

  -- table 0: ports and their ACLs
  pub record PortsLaw : Type 0 where
    -- a port that is no interface, or takes no packets in
    pub no_port : (port : ℕ) (p : Packet) → port < 2 ^ 32 → port_with d.ports port ≡ None → Sends 0 port p []
    pub closed : (port : ℕ) (p : Packet) (i : Port) → IsPort d port i → is_stack i ≡ false → is_accepting i ≡ false → Sends 0 port p []
    pub stack : (port : ℕ) (p : Packet) (i : Port) → IsPort d port i → is_stack i ≡ true → (rest : List Sent) → Sends 1 port p rest → Sends 0 port p rest
    pub edge : (port : ℕ) (p : Packet) (i : Port) → IsShaped p → IsPort d port i → is_accepting i ≡ true → (rest : List Sent) → (is_allowed conf i.acls port p ≡ true → Sends 1 port p rest)
        → Sends 0 port p (acl_sends conf d i.acls port p ++ (if is_allowed conf i.acls port p then rest else []))

  -- table 1: stack ports, what is dropped, and admission
  pub record AdmissionLaw : Type 0 where
    pub stack : (port : ℕ) (p : Packet) (i : Port) (v : Vlan) → IsShaped p → IsPort d port i → is_stack i ≡ true → vlan_with conf.vlans v.vid ≡ Some v → IsIn v.vid p
        → (rest : List Sent) → Sends 7 port p rest → Sends 1 port p rest
    pub stack_lldp : (port : ℕ) (p : Packet) (i : Port) → IsShaped p → IsPort d port i → is_stack i ≡ true → is_bare_lldp p ≡ true → Sends 1 port p (to_controller p)
    pub stack_other : (port : ℕ) (p : Packet) (i : Port) → IsShaped p → IsPort d port i → is_stack i ≡ true → is_bare_lldp p ≡ false → option_and_then (λ (tag : Tag). vlan_with conf.vlans tag.vid) (outermost p.tags) ≡ None
        → Sends 1 port p []
    pub dropped : (port : ℕ) (p : Packet) (i : Port) → IsShaped p → IsPort d port i → is_accepting i ≡ true → is_dropped conf d p ≡ true → Sends 1 port p []
    pub kept_out : (port : ℕ) (p : Packet) (i : Port) → IsShaped p → IsPort d port i → is_accepting i ≡ true → is_dropped conf d p ≡ false → option_and_then (vlan_with conf.vlans) (admitted_to i p) ≡ None → Sends 1 port p []
    -- an admitted packet is one of the VLAN
    pub lands : (port : ℕ) (p : Packet) (i : Port) (v : Vlan) → IsShaped p → IsPort d port i → is_accepting i ≡ true → option_and_then (vlan_with conf.vlans) (admitted_to i p) ≡ Some v → IsOf port (tagged_with v.vid p) i v
    pub admitted : (port : ℕ) (p : Packet) (i : Port) (v : Vlan) → IsShaped p → IsPort d port i → is_accepting i ≡ true → is_dropped conf d p ≡ false → option_and_then (vlan_with conf.vlans) (admitted_to i p) ≡ Some v
        → (rest : List Sent) → Sends (table_number (next_in v)) port (tagged_with v.vid p) rest → Sends 1 port p (copies (mirrors_of d i.no) p ++ rest)

  -- table 2: the VLAN's ACLs
  pub record VlanAclLaw : Type 0 where
    pub acls : (port : ℕ) (p : Packet) (i : Port) (v : Vlan) → IsOf port p i v → (v.acls ≡ [] → ⊥) → (rest : List Sent) → (is_allowed conf v.acls port p ≡ true → Sends 3 port p rest)
        → Sends 2 port p (acl_sends conf d v.acls port p ++ (if is_allowed conf v.acls port p then rest else []))

  -- table 3: the source
  pub record SourceLaw : Type 0 where
    pub goes_on : (port : ℕ) (p : Packet) (i : Port) (v : Vlan) → IsOf port p i v → heard conf now d i v p.src ≡ heard_case.GoesOn → (rest : List Sent) → Sends 4 port p rest → Sends 3 port p rest
    pub copied : (port : ℕ) (p : Packet) (i : Port) (v : Vlan) → IsOf port p i v → heard conf now d i v p.src ≡ heard_case.IsCopied → (rest : List Sent) → Sends 4 port p rest → Sends 3 port p (to_controller p ++ rest)
    pub ends : (port : ℕ) (p : Packet) (i : Port) (v : Vlan) → IsOf port p i v → heard conf now d i v p.src ≡ heard_case.Ends → Sends 3 port p []

  -- tables 4 to 6: routing, and what the controller answers
  pub record RoutingLaw : Type 0 where
    -- what goes on is a packet of some VLAN
    pub lands : (port : ℕ) (p : Packet) (i : Port) (v : Vlan) (vid : ℕ) (q : Packet) → IsOf port p i v → routed (route_list conf now.neighbours (group_of conf d.id) v.vid) v p ≡ routed_case.GoesOn vid q
        → (w : Vlan) × (vlan_with conf.vlans vid ≡ Some w) × Leaves port q i w
    pub goes_on : (port : ℕ) (p : Packet) (i : Port) (v : Vlan) (vid : ℕ) (q : Packet) → IsOf port p i v → routed (route_list conf now.neighbours (group_of conf d.id) v.vid) v p ≡ routed_case.GoesOn vid q
        → (rest : List Sent) → Sends 7 port q rest → Sends 4 port p rest
    pub to_controller : (port : ℕ) (p : Packet) (i : Port) (v : Vlan) → IsOf port p i v → routed (route_list conf now.neighbours (group_of conf d.id) v.vid) v p ≡ routed_case.ToController → Sends 4 port p (to_controller p)
    pub ends : (port : ℕ) (p : Packet) (i : Port) (v : Vlan) → IsOf port p i v → routed (route_list conf now.neighbours (group_of conf d.id) v.vid) v p ≡ routed_case.Ends → Sends 4 port p []

  -- table 7: destinations that are known
  pub record DestinationLaw : Type 0 where
    pub by_port : (port : ℕ) (p : Packet) (i : Port) (v : Vlan) (q : ℕ) → Leaves port p i v → onward conf now.hosts (stack_of conf now.ups) d v.vid p.dst ≡ ByPort q → Sends 7 port p (option_map_or (to_port d port v.vid p) (port_with d.ports q) [])
    pub over_stack : (port : ℕ) (p : Packet) (i : Port) (v : Vlan) (hop : ℕ) → Leaves port p i v → onward conf now.hosts (stack_of conf now.ups) d v.vid p.dst ≡ OverStack hop → Sends 7 port p (to_hop port p hop)
    pub everywhere : (port : ℕ) (p : Packet) (i : Port) (v : Vlan) → Leaves port p i v → onward conf now.hosts (stack_of conf now.ups) d v.vid p.dst ≡ Everywhere → (rest : List Sent) → Sends 8 port p rest → Sends 7 port p rest

  -- table 8: floods
  pub record FloodLaw : Type 0 where
    pub floods : (port : ℕ) (p : Packet) (i : Port) (v : Vlan) → Leaves port p i v → Sends 8 port p (flooded (stack_of conf now.ups) d port v p)

  -- all of them
  pub record TableLaws : Type 0 where
    pub ports : PortsLaw
    pub admission : AdmissionLaw
    pub vlan_acls : VlanAclLaw
    pub sources : SourceLaw
    pub routing : RoutingLaw
    pub destinations : DestinationLaw
    pub floods : FloodLaw
