-- Table 3, by port: a packet whose source isn't known.
use Rattle.std.specs.Prelude.{ℕ, ◌==◌, ◌&&◌, ◌||◌, Bool, Some, None, List, [], ◌∷◌, map, if◌then◌else◌}
use Rattle.std.specs.List.{list_any}
use Rattle.net_base.specs.declared.numbers.DpId.{DpId}
use Rattle.of_match.specs.declared.action.Instr.{Instr}
use Rattle.of_match.specs.declared.entry.Entry.{Entry}
use Rattle.conf_types.specs.declared.datapath.Dp.{Dp}
use Rattle.conf_types.specs.declared.datapath.Port.{Port}
use Rattle.conf_types.specs.declared.state.HostRec.{HostRec}
use Rattle.conf_types.specs.declared.vlan.Vlan.{Vlan}
use Rattle.conf_types.specs.Configuration.{Configuration}
use Rattle.conf_types.specs.Groups.{group_of}
use Rattle.conf_types.specs.Membership.{is_accepting}
use Rattle.conf_types.specs.State.{is_host_at, is_port_full, is_vlan_full, is_table_full}
use Rattle.plan_base.specs.declared.table.Table.TheVariants.{Source, Ipv4Route}
use Rattle.plan_base.specs.Fields.{in_port, vid_field}
use Rattle.plan_base.specs.Actions.{to_controller}
use Rattle.plan_base.specs.Entries.{leads_to, entry}
use Rattle.vlan_compile.specs.Vlans.{vlans_of}

-- a host of the VLAN was learned at the port
abbrev pub has_host : List HostRec → DpId → ℕ → ℕ → Bool
has_host hosts id port vid = list_any (λ h. is_host_at id port h && h.vid == vid) hosts

-- no further host may be learned at the port, in the VLAN of the group, or at all
abbrev pub is_full : Configuration → List HostRec → Dp → Port → Vlan → Bool
is_full conf hosts d i v = is_port_full hosts d.id i || is_vlan_full conf hosts (group_of conf d.id) v || is_table_full hosts

-- it ends where the port keeps the host that it has; where no further host may be learned it goes on, and
-- else the controller gets a copy
abbrev pub missed : Configuration → List HostRec → Dp → Port → Vlan → List Instr
missed conf hosts d i v =
    if i.permanent_learn && has_host hosts d.id i.no v.vid then leads_to [] None
    else if is_full conf hosts d i v then leads_to [] (Some Ipv4Route)
    else leads_to (to_controller ∷ []) (Some Ipv4Route)

-- priority 10: any source in a VLAN of the port
abbrev pub miss : Configuration → List HostRec → Dp → Port → Vlan → Entry
miss conf hosts d i v = entry Source 10 (in_port i.no ∷ vid_field v.vid ∷ []) (missed conf hosts d i v)

-- of each VLAN of an edge port that takes packets in
abbrev pub misses : Configuration → Dp → Port → List HostRec → List Entry
misses conf d i hosts = if is_accepting i then map (miss conf hosts d i) (vlans_of conf i) else []
