-- What becomes of a packet by its source, and whether the controller hears of it.
use Rattle.std.specs.Prelude.{ℕ, ◌==◌, ◌&&◌, ◌||◌, Bool, Option, Some, None, List, if◌then◌else◌}
use Rattle.std.specs.List.{find}
use Rattle.net_base.specs.Address.{is_group}
use Rattle.net_base.specs.declared.address.Mac.{Mac}
use Rattle.net_base.specs.declared.numbers.DpId.{DpId}
use Rattle.conf_types.specs.declared.datapath.Dp.{Dp}
use Rattle.conf_types.specs.declared.datapath.Port.{Port}
use Rattle.conf_types.specs.declared.state.HostRec.{HostRec}
use Rattle.conf_types.specs.declared.vlan.Vlan.{Vlan}
use Rattle.conf_types.specs.Configuration.{Configuration}
use Rattle.conf_types.specs.Groups.{group_of}
use Rattle.conf_types.specs.Lists.{is_same}
use Rattle.conf_types.specs.State.{State, is_host_at, is_stale, is_barred, is_port_full, is_vlan_full, is_table_full}
use Rattle.packet_way.specs.declared.source.Heard.{Heard}
use Rattle.packet_way.specs.declared.source.Heard.TheVariants.{GoesOn, IsCopied, Ends}

-- the host with this address that was learned in the VLAN at this port
abbrev pub host_here : List HostRec → DpId → ℕ → ℕ → Mac → Option HostRec
host_here hosts id port vid mac = find (λ h. is_host_at id port h && h.vid == vid && is_same h.mac.0 mac.0) hosts

-- no further host may be learned at the port, in the VLAN of the group, or at all
abbrev pub is_full : Configuration → List HostRec → Dp → Port → Vlan → Bool
is_full conf hosts d i v = is_port_full hosts d.id i || is_vlan_full conf hosts (group_of conf d.id) v || is_table_full hosts

-- a host that was learned here goes on, with a copy for the controller if it is stale
abbrev pub heard_again : Configuration → ℕ → HostRec → Heard
heard_again conf moment h = if is_stale conf moment h then IsCopied else GoesOn

-- the source isn't a host here: it ends where it may not come here, and else goes on, with a copy for the
-- controller if a host may be learned
abbrev pub heard_anew : Configuration → List HostRec → Dp → Port → Vlan → Mac → Heard
heard_anew conf hosts d i v mac =
    if is_barred conf hosts d.id i v.vid mac.0 then Ends else if is_full conf hosts d i v then GoesOn else IsCopied

abbrev pub heard_from : Option HostRec → Configuration → State → Dp → Port → Vlan → Mac → Heard
heard_from (Some h) conf now d i v mac = heard_again conf now.moment h
heard_from None conf now d i v mac = heard_anew conf now.hosts d i v mac

-- a group address is no source to learn
unfoldable pub heard : Configuration → State → Dp → Port → Vlan → Mac → Heard
heard conf now d i v mac =
    if is_group mac then GoesOn else heard_from (host_here now.hosts d.id i.no v.vid mac) conf now d i v mac
