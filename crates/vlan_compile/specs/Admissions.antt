-- Table 1, by port: which VLAN admits a packet.
use Rattle.std.specs.Prelude.{ℕ, ◌==◌, Some, None, List, [], ◌∷◌, ◌++◌, length, map, option_to_list, if◌then◌else◌}
use Rattle.std.specs.Option.{option_map}
use Rattle.of_match.specs.declared.entry.Entry.{Entry}
use Rattle.of_match.specs.declared.ether_type.TheConstants.{LLDP}
use Rattle.conf_types.specs.declared.datapath.Dp.{Dp}
use Rattle.conf_types.specs.declared.datapath.Port.{Port}
use Rattle.conf_types.specs.declared.vlan.Vlan.{Vlan}
use Rattle.conf_types.specs.Configuration.{Configuration}
use Rattle.conf_types.specs.Membership.{is_stack, is_accepting}
use Rattle.plan_base.specs.declared.table.Table.{Table}
use Rattle.plan_base.specs.declared.table.Table.TheVariants.{Admission, VlanAcl, Source, Destination}
use Rattle.plan_base.specs.Fields.{in_port, eth_type, vid_field, untagged}
use Rattle.plan_base.specs.Actions.{push_tag, set_vid, to_controller}
use Rattle.plan_base.specs.Entries.{leads_to, entry}
use Rattle.plan_base.specs.Sending.{mirrored}
use Rattle.vlan_compile.specs.Vlans.{native_vlan, tagged_vlans}

-- where an admitted packet goes on: through the VLAN's ACLs, where it has any. They are attached on each
-- datapath with an edge port of the VLAN, and the port that admits is one.
abbrev pub next_in : Vlan → Table
next_in v = if length v.acls == 0 then Source else VlanAcl

-- priority 40: LLDP without a tag from another datapath of the stack is the controller's alone
abbrev pub lldp_heard : Port → Entry
lldp_heard i = entry Admission 40 (in_port i.no ∷ eth_type LLDP ∷ untagged ∷ []) (leads_to (to_controller ∷ []) None)

-- priority 40: what comes from another datapath of the stack has the tag of its VLAN; there its source
-- was heard and it was routed
abbrev pub from_stack : Port → Vlan → Entry
from_stack i v = entry Admission 40 (in_port i.no ∷ vid_field v.vid ∷ []) (leads_to [] (Some Destination))

-- priority 20: what comes without a tag is copied to the port's mirrors, and gets the tag of its VLAN
abbrev pub without_tag : Dp → Port → Vlan → Entry
without_tag d i v =
    entry Admission 20 (in_port i.no ∷ untagged ∷ []) (leads_to (mirrored d i.no ++ push_tag ∷ set_vid v.vid ∷ []) (Some (next_in v)))

-- priority 20: what comes with the tag of a VLAN is copied to the port's mirrors
abbrev pub with_tag : Dp → Port → Vlan → Entry
with_tag d i v =
    entry Admission 20 (in_port i.no ∷ vid_field v.vid ∷ []) (leads_to (mirrored d i.no) (Some (next_in v)))

-- an enabled end of a stack link hands LLDP on, and admits every VLAN of the configuration
abbrev pub from_stacks : Configuration → Port → List Entry
from_stacks conf i = if is_stack i then lldp_heard i ∷ map (from_stack i) conf.vlans else []

-- an edge port that takes packets in admits its native VLAN and its tagged ones
abbrev pub from_edges : Configuration → Dp → Port → List Entry
from_edges conf d i =
    if is_accepting i then option_to_list (option_map (without_tag d i) (native_vlan conf i)) ++ map (with_tag d i) (tagged_vlans conf i)
    else []

abbrev pub admissions : Configuration → Dp → Port → List Entry
admissions conf d i = from_stacks conf i ++ from_edges conf d i
