-- Whose a flow entry is, by its key alone: the one unit of a datapath's plan to whose entries it may belong.
use Rattle.std.specs.Prelude.{ℕ, ◌-◌, ◌==◌, ◌&&◌, nat_le, Bool, Option, Some, List, [], ◌∷◌, if◌then◌else◌}
use Rattle.std.specs.List.{find}
use Rattle.std.specs.Option.{option_map, option_and_then}
use Rattle.net_base.specs.declared.field.Field.{Field}
use Rattle.net_base.specs.declared.field.FieldId.{FieldId}
use Rattle.net_base.specs.declared.field.FieldId.TheVariants.{InPort, EthDst, EthSrc, VlanVid}
use Rattle.net_base.specs.Address.{mac_of}
use Rattle.net_base.specs.FieldId.{number_of}
use Rattle.of_match.specs.declared.entry.Key.{Key}
use Rattle.plan_base.specs.declared.table.Table.{Table}
use Rattle.plan_base.specs.declared.table.Table.TheVariants.{PortAcl, Admission, VlanAcl, Source, Ipv4Route, Ipv6Route, Vip, Destination, Flood}
use Rattle.plan_base.specs.Entries.{table_number}
use Rattle.plan_units.specs.declared.unit.Unit.{Unit as PlanUnit}
use Rattle.plan_units.specs.declared.unit.Unit.TheVariants as unit

-- ---- what a match names

-- the value that it asks of a field, where it asks for any
abbrev pub value_in : FieldId → List Field → Option ℕ
value_in id fields = option_map (λ f. f.value) (find (λ f. number_of f.id == number_of id) fields)

-- the VLAN: behind the bit that says that a tag is there (OpenFlow 1.3, 7.2.3.7)
abbrev pub vid_in : List Field → Option ℕ
vid_in fields = option_map (λ value. value - 0x1000) (value_in VlanVid fields)

abbrev pub port_of : List Field → Option PlanUnit
port_of fields = option_map unit.Port (value_in InPort fields)

abbrev pub vlan_of : List Field → Option PlanUnit
vlan_of fields = option_map unit.Vlan (vid_in fields)

abbrev pub routes_of : List Field → Option PlanUnit
routes_of fields = option_map unit.Route (vid_in fields)

-- by the field that holds the host's address
abbrev pub host_of : FieldId → List Field → Option PlanUnit
host_of id fields = option_and_then (λ vid. option_map (λ value. unit.Host vid (mac_of value)) (value_in id fields)) (vid_in fields)

-- ---- the owner

-- what is dropped whichever port it comes in by
abbrev pub is_drop : ℕ → Bool
is_drop priority = nat_le 30 priority && nat_le priority 33

abbrev pub owner_in : Table → ℕ → List Field → Option PlanUnit
owner_in PortAcl priority fields = port_of fields
owner_in Admission priority fields = if is_drop priority then Some unit.Dp else port_of fields
owner_in VlanAcl priority fields = vlan_of fields
owner_in Source priority fields =
    if priority == 40 then Some unit.Dp else if priority == 10 then port_of fields else host_of EthSrc fields
owner_in Ipv4Route priority fields = if priority == 0 then Some unit.Dp else routes_of fields
owner_in Ipv6Route priority fields = if priority == 0 then Some unit.Dp else routes_of fields
owner_in Vip priority fields = if priority == 0 then Some unit.Dp else vlan_of fields
owner_in Destination priority fields = if priority == 0 then Some unit.Dp else host_of EthDst fields
owner_in Flood priority fields = vlan_of fields

abbrev pub tables : List Table
tables = PortAcl ∷ Admission ∷ VlanAcl ∷ Source ∷ Ipv4Route ∷ Ipv6Route ∷ Vip ∷ Destination ∷ Flood ∷ []

-- by table and priority, and by the fields IN_PORT, VLAN_VID, ETH_SRC and ETH_DST; a key in no table has none
abbrev pub owner : Key → Option PlanUnit
owner k = option_and_then (λ table. owner_in table k.priority k.fields) (find (λ table. table_number table == k.table) tables)
