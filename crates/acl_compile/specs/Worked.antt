-- A datapath and ACLs of which the entries are worked out by hand: what module `worked` cites.
use Rattle.std.specs.Prelude.{ℕ, ◌+◌, Bool, true, false, Some, None, List, [], ◌∷◌, codes}
use Rattle.net_base.specs.declared.field.Field.{Field}
use Rattle.net_base.specs.declared.field.FieldId.TheVariants.{EthType, VlanVid, VlanPcp, IpProto, TcpDst}
use Rattle.net_base.specs.Field.{exact}
use Rattle.of_match.specs.declared.action.Instr.{Instr}
use Rattle.of_match.specs.declared.entry.Entry.{Entry}
use Rattle.of_match.specs.declared.ether_type.TheConstants.{IPV4}
use Rattle.conf_types.specs.declared.acl.PortRef.TheVariants.{No, Name}
use Rattle.conf_types.specs.declared.acl.Rule.{Rule}
use Rattle.conf_types.specs.declared.datapath.Dp.{Dp}
use Rattle.conf_types.specs.declared.datapath.Port.{Port}
use Rattle.conf_types.specs.declared.vlan.Vlan.{Vlan}
use Rattle.conf_types.specs.Configuration.{Configuration}
use Rattle.conf_types.specs.Worked.{edge, datapath, vlan}

abbrev pub row : ℕ → ℕ → List Field → List Instr → Entry
row table priority fields instrs = record { key = record { table = table; priority = priority; fields = fields }; instrs = instrs }

abbrev pub port : ℕ → List ℕ → Bool → List (List ℕ) → Port
port number name enabled acls = record (edge number (Some 100) []) { name = name; enabled = enabled; acls = acls }

-- two ACLs in turn
abbrev pub both : List (List ℕ)
both = codes "web" ∷ codes "tags" ∷ []

abbrev pub first_port : Port
first_port = port 1 (codes "one") true both

-- interface 3 is disabled
abbrev pub switch : Dp
switch = datapath 1 None (first_port ∷ port 2 (codes "two") true [] ∷ port 3 (codes "three") false [] ∷ port 4 (codes "four") true [] ∷ [])

abbrev pub office : Vlan
office = record (vlan 100 []) { acls = both }

-- web packets go on, and to ports 4, 2 (named twice), 1 and 3
abbrev pub web : Rule
web = record { fields = exact EthType IPV4 ∷ exact IpProto 6 ∷ exact TcpDst 80 ∷ []; allow = true; output = No 2 ∷ Name (codes "two") ∷ No 1 ∷ No 3 ∷ []; mirror = Name (codes "four") ∷ [] }

-- packets of a VLAN and a priority go on
abbrev pub of_vlan : ℕ → Rule
of_vlan vid = record { fields = exact VlanVid (0x1000 + vid) ∷ exact VlanPcp 3 ∷ []; allow = true; output = []; mirror = [] }

abbrev pub conf : Configuration
conf = record {
  dps = switch ∷ [];
  vlans = office ∷ [];
  acls =
      record { name = codes "tags"; rules = of_vlan 200 ∷ of_vlan 100 ∷ [] }
      ∷ record { name = codes "web"; rules = web ∷ [] }
      ∷ [];
  routers = [];
}
