-- A datapath, VLANs and hosts of which the entries are worked out by hand: what module `rows` cites.
use Rattle.std.specs.Prelude.{ℕ, true, false, Some, None, List, [], ◌∷◌, codes}
use Rattle.net_base.specs.declared.field.Field.{Field}
use Rattle.net_base.specs.declared.field.FieldId.TheVariants.{EthSrc, EthDst}
use Rattle.of_match.specs.declared.action.Instr.{Instr}
use Rattle.of_match.specs.declared.entry.Entry.{Entry}
use Rattle.stack_paths.specs.Stack.{Stack}
use Rattle.conf_types.specs.declared.datapath.Dp.{Dp}
use Rattle.conf_types.specs.declared.datapath.Port.{Port}
use Rattle.conf_types.specs.declared.state.HostRec.{HostRec}
use Rattle.conf_types.specs.declared.vlan.Vlan.{Vlan}
use Rattle.conf_types.specs.Configuration.{Configuration}
use Rattle.conf_types.specs.Worked.{dp, station, edge, datapath, vlan}

abbrev pub row : ℕ → ℕ → List Field → List Instr → Entry
row table priority fields instrs = record { key = record { table = table; priority = priority; fields = fields }; instrs = instrs }

-- any group address: the group bit alone (IEEE 802, 8.2.2)
abbrev pub any_group_src : Field
any_group_src = record { id = EthSrc; value = 0x010000000000; mask = 0x010000000000 }

abbrev pub any_group_dst : Field
any_group_dst = record { id = EthDst; value = 0x010000000000; mask = 0x010000000000 }

-- ---- port 1 is native in VLAN 100 and mirrored by port 5; port 2 is tagged in VLANs 100 and 200, and gets
-- floods to groups alone; port 3 is native in VLAN 100 and sends packets back; port 4 is an end of a stack link

abbrev pub native_port : Port
native_port = edge 1 (Some 100) []

abbrev pub tagged_port : Port
tagged_port = record (edge 2 None (100 ∷ 200 ∷ [])) { unicast_flood = false }

abbrev pub hairpin_port : Port
hairpin_port = record (edge 3 (Some 100) []) { hairpin = true }

abbrev pub stack_port : Port
stack_port = record (edge 4 None []) { stack = Some (record { dp = dp 2; port = 4 }) }

abbrev pub mirror_port : Port
mirror_port = record (edge 5 None []) { mirror = 1 ∷ [] }

abbrev pub switch : Dp
switch = datapath 1 (Some 1) (native_port ∷ tagged_port ∷ hairpin_port ∷ stack_port ∷ mirror_port ∷ [])

-- the far end of the stack link, and a port whose first host stays
abbrev pub far_switch : Dp
far_switch = datapath 2 None (record (edge 1 (Some 100) []) { permanent_learn = true } ∷ record (edge 4 None []) { stack = Some (record { dp = dp 1; port = 4 }) } ∷ [])

abbrev pub office : Vlan
office = vlan 100 []

-- with ACLs
abbrev pub guests : Vlan
guests = record (vlan 200 []) { acls = codes "a" ∷ [] }

abbrev pub conf : Configuration
conf = record { dps = switch ∷ far_switch ∷ []; vlans = office ∷ guests ∷ []; acls = record { name = codes "a"; rules = [] } ∷ []; routers = [] }

-- the stack with the link up
abbrev pub stack : Stack
stack = record {
  nodes = record { id = dp 1; priority = Some 1 } ∷ record { id = dp 2; priority = None } ∷ [];
  links = record { a = dp 1; a_port = 4; b = dp 2; b_port = 4 } ∷ [];
}

-- station n at a port of a datapath, in VLAN 100, heard at moment 0
abbrev pub host : ℕ → ℕ → ℕ → HostRec
host id port n = record { dp = dp id; port = port; vid = 100; mac = station n; learned = record { 0 = 0 } }
