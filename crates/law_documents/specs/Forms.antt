-- What stands where the paths of rules lead.
use Rattle.std.specs.Prelude.{◌≡◌, ℕ, ◌⊎◌, List, None}
use Rattle.yaml_tree.specs.declared.tree.Pair.{Pair}
use Rattle.yaml_tree.specs.declared.tree.Tree.{Tree}
use Rattle.yaml_tree.specs.declared.tree.Tree.TheOpen.{Tree-F}
use Rattle.yaml_tree.specs.declared.tree.Tree.TheOpen as tree
use Rattle.conf_types.specs.declared.acl.PortRef.{PortRef}
use Rattle.conf_types.specs.declared.address.Ip.{Ip}
use Rattle.conf_types.specs.declared.address.Net.{Net}
use Rattle.conf_types.specs.Attached.{acl_named}
use Rattle.conf_types.specs.Configuration.{Configuration}
use Rattle.conf_shape.specs.declared.raw.VlanRef.{VlanRef}
use Rattle.conf_shape.specs.declared.raw.VlanRef.TheVariants.{Name}
use Rattle.conf_resolve.specs.declared.ordered.OrderedConf.{OrderedConf}
use Rattle.conf_resolve.specs.Resolved.{vid_of}
use Rattle.law_checks.specs.Values.{IsLabelOf, IsVlanOf, IsPortOf, SpellsIp, SpellsNet}

abbrev pub IsWritten : Tree-F Tree Pair → Type 0
IsWritten x = Unit {0}

-- a text or a whole number
abbrev pub IsScalar : Tree-F Tree Pair → Type 0
IsScalar (tree.Text text) = Unit {0}
IsScalar (tree.Int n) = Unit {0}
IsScalar _ = ⊥

-- a map, or nothing where it has no entry
abbrev pub IsSection : Tree-F Tree Pair → Type 0
IsSection (tree.Map pairs) = Unit {0}
IsSection tree.Null = Unit {0}
IsSection _ = ⊥

abbrev pub IsSequence : Tree-F Tree Pair → Type 0
IsSequence (tree.List items) = Unit {0}
IsSequence _ = ⊥

-- a number or a name, or else the map that it is the key of
abbrev pub IsOwn : Tree-F Tree Pair → Type 0
IsOwn x = IsScalar x ⊎ IsSection x

-- ---- names

abbrev pub NamesVlan : Tree-F Tree Pair → Type 0
NamesVlan x = (vlan : VlanRef) × IsVlanOf x vlan

abbrev pub NamesPort : Tree-F Tree Pair → Type 0
NamesPort x = (port : PortRef) × IsPortOf x port

-- one port, or a list
abbrev pub NamesPorts : Tree-F Tree Pair → Type 0
NamesPorts x = NamesPort x ⊎ IsSequence x

-- a name that no VLAN has
abbrev pub NamesNoVlan : OrderedConf → Tree-F Tree Pair → Type 0
NamesNoVlan o x = (name : List ℕ) × (x ≡ tree.Text name) × (vid_of o.vlans (Name name) ≡ None)

-- a name that no ACL has
abbrev pub NamesNoAcl : Configuration → Tree-F Tree Pair → Type 0
NamesNoAcl conf x = (name : List ℕ) × IsLabelOf x name × (acl_named conf.acls name ≡ None)

-- ---- networks and addresses of either family

abbrev pub SpellsNetwork : Tree-F Tree Pair → Type 0
SpellsNetwork x = (text : List ℕ) × (net : Net) × (x ≡ tree.Text text) × SpellsNet text net

abbrev pub SpellsAddress : Tree-F Tree Pair → Type 0
SpellsAddress x = (text : List ℕ) × (ip : Ip) × (x ≡ tree.Text text) × SpellsIp text ip

-- where a route leads, or its gateway
abbrev pub SpellsRoute : Tree-F Tree Pair → Type 0
SpellsRoute x = SpellsNetwork x ⊎ SpellsAddress x
