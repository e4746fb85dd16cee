-- ACLs where they are attached, and the ports that they name.
use Rattle.std.specs.Prelude.{◌==◌, ◌++◌, Bool, Option, List, [], ℕ}
use Rattle.std.specs.List.{find, flat_map}
use Rattle.std.specs.Option.{option_map_or}
use Rattle.conf_types.specs.declared.acl.Acl.{Acl}
use Rattle.conf_types.specs.declared.acl.PortRef.{PortRef}
use Rattle.conf_types.specs.declared.acl.PortRef.TheVariants.{No, Name}
use Rattle.conf_types.specs.declared.acl.Rule.{Rule}
use Rattle.conf_types.specs.declared.datapath.Dp.{Dp}
use Rattle.conf_types.specs.declared.datapath.Port.{Port}
use Rattle.conf_types.specs.Configuration.{Configuration}
use Rattle.conf_types.specs.Lists.{is_same}

-- the ACL with a name
abbrev pub acl_named : List Acl → List ℕ → Option Acl
acl_named acls name = find (λ acl. is_same acl.name name) acls

-- the rules of the named ACLs, joined in order: those of an interface or a VLAN, by its `acls`
abbrev pub rules_of : Configuration → List (List ℕ) → List Rule
rules_of conf names = flat_map (λ name. option_map_or (λ acl. acl.rules) (acl_named conf.acls name) []) names

-- the interface is the one that is named
abbrev pub is_named : PortRef → Port → Bool
is_named (No number) p = p.no == number
is_named (Name name) p = is_same p.name name

-- the interface of a datapath that an ACL names
abbrev pub port_named : Dp → PortRef → Option Port
port_named d name = find (is_named name) d.ports

-- the ports that a rule names
abbrev pub names_in : Rule → List PortRef
names_in rule = rule.mirror ++ rule.output
