-- The flow entries of the ACLs of a port, and of those of a VLAN.
use Rattle.std.specs.Prelude.{ℕ, ◌+◌, ◌-◌, ◌==◌, ◌&&◌, ◌||◌, not, Bool, Some, List, [], ◌∷◌, ◌++◌, length, if◌then◌else◌}
use Rattle.std.specs.List.{filter_map, cons_option, enumerate_from}
use Rattle.of_match.specs.declared.entry.Entry.{Entry}
use Rattle.conf_types.specs.declared.acl.Rule.{Rule}
use Rattle.conf_types.specs.declared.datapath.Dp.{Dp}
use Rattle.conf_types.specs.declared.datapath.Port.{Port}
use Rattle.conf_types.specs.declared.vlan.Vlan.{Vlan}
use Rattle.conf_types.specs.Attached.{rules_of}
use Rattle.conf_types.specs.Configuration.{Configuration}
use Rattle.conf_types.specs.Membership.{is_accepting, is_stack, has_edge_member}
use Rattle.plan_base.specs.declared.table.Table.TheVariants.{PortAcl, Admission}
use Rattle.plan_base.specs.Fields.{in_port}
use Rattle.plan_base.specs.Entries.{leads_to, entry}
use Rattle.acl_compile.specs.declared.place.Place.{Place}
use Rattle.acl_compile.specs.declared.place.Place.TheVariants.{AtPort, AtVlan}
use Rattle.acl_compile.specs.Rows.{rule_priority, rule_entry, denial}

-- each rule with its number: those of all ACLs together, counted from 0
abbrev pub rule_entries : Place → Dp → List Rule → List Entry
rule_entries at d rules = filter_map (λ numbered. rule_entry at d (rule_priority numbered.0) numbered.1) (enumerate_from 0 rules)

-- the rules of the named ACLs, and behind them the denial of every other packet
abbrev pub acl_entries : Place → Configuration → Dp → List (List ℕ) → List Entry
acl_entries at conf d acls = rule_entries at d (rules_of conf acls) ++ denial at ∷ []

-- a port without ACLs takes packets in
abbrev pub port_entry : ℕ → Entry
port_entry port = entry PortAcl 1 (in_port port ∷ []) (leads_to [] (Some Admission))

abbrev pub has_acls : List (List ℕ) → Bool
has_acls acls = not (length acls == 0)

-- table 0 of an interface: an edge port that isn't output-only takes packets in by its ACLs, and without
-- any takes all; so does an enabled end of a stack link
abbrev pub port_acl : Configuration → Dp → Port → List Entry
port_acl conf d i =
    if is_accepting i && has_acls i.acls then acl_entries (AtPort i.no) conf d i.acls
    else if is_accepting i || is_stack i then port_entry i.no ∷ []
    else []

-- table 2 of a VLAN: its ACLs are attached where the datapath has an edge port of it
abbrev pub vlan_acl : Configuration → Dp → Vlan → List Entry
vlan_acl conf d v =
    if has_acls v.acls && has_edge_member d v.vid then acl_entries (AtVlan v.vid) conf d v.acls
    else []

-- ---- the same entries, by the priority of the first rule

abbrev pub entries_from : Place → Dp → ℕ → List Rule → List Entry
entries_from at d priority [] = []
entries_from at d priority (rule ∷ more) = cons_option (rule_entry at d priority rule) (entries_from at d (priority - 1) more)
