-- The flow entries of one rule, and of what no rule hits.
use Rattle.std.specs.Prelude.{ℕ, ◌+◌, ◌-◌, ◌==◌, ◌&&◌, not, Bool, nat_lt, Option, Some, None, List, [], ◌∷◌, ◌++◌, map, filter, if◌then◌else◌}
use Rattle.std.specs.List.{list_any}
use Rattle.std.specs.Option.{option_map}
use Rattle.net_base.specs.declared.field.Field.{Field}
use Rattle.net_base.specs.declared.field.FieldId.TheVariants.{VlanVid}
use Rattle.net_base.specs.FieldId.{number_of}
use Rattle.of_match.specs.declared.action.Instr.{Instr}
use Rattle.of_match.specs.declared.entry.Entry.{Entry}
use Rattle.conf_types.specs.declared.acl.Rule.{Rule}
use Rattle.conf_types.specs.declared.datapath.Dp.{Dp}
use Rattle.plan_base.specs.Fields.{in_port, vid_field}
use Rattle.plan_base.specs.Actions.{out}
use Rattle.plan_base.specs.Entries.{leads_to, entry}
use Rattle.acl_compile.specs.declared.place.Place.{Place}
use Rattle.acl_compile.specs.declared.place.Place.TheVariants.{AtPort, AtVlan}
use Rattle.acl_compile.specs.Places.{table_at, next_at, field_at}
use Rattle.acl_compile.specs.Targets.{targets}

-- the first rule that hits decides: rule r, counted from 0, comes before those behind it
abbrev pub rule_priority : ℕ → ℕ
rule_priority r = 10000 - r

-- the packet by each of the rule's ports, and on to the next table where the rule allows it
abbrev pub rule_instrs : Place → Dp → Rule → List Instr
rule_instrs at d rule = leads_to (map out (targets at d rule)) (if rule.allow then Some (next_at at) else None)

-- the field asks for the tag of another VLAN
abbrev pub asks_for_another : ℕ → Field → Bool
asks_for_another vid f = number_of f.id == number_of VlanVid && not (f.value == 0x1000 + vid)

-- the tag of a VLAN among the other fields, by number (OpenFlow 1.3, 7.2.3.7)
abbrev pub with_vid : ℕ → List Field → List Field
with_vid vid fields =
    filter (λ f. nat_lt (number_of f.id) (number_of VlanVid)) fields ++ vid_field vid ∷ filter (λ f. nat_lt (number_of VlanVid) (number_of f.id)) fields

-- what a packet has to agree with: what the rule asks for and, at a port, the port. At a VLAN the
-- packets have its tag, and a rule that asks for another's hits none.
abbrev pub rule_fields : Place → List Field → Option (List Field)
rule_fields (AtPort number) fields = Some (in_port number ∷ fields)
rule_fields (AtVlan vid) fields = if list_any (asks_for_another vid) fields then None else Some (with_vid vid fields)

abbrev pub rule_entry_for : Place → Dp → ℕ → Rule → List Field → Entry
rule_entry_for at d priority rule fields = entry (table_at at) priority fields (rule_instrs at d rule)

-- the entry of a rule; a rule that hits no packet there has none
abbrev pub rule_entry : Place → Dp → ℕ → Rule → Option Entry
rule_entry at d priority rule = option_map (rule_entry_for at d priority rule) (rule_fields at rule.fields)

-- behind all rules: what none of them hits ends
abbrev pub denial : Place → Entry
denial at = entry (table_at at) 1 (field_at at ∷ []) []
