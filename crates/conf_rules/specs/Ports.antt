-- Rules 8 to 11: ports that ACLs, mirrors and stack links name, and the fields of rules.
use Rattle.std.specs.Prelude.{ℕ, ◌==◌, ◌&&◌, ◌||◌, Bool, false, not, if◌then◌else◌, is_some, length, List, [], ◌∷◌, ◌++◌, map, codes, Option, Some, None}
use Rattle.std.specs.List.{flat_map, list_any}
use Rattle.std.specs.Option.{option_map_or}
use Rattle.net_base.specs.declared.field.Field.{Field}
use Rattle.net_base.specs.WellFormed.{has_prerequisite}
use Rattle.conf_types.specs.declared.acl.PortRef.{PortRef}
use Rattle.conf_types.specs.declared.datapath.Dp.{Dp}
use Rattle.conf_types.specs.declared.datapath.Port.{Port}
use Rattle.conf_types.specs.declared.datapath.StackEnd.{StackEnd}
use Rattle.conf_types.specs.Attached.{port_named}
use Rattle.conf_types.specs.Configuration.{Configuration, port_with, port_at}
use Rattle.conf_types.specs.Lists.{is_same}
use Rattle.conf_types.specs.Membership.{is_edge, has_edge_member}
use Rattle.conf_types.specs.Valid.{vlans_named}
use Rattle.conf_shape.specs.declared.raw.RawAcl.{RawAcl}
use Rattle.conf_shape.specs.declared.raw.RawDp.{RawDp}
use Rattle.conf_shape.specs.declared.raw.RawField.{RawField}
use Rattle.conf_shape.specs.declared.raw.RawOutput.{RawOutput}
use Rattle.conf_shape.specs.declared.raw.RawRule.{RawRule}
use Rattle.conf_shape.specs.declared.raw.RawStackEnd.{RawStackEnd}
use Rattle.conf_shape.specs.declared.refused.ConfCause.{ConfCause}
use Rattle.conf_shape.specs.declared.refused.ConfCause.TheVariants.{Unresolved, Conflict}
use Rattle.conf_shape.specs.declared.refused.ConfFault.{ConfFault}
use Rattle.conf_resolve.specs.declared.ordered.OrderedConf.{OrderedConf}
use Rattle.conf_resolve.specs.Resolved.{to_list, number_named, far_end}
use Rattle.conf_rules.specs.Places.{fault_if, fault_if_some, first, under, each_at, items_at, Interface, interfaces, site_of}

-- ---- rule 8: the ports that an attached ACL names exist on each datapath where it is attached, and are no
-- ends of stack links

abbrev pub is_in : List ℕ → List (List ℕ) → Bool
is_in name names = list_any (λ other. is_same other name) names

-- an ACL of an interface is attached where it is written, one of a VLAN where the VLAN has an edge port
abbrev pub is_attached : Configuration → Dp → List ℕ → Bool
is_attached conf d name =
    list_any (λ p. is_in name p.acls) d.ports || list_any (λ v. is_in name v.acls && has_edge_member d v.vid) conf.vlans

abbrev pub wrong_target : PortRef → Dp → Option ConfCause
wrong_target name d = option_map_or (λ p. if is_some p.stack then Some (Conflict 8) else None) (port_named d name) (Some Unresolved)

-- on a datapath where the ACL is attached
abbrev pub wrong_on : Configuration → List ℕ → PortRef → Dp → List ConfCause
wrong_on conf acl name d = if is_attached conf d acl then to_list (wrong_target name d) else []

-- the cause is that of the first datapath where there is one
abbrev pub wrong_targets : Configuration → List ℕ → PortRef → List ConfCause
wrong_targets conf acl name = flat_map (wrong_on conf acl name) conf.dps

-- the ports that a rule names, each with its place
abbrev pub port_at_site : List (List ℕ) → Option PortRef → List (List (List ℕ) × PortRef)
port_at_site site port = map (λ name. (under site (codes "port"), name)) (to_list port)

abbrev pub wrong_port : Configuration → RawAcl → List (List ℕ) × PortRef → List ConfFault
wrong_port conf a target = fault_if_some (first (wrong_targets conf a.name target.1)) target.0

abbrev pub wrong_output : Configuration → RawAcl → List (List ℕ) × RawOutput → List ConfFault
wrong_output conf a o =
    flat_map (wrong_port conf a) (port_at_site o.0 o.1.port)
    ++ flat_map (wrong_port conf a) (each_at (under o.0 (codes "ports")) o.1.ports)

abbrev pub actions_site : List (List ℕ) → List (List ℕ)
actions_site rule = rule ++ codes "rule" ∷ codes "actions" ∷ []

abbrev pub mirror_at : List (List ℕ) × RawRule → List (List (List ℕ) × PortRef)
mirror_at r = map (λ name. (under (actions_site r.0) (codes "mirror"), name)) (to_list r.1.mirror)

abbrev pub outputs_at : List (List ℕ) × RawRule → List (List (List ℕ) × RawOutput)
outputs_at r = items_at (under (actions_site r.0) (codes "output")) r.1.output

-- `mirror` before `output`
abbrev pub wrong_rule : Configuration → RawAcl → List (List ℕ) × RawRule → List ConfFault
wrong_rule conf a r = flat_map (wrong_port conf a) (mirror_at r) ++ flat_map (wrong_output conf a) (outputs_at r)

-- the rules of an ACL, each with its place
abbrev pub rules_at : RawAcl → List (List (List ℕ) × RawRule)
rules_at a = each_at (codes "acls" ∷ a.name ∷ []) a.rules

abbrev pub wrong_acl : Configuration → RawAcl → List ConfFault
wrong_acl conf a = flat_map (wrong_rule conf a) (rules_at a)

abbrev pub wrong_acl_ports : OrderedConf → Configuration → List ConfFault
wrong_acl_ports o conf = flat_map (wrong_acl conf) o.acls

-- ---- rule 9: a rule has what its fields ask for (OpenFlow 1.3, 7.2.3.6)

abbrev pub lacking_field : List (List ℕ) → List Field → RawField → List ConfFault
lacking_field site fields f = fault_if (not (has_prerequisite f.field.id fields)) (Conflict 9) (site ++ codes "rule" ∷ f.key ∷ [])

abbrev pub lacking_fields : List (List ℕ) × RawRule → List ConfFault
lacking_fields r = flat_map (lacking_field r.0 (map (λ g. g.field) r.1.fields)) r.1.fields

abbrev pub lacking_of_acl : RawAcl → List ConfFault
lacking_of_acl a = flat_map lacking_fields (rules_at a)

abbrev pub lacking_rules : OrderedConf → List ConfFault
lacking_rules o = flat_map lacking_of_acl o.acls

-- ---- rule 10: mirrored ports are other interfaces that are edge ports, and a mirror has no VLAN, ACL or
-- stack link

abbrev pub is_mirrorable : Dp → Port → ℕ → Bool
is_mirrorable d p number = not (number == p.no) && option_map_or is_edge (port_with d.ports number) false

abbrev pub mirrored_cause : RawDp → Dp → Port → PortRef → Option ConfCause
mirrored_cause raw d p name =
    option_map_or (λ number. if is_mirrorable d p number then None else Some (Conflict 10)) (number_named raw name) (Some Unresolved)

abbrev pub wrong_mirrored : Interface → List (List ℕ) × PortRef → List ConfFault
wrong_mirrored i item = fault_if_some (mirrored_cause i.raw_dp i.dp i.port item.1) item.0

abbrev pub is_used : Port → Bool
is_used p = not (length (vlans_named p) == 0) || (not (length p.acls == 0) || is_some p.stack)

abbrev pub mirror_site : Interface → List (List ℕ)
mirror_site i = under (site_of i) (codes "mirror")

abbrev pub wrong_mirror : Interface → List ConfFault
wrong_mirror i =
    flat_map (wrong_mirrored i) (items_at (mirror_site i) i.raw.mirror)
    ++ fault_if (not (length i.port.mirror == 0) && is_used i.port) (Conflict 10) (mirror_site i)

abbrev pub wrong_mirrors : OrderedConf → Configuration → List ConfFault
wrong_mirrors o conf = flat_map wrong_mirror (interfaces o conf)

-- ---- rule 11: the far end of a stack link exists on another datapath and points back, and an end has no
-- VLAN, ACL, mirror, `output_only`, `hairpin` or `permanent_learn`

abbrev pub is_end : StackEnd → Dp → Port → Bool
is_end end d p = end.dp.0 == d.id.0 && end.port == p.no

abbrev pub points_back : Configuration → Dp → Port → StackEnd → Bool
points_back conf d p far = option_map_or (λ q. option_map_or (λ end. is_end end d p) q.stack false) (port_at conf far.dp far.port) false

abbrev pub is_free : Port → Bool
is_free p =
    length (vlans_named p) == 0 && length p.acls == 0 && length p.mirror == 0
    && not p.output_only && not p.hairpin && not p.permanent_learn

abbrev pub is_right_end : Configuration → Dp → Port → StackEnd → Bool
is_right_end conf d p far = not (far.dp.0 == d.id.0) && points_back conf d p far && is_free p

abbrev pub stack_site : Interface → List (List ℕ)
stack_site i = under (site_of i) (codes "stack")

abbrev pub stack_cause : OrderedConf → Configuration → Dp → Port → RawStackEnd → Option ConfCause
stack_cause o conf d p end =
    option_map_or (λ far. if is_right_end conf d p far then None else Some (Conflict 11)) (far_end o.dps end) (Some Unresolved)

abbrev pub wrong_stack : OrderedConf → Configuration → Interface → List ConfFault
wrong_stack o conf i = flat_map (λ end. fault_if_some (stack_cause o conf i.dp i.port end) (stack_site i)) (to_list i.raw.stack)

abbrev pub wrong_stacks : OrderedConf → Configuration → List ConfFault
wrong_stacks o conf = flat_map (wrong_stack o conf) (interfaces o conf)
