-- Rules 8 to 11: ports that ACLs, mirrors and stack links name, and the fields of rules.
use Rattle.std.specs.Prelude.{◌≡◌, ℕ, ◌⊎◌, true, false, List, [], ◌∷◌, ◌++◌, map, codes, Some, None, is_some, Contains}
use Rattle.std.specs.Option.{option_map_or}
use Rattle.net_base.specs.WellFormed.{has_prerequisite}
use Rattle.yaml_tree.specs.declared.tree.Tree.{Tree, out-Tree}
use Rattle.conf_types.specs.declared.acl.PortRef.{PortRef}
use Rattle.conf_types.specs.declared.datapath.Dp.{Dp}
use Rattle.conf_types.specs.declared.datapath.Port.{Port}
use Rattle.conf_types.specs.declared.datapath.StackEnd.{StackEnd}
use Rattle.conf_types.specs.declared.vlan.Vlan.{Vlan}
use Rattle.conf_types.specs.Attached.{port_named}
use Rattle.conf_types.specs.Configuration.{Configuration, port_with, port_at}
use Rattle.conf_types.specs.Membership.{is_edge, has_edge_member}
use Rattle.conf_types.specs.Valid.{IsStackPort, vlans_named}
use Rattle.conf_shape.specs.declared.raw.RawAcl.{RawAcl}
use Rattle.conf_shape.specs.declared.raw.RawDp.{RawDp}
use Rattle.conf_shape.specs.declared.raw.RawField.{RawField}
use Rattle.conf_shape.specs.declared.raw.RawPort.{RawPort}
use Rattle.conf_shape.specs.declared.raw.RawRule.{RawRule}
use Rattle.conf_shape.specs.declared.raw.RawStackEnd.{RawStackEnd}
use Rattle.conf_shape.specs.declared.refused.ConfCause.{ConfCause}
use Rattle.conf_shape.specs.declared.refused.ConfCause.TheVariants.{Unresolved, Conflict}
use Rattle.conf_resolve.specs.declared.ordered.OrderedConf.{OrderedConf}
use Rattle.conf_resolve.specs.InOrder.{port_site}
use Rattle.conf_resolve.specs.Resolved.{number_named, far_end, dp_of, port_of, items_of}
use Rattle.conf_rules.specs.Places.{under}
use Rattle.law_checks.specs.Says.{StackEndSays}
use Rattle.law_checks.specs.Values.{IsPortOf, IsMap}
use Rattle.law_breaks.specs.Found.{IsItemOf}

-- ---- rule 8

-- the ACL is one of an interface of the datapath, or of a VLAN of which it has an edge port
abbrev pub IsAttached : Configuration → Dp → List ℕ → Type 0
IsAttached conf d name =
    ((p : Port) × Contains d.ports p × Contains p.acls name)
    ⊎ ((v : Vlan) × Contains conf.vlans v × Contains v.acls name × (has_edge_member d v.vid ≡ true))

-- no interface of the datapath has the name, or one that is an end of a stack link
abbrev pub IsNoTarget : ConfCause → Dp → PortRef → Type 0
IsNoTarget cause d ref = ((cause ≡ Unresolved) × (port_named d ref ≡ None)) ⊎ ((cause ≡ Conflict 8) × ((p : Port) × (port_named d ref ≡ Some p) × (is_some p.stack ≡ true)))

-- an ACL names a port that isn't there on a datapath where it is attached
pub record NamesNoTarget (o : OrderedConf) (conf : Configuration) (cause : ConfCause) (steps : List (List ℕ)) (v : Tree) : Type 0 where
  pub acl : RawAcl
  pub is_acl : Contains o.acls acl
  pub below : List (List ℕ)
  pub path : steps ≡ codes "acls" ∷ acl.name ∷ below
  pub ref : PortRef
  pub names : IsPortOf (out-Tree v) ref
  pub dp : Dp
  pub is_dp : Contains conf.dps dp
  pub attached : IsAttached conf dp acl.name
  pub wrong : IsNoTarget cause dp ref

-- ---- rule 9

-- the key of a rule asks for a field, and no field of the rule is what that one asks for (OpenFlow 1.3, 7.2.3.6)
pub record LacksPrerequisite (o : OrderedConf) (steps : List (List ℕ)) (v : Tree) : Type 0 where
  pub acl : RawAcl
  pub is_acl : Contains o.acls acl
  pub rule : RawRule
  pub site : List (List ℕ)
  pub item : IsItemOf (codes "acls" ∷ acl.name ∷ []) acl.rules site rule
  pub field : RawField
  pub is_field : Contains rule.fields field
  pub path : steps ≡ site ++ codes "rule" ∷ field.key ∷ []
  pub lacks : has_prerequisite field.field.id (map (λ f. f.field) rule.fields) ≡ false

-- ---- rules 10 and 11

-- the steps lead to what stands under the key of an interface, or below it
pub record IsOfInterface (o : OrderedConf) (key : List ℕ) (steps : List (List ℕ)) : Type 0 where
  pub dp : RawDp
  pub is_dp : Contains o.dps dp
  pub port : RawPort
  pub is_port : Contains dp.ports port
  pub below : List (List ℕ)
  pub path : steps ≡ under (port_site dp port) key ++ below

-- the number is the mirror's own, or not that of an edge port
abbrev pub IsNoMirrorable : Dp → Port → ℕ → Type 0
IsNoMirrorable d p number = (number ≡ p.no) ⊎ (option_map_or is_edge (port_with d.ports number) false ≡ false)

-- rule 10: what is mirrored is no interface of the datapath, or may not be mirrored
pub record MirrorsNone (o : OrderedConf) (cause : ConfCause) (steps : List (List ℕ)) (v : Tree) : Type 0 where
  pub at : IsOfInterface o (codes "mirror") steps
  pub ref : PortRef
  pub is_item : Contains (items_of at.port.mirror) ref
  pub names : IsPortOf (out-Tree v) ref
  pub wrong : ((cause ≡ Unresolved) × (number_named at.dp ref ≡ None))
      ⊎ ((cause ≡ Conflict 10) × ((number : ℕ) × (number_named at.dp ref ≡ Some number) × IsNoMirrorable (dp_of o at.dp) (port_of o at.dp at.port) number))

-- it has a VLAN, an ACL or a stack link
abbrev pub IsUsed : Port → Type 0
IsUsed p = (vlans_named p ≡ [] → ⊥) ⊎ ((p.acls ≡ [] → ⊥) ⊎ (is_some p.stack ≡ true))

-- or the mirror is used for something else
pub record MirrorIsUsed (o : OrderedConf) (steps : List (List ℕ)) : Type 0 where
  pub at : IsOfInterface o (codes "mirror") steps
  pub mirrors : (port_of o at.dp at.port).mirror ≡ [] → ⊥
  pub used : IsUsed (port_of o at.dp at.port)

abbrev pub IsWrongMirror : OrderedConf → ConfCause → List (List ℕ) → Tree → Type 0
IsWrongMirror o cause steps v = MirrorsNone o cause steps v ⊎ ((cause ≡ Conflict 10) × MirrorIsUsed o steps)

-- ---- rule 11

-- the far end is on the same datapath, or isn't there, or doesn't point back
abbrev pub IsNoFarEnd : Configuration → Dp → Port → StackEnd → Type 0
IsNoFarEnd conf d p far =
    (far.dp.0 ≡ d.id.0)
    ⊎ ((port_at conf far.dp far.port ≡ None)
    ⊎ ((q : Port) × (port_at conf far.dp far.port ≡ Some q) × (q.stack ≡ Some (record { dp = d.id; port = p.no }) → ⊥)))

-- what is named as the far end of a stack link is none, or the near one is no end, which has no VLAN, ACL or mirrored port, and none of
-- three flags
pub record IsWrongStack (o : OrderedConf) (conf : Configuration) (cause : ConfCause) (steps : List (List ℕ)) (v : Tree) : Type 0 where
  pub at : IsOfInterface o (codes "stack") steps
  pub end : RawStackEnd
  pub stack : at.port.stack ≡ Some end
  pub says : IsMap StackEndSays v end
  pub wrong : ((cause ≡ Unresolved) × (far_end o.dps end ≡ None))
      ⊎ ((cause ≡ Conflict 11) × ((far : StackEnd) × (far_end o.dps end ≡ Some far) × (IsNoFarEnd conf (dp_of o at.dp) (port_of o at.dp at.port) far ⊎ (IsStackPort conf (dp_of o at.dp) (port_of o at.dp at.port) far → ⊥))))
