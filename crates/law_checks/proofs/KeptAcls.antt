-- No rule on the rules of ACLs is broken where they are valid.
use Rattle.std.specs.Prelude.{◌≡◌, ℕ, ◌&&◌, Bool, true, false, List, [], ◌∷◌, ◌++◌, map, codes, Option, Some, None, IsTrue, IsSomeAnd, is_some, nat_lt, if◌then◌else◌}
use Rattle.std.specs.List.{AllByRecursion, list_any, find}
use Rattle.std.specs.Option.{option_map_or}
use Rattle.std.proofs.Common.{◌⊎◌, inl, inr, refl, sym, ap, ◌∙◌, subst, true≢false}
use Rattle.std.proofs.lemmas.Bool.{and_parts, or_cases}
use Rattle.net_base.specs.declared.field.Field.{Field}
use Rattle.net_base.specs.FieldId.{number_of}
use Rattle.net_base.specs.WellFormed.{has_prerequisite}
use Rattle.conf_types.specs.declared.acl.Acl.{Acl}
use Rattle.conf_types.specs.declared.acl.PortRef.{PortRef}
use Rattle.conf_types.specs.declared.acl.Rule.{Rule}
use Rattle.conf_types.specs.declared.datapath.Dp.{Dp}
use Rattle.conf_types.specs.declared.datapath.Port.{Port}
use Rattle.conf_types.specs.declared.datapath.StackEnd.{StackEnd}
use Rattle.conf_types.specs.declared.vlan.Vlan.{Vlan}
use Rattle.conf_types.specs.Attached.{acl_named, rules_of, port_named, names_in}
use Rattle.conf_types.specs.Configuration.{Configuration}
use Rattle.conf_types.specs.Lists.{EachBefore, IsTextBefore, is_same}
use Rattle.conf_types.specs.Membership.{has_edge_member}
use Rattle.conf_types.specs.Valid.{NamePortsOf}
use Rattle.conf_shape.specs.declared.raw.RawField.{RawField}
use Rattle.conf_shape.specs.declared.raw.RawRule.{RawRule}
use Rattle.conf_shape.specs.declared.raw.RawAcl.{RawAcl}
use Rattle.conf_shape.specs.declared.refused.ConfCause.{ConfCause}
use Rattle.conf_shape.specs.declared.refused.ConfCause.TheVariants.{Unresolved, Conflict}
use Rattle.conf_resolve.specs.declared.ordered.OrderedConf.{OrderedConf}
use Rattle.conf_resolve.specs.Resolved.{acl_of, rule_of, resolved, to_list}
use Rattle.conf_rules.specs.Places.{fault_if_some, first}
use Rattle.conf_rules.specs.Ports.{is_in, is_attached, wrong_target, wrong_on, wrong_port, wrong_rule, rules_at, wrong_acl, wrong_acl_ports, lacking_field, lacking_fields, lacking_of_acl, lacking_rules}
use Rattle.law_checks.proofs.Acls.{targets_at, targets_wrong, targets_values}
use Rattle.law_checks.proofs.Empty.{values_at}
use Rattle.law_checks.proofs.Kept.{all_empty, no_lack, is_value}
use Rattle.law_checks.proofs.KeptNames.{before_not_same}
use Rattle.law_checks.proofs.Members.{IsIn, of_all, in_mapped, in_flat, some_of, finds, found, two_of}
use Rattle.law_checks.proofs.Orders.{of_order, into_order, same_texts, same_itself}
use Rattle.law_checks.proofs.RuleFields.{HasWhatItAsks, same_asked}

pub no_wrong_target : (name : PortRef) (d : Dp) → IsSomeAnd (port_named d name) (λ p. p.stack ≡ None) → to_list (wrong_target name d) ≡ []
no_wrong_target name d = by (port_named d name)
  where
    by : (o : Option Port) → IsSomeAnd o (λ p. p.stack ≡ None) → to_list (option_map_or (λ p. if is_some p.stack then Some (Conflict 8) else None) o (Some Unresolved)) ≡ []
    by None is = absurd is
    by (Some p) is = ap (λ (o : Option StackEnd). to_list (if is_some o then Some (Conflict 8) else None)) is

pub if_true : {A : Type 0} (b : Bool) (xs : List A) → (b ≡ true → xs ≡ []) → (if b then xs else []) ≡ []
if_true true xs h = h refl
if_true false xs h = refl

module _ (o : OrderedConf) where
  abbrev conf : Configuration
  conf = resolved o

  -- ---- the fields of rules

  pub fields_kept : AllByRecursion (λ acl. AllByRecursion HasWhatItAsks acl.rules) conf.acls → lacking_rules o ≡ []
  fields_kept all = all_empty lacking_of_acl o.acls (λ a ca. all_empty lacking_fields (rules_at a) (λ item i.
      let cr = is_value (rules_at a) a.rules (values_at (codes "acls" ∷ a.name ∷ []) a.rules) item i in
      all_empty (lacking_field item.0 (map (λ g. g.field) item.1.fields)) item.1.fields (λ f cf.
      no_lack (has_prerequisite f.field.id (map (λ g. g.field) item.1.fields)) (Conflict 9) (item.0 ++ codes "rule" ∷ f.key ∷ []) (field_has a ca item.1 cr f cf))))
    where
      before : Field → Field → Bool
      before f g = nat_lt (number_of f.id) (number_of g.id)

      field_has : (a : RawAcl) → IsIn o.acls a → (r : RawRule) → IsIn a.rules r → (f : RawField) → IsIn r.fields f → has_prerequisite f.field.id (map (λ g. g.field) r.fields) ≡ true
      field_has a ca r cr f cf =
          let of_rule = of_all HasWhatItAsks (acl_of a).rules (of_all (λ (a : Acl). AllByRecursion HasWhatItAsks a.rules) conf.acls all (acl_of a) (in_mapped acl_of o.acls a ca)) (rule_of r) (in_mapped rule_of a.rules r cr) in
          same_asked (rule_of r).fields (map (λ g. g.field) r.fields) (λ g j. of_order before (map (λ g. g.field) r.fields) g j) f.field.id
          (of_all (λ (f : Field). IsTrue (has_prerequisite f.id (rule_of r).fields)) (rule_of r).fields of_rule f.field (into_order before (map (λ g. g.field) r.fields) f.field (in_mapped (λ (g : RawField). g.field) r.fields f cf)))

  -- ---- ports that are named

  module _ (in_order : EachBefore (λ a b. IsTextBefore a.name b.name) conf.acls)
      (ports_on : AllByRecursion (λ d. AllByRecursion (λ p. NamePortsOf d (rules_of conf p.acls)) d.ports) conf.dps)
      (vlans_on : AllByRecursion (λ d. AllByRecursion (λ v. has_edge_member d v.vid ≡ true → NamePortsOf d (rules_of conf v.acls)) conf.vlans) conf.dps) where
    -- an ACL is found by its name
    named_acl : (a : RawAcl) → IsIn o.acls a → acl_named conf.acls a.name ≡ Some (acl_of a)
    named_acl a ca = f.1 ∙ ap Some (sym (by (two_of (λ (a b : Acl). IsTextBefore a.name b.name) conf.acls in_order (acl_of a) f.0 (in_mapped acl_of o.acls a ca) m.0)))
      where
        f : (y : Acl) × (find (λ (acl : Acl). is_same acl.name a.name) conf.acls ≡ Some y)
        f = finds (λ (acl : Acl). is_same acl.name a.name) conf.acls (acl_of a) (in_mapped acl_of o.acls a ca) (same_itself a.name a.name refl)

        m : IsIn conf.acls f.0 × (is_same f.0.name a.name ≡ true)
        m = found (λ (acl : Acl). is_same acl.name a.name) conf.acls f.0 f.1

        by : (acl_of a ≡ f.0) ⊎ (IsTextBefore a.name f.0.name ⊎ IsTextBefore f.0.name a.name) → acl_of a ≡ f.0
        by (inl e) = e
        by (inr (inl is)) = absurd (true≢false (sym (same_itself a.name f.0.name (sym (same_texts f.0.name a.name m.1))) ∙ before_not_same a.name f.0.name is))
        by (inr (inr is)) = absurd (true≢false (sym m.1 ∙ before_not_same f.0.name a.name is))

    in_rules : (a : RawAcl) → IsIn o.acls a → (r : RawRule) → IsIn a.rules r → (names : List (List ℕ)) → is_in a.name names ≡ true → IsIn (rules_of conf names) (rule_of r)
    in_rules a ca r cr names is =
        let m = some_of (λ other. is_same other a.name) names is in
        in_flat (λ name. option_map_or (λ acl. acl.rules) (acl_named conf.acls name) []) names m.0 (rule_of r) m.1
        (subst (λ (n : List ℕ). IsIn (option_map_or (λ acl. acl.rules) (acl_named conf.acls n) []) (rule_of r)) (sym (same_texts m.0 a.name m.2))
        (subst (λ (p : Option Acl). IsIn (option_map_or (λ acl. acl.rules) p []) (rule_of r)) (sym (named_acl a ca)) (in_mapped rule_of a.rules r cr)))

    names_port : (d : Dp) → IsIn conf.dps d → (a : RawAcl) → IsIn o.acls a → (r : RawRule) → IsIn a.rules r → (name : PortRef) → IsIn (names_in (rule_of r)) name → is_attached conf d a.name ≡ true → IsSomeAnd (port_named d name) (λ p. p.stack ≡ None)
    names_port d cd a ca r cr name cn attached = by (or_cases (list_any (λ (p : Port). is_in a.name p.acls) d.ports) (list_any (λ (v : Vlan). is_in a.name v.acls && has_edge_member d v.vid) conf.vlans) attached)
      where
        of_rules : (names : List (List ℕ)) → is_in a.name names ≡ true → NamePortsOf d (rules_of conf names) → IsSomeAnd (port_named d name) (λ p. p.stack ≡ None)
        of_rules names is all =
            of_all (λ name. IsSomeAnd (port_named d name) (λ p. p.stack ≡ None)) (names_in (rule_of r))
            (of_all (λ (rule : Rule). AllByRecursion (λ name. IsSomeAnd (port_named d name) (λ p. p.stack ≡ None)) (names_in rule)) (rules_of conf names) all (rule_of r) (in_rules a ca r cr names is)) name cn

        by : (list_any (λ (p : Port). is_in a.name p.acls) d.ports ≡ true) ⊎ (list_any (λ (v : Vlan). is_in a.name v.acls && has_edge_member d v.vid) conf.vlans ≡ true) → IsSomeAnd (port_named d name) (λ p. p.stack ≡ None)
        by (inl is) =
            let m = some_of (λ (p : Port). is_in a.name p.acls) d.ports is in
            of_rules m.0.acls m.2 (of_all (λ (p : Port). NamePortsOf d (rules_of conf p.acls)) d.ports (of_all (λ (d : Dp). AllByRecursion (λ p. NamePortsOf d (rules_of conf p.acls)) d.ports) conf.dps ports_on d cd) m.0 m.1)
        by (inr is) =
            let m = some_of (λ (v : Vlan). is_in a.name v.acls && has_edge_member d v.vid) conf.vlans is in
            let parts = and_parts (is_in a.name m.0.acls) (has_edge_member d m.0.vid) m.2 in
            of_rules m.0.acls parts.0 (of_all (λ (v : Vlan). has_edge_member d v.vid ≡ true → NamePortsOf d (rules_of conf v.acls)) conf.vlans (of_all (λ (d : Dp). AllByRecursion (λ v. has_edge_member d v.vid ≡ true → NamePortsOf d (rules_of conf v.acls)) conf.vlans) conf.dps vlans_on d cd) m.0 m.1 parts.1)

    pub targets_kept : wrong_acl_ports o conf ≡ []
    targets_kept = all_empty (wrong_acl conf) o.acls (λ a ca. all_empty (wrong_rule conf a) (rules_at a) (λ item i.
        let cr = is_value (rules_at a) a.rules (values_at (codes "acls" ∷ a.name ∷ []) a.rules) item i in
        targets_wrong conf a item ∙ all_empty (wrong_port conf a) (targets_at item) (λ target j.
        let cn = is_value (targets_at item) (names_in (rule_of item.1)) (targets_values item.0 item.1) target j in
        ap (λ (causes : List ConfCause). fault_if_some (first causes) target.0)
        (all_empty (wrong_on conf a.name target.1) conf.dps (λ d cd.
        if_true (is_attached conf d a.name) (to_list (wrong_target target.1 d)) (λ attached. no_wrong_target target.1 d (names_port d cd a ca item.1 cr target.1 cn attached)))))))
