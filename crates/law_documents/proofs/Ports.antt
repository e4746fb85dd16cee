-- The paths of rules 8 to 11: ports that ACLs, mirrors and stack links name, and the fields of rules.
use Rattle.std.specs.Prelude.{◌≡◌, ℕ, ◌==◌, ◌&&◌, true, not, List, [], ◌∷◌, ◌++◌, map, codes, length, Option, None, Some, IsSomeAnd, unwrap_or}
use Rattle.std.specs.List.{flat_map}
use Rattle.std.proofs.Common.{inl, inr, sym, ap, ◌∙◌, subst, true≢false}
use Rattle.net_base.specs.WellFormed.{has_prerequisite}
use Rattle.yaml_tree.specs.declared.tree.Pair.{Pair}
use Rattle.yaml_tree.specs.declared.tree.Tree.{Tree, out-Tree}
use Rattle.yaml_tree.specs.declared.tree.Tree.TheOpen.{Tree-F}
use Rattle.conf_types.specs.declared.acl.PortRef.{PortRef}
use Rattle.conf_types.specs.Configuration.{Configuration}
use Rattle.conf_shape.specs.declared.raw.OneOrList.{OneOrList}
use Rattle.conf_shape.specs.declared.raw.OneOrList.TheVariants as several
use Rattle.conf_shape.specs.declared.raw.RawAcl.{RawAcl}
use Rattle.conf_shape.specs.declared.raw.RawConf.{RawConf}
use Rattle.conf_shape.specs.declared.raw.RawDp.{RawDp}
use Rattle.conf_shape.specs.declared.raw.RawField.{RawField}
use Rattle.conf_shape.specs.declared.raw.RawOutput.{RawOutput}
use Rattle.conf_shape.specs.declared.raw.RawPort.{RawPort}
use Rattle.conf_shape.specs.declared.raw.RawRule.{RawRule}
use Rattle.conf_shape.specs.declared.raw.RawStackEnd.{RawStackEnd}
use Rattle.conf_shape.specs.declared.refused.ConfCause.TheVariants.{Conflict}
use Rattle.conf_shape.specs.declared.refused.ConfFault.{ConfFault}
use Rattle.conf_shape.specs.Keys.{match_keys}
use Rattle.conf_resolve.specs.declared.ordered.OrderedConf.{OrderedConf}
use Rattle.conf_resolve.specs.InOrder.{port_site, ordered}
use Rattle.conf_resolve.specs.Resolved.{to_list, items_of, once, number_named, dp_of, port_of, resolved}
use Rattle.conf_rules.specs.Places.{fault_if, fault_if_some, first, under, each_at, items_at, Interface, interfaces}
use Rattle.conf_rules.specs.Ports.{wrong_targets, port_at_site, wrong_port, wrong_output, actions_site, mirror_at, outputs_at, wrong_rule, rules_at, lacking_field, lacking_fields, mirrored_cause, wrong_mirrored, is_used, wrong_mirror, stack_cause, wrong_stack}
use Rattle.law_checks.specs.Says.{Says, PortSays, StackEndSays, OutputSays, ActionsSay, RuleSays, RuleItemSays}
use Rattle.law_checks.specs.Values.{IsPortOf, IsList, IsOneOrList, IsMap}
use Rattle.law_checks.proofs.KeptLinks.{at, of_interfaces}
use Rattle.law_checks.proofs.Members.{IsIn}
use Rattle.law_documents.specs.Forms.{IsScalar, IsSequence, IsSection, NamesPort, NamesPorts}
use Rattle.law_documents.specs.Leads.{PathsLead}
use Rattle.law_documents.specs.Rules.{PortPathsLead}
use Rattle.law_documents.proofs.Fields.{field_written}
use Rattle.law_documents.proofs.Leads.{Reaches, onward, there, one_step, among_entries, HasKey, given, needed, not_empty, in_list, in_key, in_option, in_several}
use Rattle.law_documents.proofs.Own.{section}
use Rattle.law_documents.proofs.Parts.{IsPart, dp_leads, acl_leads}
use Rattle.law_documents.proofs.Told.{At, told_if, told_of, each, both}

-- a tree that names the port
abbrev pub PortAt : Tree → PortRef → Type 0
PortAt u ref = IsPortOf (out-Tree u) ref

mirror_form : (v : Tree) (o : OneOrList PortRef) → IsOneOrList PortAt v o → NamesPorts (out-Tree v)
mirror_form v (several.One ref) is = inl (ref, is)
mirror_form v (several.List refs) is = inr (subst IsSequence (sym is.1) tt)

stack_form : (v : Tree) (o : Option RawStackEnd) → IsSomeAnd o (IsMap StackEndSays v) → IsSection (out-Tree v)
stack_form v None is = absurd is
stack_form v (Some end) is = section (out-Tree v) is.0 is.1

-- ---- a rule of an ACL

module _ (t : Tree) (r : List (List ℕ) × RawRule) (here : Reaches t r.0 (λ u. IsMap RuleItemSays u r.1)) where
  pub actions_lead : Reaches t (actions_site r.0) (λ v. IsMap ActionsSay v r.1)
  actions_lead =
      onward t r.0 (λ u. IsMap RuleItemSays u r.1) (codes "rule" ∷ codes "actions" ∷ []) (λ v. IsMap ActionsSay v r.1) here (λ u m.
      onward u (codes "rule" ∷ []) (λ v. IsMap RuleSays v r.1) (codes "actions" ∷ []) (λ v. IsMap ActionsSay v r.1)
      (needed u (codes "rule") (λ v. IsMap RuleSays v r.1) m.0 m.1 m.2)
      (λ w n. needed w (codes "actions") (λ v. IsMap ActionsSay v r.1) n.0 n.1 n.2.actions))

  pub field_leads : (f : RawField) → IsIn r.1.fields f → At t IsScalar (r.0 ++ codes "rule" ∷ f.key ∷ [])
  field_leads f i =
      onward t r.0 (λ u. IsMap RuleItemSays u r.1) (codes "rule" ∷ f.key ∷ []) (λ v. IsScalar (out-Tree v)) here (λ u m.
      onward u (codes "rule" ∷ []) (λ v. IsMap RuleSays v r.1) (f.key ∷ []) (λ v. IsScalar (out-Tree v))
      (needed u (codes "rule") (λ v. IsMap RuleSays v r.1) m.0 m.1 m.2)
      (λ w n. let e = field_written match_keys n.0 r.1.fields n.2.fields f i in (e.0, one_step w f.key e.0 (among_entries (out-Tree w) n.0 f.key e.0 n.1 e.1), e.2)))

  fields_lead : PathsLead t IsScalar (lacking_fields r)
  fields_lead = each t IsScalar (lacking_field r.0 (map (λ g. g.field) r.1.fields)) r.1.fields (λ f i.
      told_if t IsScalar (not (has_prerequisite f.field.id (map (λ g. g.field) r.1.fields))) (Conflict 9) (r.0 ++ codes "rule" ∷ f.key ∷ []) (λ is. field_leads f i))

  module _ (conf : Configuration) (a : RawAcl) where
    targets_lead : (items : List (List (List ℕ) × PortRef)) → ((item : List (List ℕ) × PortRef) → IsIn items item → Reaches t item.0 (λ v. PortAt v item.1)) → PathsLead t NamesPort (flat_map (wrong_port conf a) items)
    targets_lead items h = each t NamesPort (wrong_port conf a) items (λ item i. told_of t NamesPort (first (wrong_targets conf a.name item.1)) item.0
        (there t item.0 (λ v. PortAt v item.1) (λ v. NamesPort (out-Tree v)) (h item i) (λ v names. (item.1, names))))

    output_leads : (o : List (List ℕ) × RawOutput) → Reaches t o.0 (λ u. IsMap OutputSays u o.1) → PathsLead t NamesPort (wrong_output conf a o)
    output_leads o at =
        both t NamesPort (flat_map (wrong_port conf a) (port_at_site o.0 o.1.port)) (flat_map (wrong_port conf a) (each_at (under o.0 (codes "ports")) o.1.ports))
        (targets_lead (port_at_site o.0 o.1.port) (in_option t o.0 (codes "port") PortAt o.1.port (there t o.0 (λ u. IsMap OutputSays u o.1) (HasKey (codes "port") (o.1.port ≡ None) (λ v. IsSomeAnd o.1.port (PortAt v))) at (λ u m. (m.0, m.1, m.2.port)))))
        (targets_lead (each_at (under o.0 (codes "ports")) o.1.ports) (in_key t o.0 (codes "ports") PortAt o.1.ports (there t o.0 (λ u. IsMap OutputSays u o.1) (HasKey (codes "ports") (o.1.ports ≡ []) (λ v. IsList PortAt v o.1.ports)) at (λ u m. (m.0, m.1, m.2.ports)))))

    rule_leads : PathsLead t NamesPort (wrong_rule conf a r)
    rule_leads =
        both t NamesPort (flat_map (wrong_port conf a) (mirror_at r)) (flat_map (wrong_output conf a) (outputs_at r))
        (targets_lead (mirror_at r) (in_option t (actions_site r.0) (codes "mirror") PortAt r.1.mirror
        (there t (actions_site r.0) (λ v. IsMap ActionsSay v r.1) (HasKey (codes "mirror") (r.1.mirror ≡ None) (λ v. IsSomeAnd r.1.mirror (PortAt v))) actions_lead (λ u m. (m.0, m.1, m.2.mirror)))))
        (each t NamesPort (wrong_output conf a) (outputs_at r) (λ o i. output_leads o (in_several t (actions_site r.0) (codes "output") (IsMap OutputSays) r.1.output
        (there t (actions_site r.0) (λ v. IsMap ActionsSay v r.1) (HasKey (codes "output") (r.1.output ≡ several.List []) (λ v. IsOneOrList (IsMap OutputSays) v r.1.output)) actions_lead (λ u m. (m.0, m.1, m.2.output)))
        o i)))

module _ (t : Tree) (raw : RawConf) (says : Says t raw) where
  abbrev o : OrderedConf
  o = ordered raw

  abbrev conf : Configuration
  conf = resolved o

  -- what holds of each rule of an ACL where it is written
  each_rule : (Form : Tree-F Tree Pair → Type 0) (f : RawAcl → List (List ℕ) × RawRule → List ConfFault) → ((a : RawAcl) (r : List (List ℕ) × RawRule) → Reaches t r.0 (λ u. IsMap RuleItemSays u r.1) → PathsLead t Form (f a r)) → PathsLead t Form (flat_map (λ a. flat_map (f a) (rules_at a)) o.acls)
  each_rule Form f h = each t Form (λ a. flat_map (f a) (rules_at a)) o.acls (λ a i. each t Form (f a) (rules_at a) (λ r j.
      h a r (in_list t (codes "acls" ∷ a.name ∷ []) (IsMap RuleItemSays) a.rules (λ no. acl_leads t raw says a i) r j)))

  -- what holds of each interface where it is written
  pub each_interface : (Form : Tree-F Tree Pair → Type 0) (f : Interface → List ConfFault) → ((d : RawDp) (p : RawPort) → Reaches t (port_site d p) (IsPart PortSays p) → PathsLead t Form (f (at o d p))) → PathsLead t Form (flat_map f (interfaces o conf))
  each_interface Form f h = each t Form f (interfaces o conf) (λ i ci.
      let w = of_interfaces o i ci in
      subst (λ i. PathsLead t Form (f i)) w.4 (h w.0 w.2 ((dp_leads t raw says w.0 w.1).port w.2 w.3)))

  mirrors_lead : (d : RawDp) (p : RawPort) → Reaches t (port_site d p) (IsPart PortSays p) → PathsLead t NamesPorts (wrong_mirror (at o d p))
  mirrors_lead d p r =
      both t NamesPorts (flat_map (wrong_mirrored (at o d p)) (items_at (under (port_site d p) (codes "mirror")) p.mirror)) (fault_if (not (length (port_of o d p).mirror == 0) && is_used (port_of o d p)) (Conflict 10) (under (port_site d p) (codes "mirror")))
      (each t NamesPorts (wrong_mirrored (at o d p)) (items_at (under (port_site d p) (codes "mirror")) p.mirror) (λ item i.
      told_of t NamesPorts (mirrored_cause d (dp_of o d) (port_of o d p) item.1) item.0
      (there t item.0 (λ v. PortAt v item.1) (λ v. NamesPorts (out-Tree v)) (in_several t (port_site d p) (codes "mirror") PortAt p.mirror mirror item i) (λ v names. inl (item.1, names)))))
      (told_if t NamesPorts (not (length (port_of o d p).mirror == 0) && is_used (port_of o d p)) (Conflict 10) (under (port_site d p) (codes "mirror")) (λ is.
      onward t (port_site d p) (HasKey (codes "mirror") (p.mirror ≡ several.List []) (λ v. IsOneOrList PortAt v p.mirror)) (codes "mirror" ∷ []) (λ v. NamesPorts (out-Tree v)) mirror (λ u h.
      there u (codes "mirror" ∷ []) (λ v. IsOneOrList PortAt v p.mirror) (λ v. NamesPorts (out-Tree v)) (given u (codes "mirror") (λ v. IsOneOrList PortAt v p.mirror) (p.mirror ≡ several.List []) h (unmirrored is)) (λ v m. mirror_form v p.mirror m))))
    where
      mirror : Reaches t (port_site d p) (HasKey (codes "mirror") (p.mirror ≡ several.List []) (λ v. IsOneOrList PortAt v p.mirror))
      mirror = there t (port_site d p) (IsPart PortSays p) (HasKey (codes "mirror") (p.mirror ≡ several.List []) (λ v. IsOneOrList PortAt v p.mirror)) r (λ u h. (h.1.0, h.1.1, h.1.2.mirror))

      -- what mirrors nothing is no mirror
      unmirrored : (not (length (port_of (ordered raw) d p).mirror == 0) && is_used (port_of (ordered raw) d p)) ≡ true → p.mirror ≡ several.List [] → ⊥
      unmirrored is none = true≢false (sym is ∙ ap (λ (m : OneOrList PortRef). not (length (once (map (λ name. unwrap_or (number_named d name) p.no) (items_of m))) == 0) && is_used (port_of (ordered raw) d p)) none)

  stacks_lead : (d : RawDp) (p : RawPort) → Reaches t (port_site d p) (IsPart PortSays p) → PathsLead t IsSection (wrong_stack o conf (at o d p))
  stacks_lead d p r = each t IsSection (λ end. fault_if_some (stack_cause o conf (dp_of o d) (port_of o d p) end) (under (port_site d p) (codes "stack"))) (to_list p.stack) (λ end i.
      told_of t IsSection (stack_cause o conf (dp_of o d) (port_of o d p) end) (under (port_site d p) (codes "stack"))
      (onward t (port_site d p) (IsPart PortSays p) (codes "stack" ∷ []) (λ v. IsSection (out-Tree v)) r (λ u h.
      there u (codes "stack" ∷ []) (λ v. IsSomeAnd p.stack (IsMap StackEndSays v)) (λ v. IsSection (out-Tree v))
      (given u (codes "stack") (λ v. IsSomeAnd p.stack (IsMap StackEndSays v)) (p.stack ≡ None) (h.1.0, h.1.1, h.1.2.stack) (λ none. not_empty (to_list p.stack) end i (ap to_list none)))
      (λ v m. stack_form v p.stack m))))

  pub ports_lead : PortPathsLead t (ordered raw) (resolved (ordered raw))
  ports_lead = record {
    acl_ports = each_rule NamesPort (wrong_rule conf) (λ a r at. rule_leads t r at conf a);
    fields = each_rule IsScalar (λ a r. lacking_fields r) (λ a r at. fields_lead t r at);
    mirrors = each_interface NamesPorts wrong_mirror mirrors_lead;
    stacks = each_interface IsSection (wrong_stack o conf) stacks_lead;
  }
