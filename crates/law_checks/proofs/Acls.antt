-- ACLs are valid, and valid where they are attached, where no rule on them is broken.
use Rattle.std.specs.Prelude.{◌≡◌, ℕ, ◌&&◌, Bool, true, false, List, [], ◌∷◌, ◌++◌, map, codes, Option, Some, None, IsTrue, IsSomeAnd, is_some, is_none, if◌then◌else◌}
use Rattle.std.specs.List.{AllByRecursion, flat_map, list_any}
use Rattle.std.specs.Option.{option_map_or}
use Rattle.std.proofs.Common.{inl, inr, refl, sym, ap, ◌∙◌, subst, true≢false}
use Rattle.std.proofs.lemmas.Bool.{and_from, or_left, or_right}
use Rattle.std.proofs.lemmas.Grind.{flat_map-append}
use Rattle.std.proofs.lemmas.List.{map-append}
use Rattle.net_base.specs.WellFormed.{has_prerequisite}
use Rattle.conf_types.specs.declared.acl.Acl.{Acl}
use Rattle.conf_types.specs.declared.acl.PortRef.{PortRef}
use Rattle.conf_types.specs.declared.acl.Rule.{Rule}
use Rattle.conf_types.specs.declared.datapath.Dp.{Dp}
use Rattle.conf_types.specs.declared.datapath.Port.{Port}
use Rattle.conf_types.specs.declared.datapath.StackEnd.{StackEnd}
use Rattle.conf_types.specs.declared.vlan.Vlan.{Vlan}
use Rattle.conf_types.specs.Attached.{acl_named, rules_of, port_named, names_in}
use Rattle.conf_types.specs.Configuration.{Configuration}
use Rattle.conf_types.specs.Lists.{EachBefore, IsTextBefore, is_same}
use Rattle.conf_types.specs.Membership.{has_edge_member}
use Rattle.conf_types.specs.Valid.{IsRule, NamePortsOf, AclsExist, AclsAreValid}
use Rattle.conf_shape.specs.declared.raw.RawAclNames.{RawAclNames}
use Rattle.conf_shape.specs.declared.raw.RawField.{RawField}
use Rattle.conf_shape.specs.declared.raw.RawOutput.{RawOutput}
use Rattle.conf_shape.specs.declared.raw.RawRule.{RawRule}
use Rattle.conf_shape.specs.declared.raw.RawAcl.{RawAcl}
use Rattle.conf_shape.specs.declared.raw.RawConf.{RawConf}
use Rattle.conf_shape.specs.declared.refused.ConfCause.TheVariants.{Unresolved, Conflict}
use Rattle.conf_resolve.specs.declared.ordered.OrderedConf.{OrderedConf}
use Rattle.conf_resolve.specs.declared.ordered.PlacedVlan.{PlacedVlan}
use Rattle.conf_resolve.specs.InOrder.{ordered, acls_in_order, port_site, is_text_before}
use Rattle.conf_resolve.specs.InRange.{IsInRange, RuleIsInRange}
use Rattle.conf_resolve.specs.Resolved.{acl_names, acl_of, rule_of, port_of, dp_of, vlan_of, ports_of, to_list, resolved}
use Rattle.conf_rules.specs.Names.{unknown_acl, unknown_at, unknown_acls_of_vlan, unknown_acls_of_port, unknown_acls_of_dp, unknown_acls}
use Rattle.conf_rules.specs.Places.{under, each_at, one_at, list_at}
use Rattle.conf_rules.specs.Ports.{is_in, is_attached, wrong_target, wrong_on, wrong_targets, port_at_site, wrong_port, wrong_output, actions_site, mirror_at, outputs_at, wrong_rule, rules_at, wrong_acl, wrong_acl_ports, lacking_field, lacking_fields, lacking_of_acl, lacking_rules}
use Rattle.law_checks.proofs.Empty.{none_left, none_right, none_at, none_of_values, values_at, values_of, passes, holds, no_first}
use Rattle.law_checks.proofs.RuleFields.{HasWhatItAsks, asks, rule_valid}
use Rattle.law_checks.proofs.Members.{IsIn, of_all, all_by, in_front, all_mapped, all_flat, of_mapped, any_by, found, before_mapped, before_both}
use Rattle.law_checks.proofs.Orders.{all_ordered, each_ordered, sorted, text_order, text_rises, other_texts, same_texts, same_itself}
use Rattle.law_checks.proofs.Unbroken.{BreaksNone}

-- ---- the places of names

-- a value of a list is at some place of it
place_of : {A : Type 0} (site : List (List ℕ)) (xs : List A) (x : A) → IsIn xs x → (s : List (List ℕ)) × IsIn (each_at site xs) (s, x)
place_of {A = A} site xs x i =
    let m = of_mapped (λ (a : List (List ℕ) × A). a.1) (each_at site xs) x (subst (λ (l : List A). IsIn l x) (sym (values_at site xs)) i) in
    (m.0.0, subst (λ (y : A). IsIn (each_at site xs) (m.0.0, y)) m.2 m.1)

-- the names of ACLs, each with its place
abbrev pub acls_at : List (List ℕ) → RawAclNames → List (List (List ℕ) × List ℕ)
acls_at site acls = one_at site acls ++ list_at site acls

-- each name of ACLs that counts is at some place
acl_place : (site : List (List ℕ)) (acls : RawAclNames) (name : List ℕ) → IsIn (acl_names acls) name → (s : List (List ℕ)) × IsIn (acls_at site acls) (s, name)
acl_place site acls name i = by acls.one acls.list i
  where
    by : (one : Option (List ℕ)) (list : Option (List (List ℕ))) → IsIn (acl_names (record { one = one; list = list })) name → (s : List (List ℕ)) × IsIn (acls_at site (record { one = one; list = list })) (s, name)
    by (Some first) list (inl e) = (under site (codes "acl_in"), inl (ap (λ (n : List ℕ). (under site (codes "acl_in"), n)) e))
    by (Some first) list (inr j) = absurd j
    by None None j = absurd j
    by None (Some names) j = let m = place_of (under site (codes "acls_in")) names name j in (m.0, in_front (each_at (under site (codes "acls_in")) names) [] (m.0, name) m.1)

is_known : (o : Option Acl) → is_none o ≡ false → IsTrue (is_some o)
is_known None is = absurd (true≢false is)
is_known (Some acl) is = refl

pub acls_exist : (conf : Configuration) (site : List (List ℕ)) (acls : RawAclNames) → unknown_at conf site acls ≡ [] → AclsExist conf (acl_names acls)
acls_exist conf site acls none = all_by (λ name. IsTrue (is_some (acl_named conf.acls name))) (acl_names acls) (λ name i.
    let m = acl_place site acls name i in
    is_known (acl_named conf.acls name) (passes _ _ _ (none_at (unknown_acl conf) (acls_at site acls) (flat_map-append (unknown_acl conf) (one_at site acls) (list_at site acls) ∙ none) (m.0, name) m.1)))

-- ---- the ports that a rule names

placed_values : {A : Type 0} (site : List (List ℕ)) (xs : List A) → map (λ (a : List (List ℕ) × A). a.1) (map (λ x. (site, x)) xs) ≡ xs
placed_values site [] = refl
placed_values site (x ∷ xs) = ap (λ l. x ∷ l) (placed_values site xs)

-- the ports of a map of `output`, and of a rule, each with its place
abbrev output_at : List (List ℕ) × RawOutput → List (List (List ℕ) × PortRef)
output_at o = port_at_site o.0 o.1.port ++ each_at (under o.0 (codes "ports")) o.1.ports

abbrev pub targets_at : List (List ℕ) × RawRule → List (List (List ℕ) × PortRef)
targets_at r = mirror_at r ++ flat_map output_at (outputs_at r)

outputs_wrong : (conf : Configuration) (a : RawAcl) (os : List (List (List ℕ) × RawOutput)) → flat_map (wrong_output conf a) os ≡ flat_map (wrong_port conf a) (flat_map output_at os)
outputs_wrong conf a [] = refl
outputs_wrong conf a (o ∷ os) =
    ap (λ l. wrong_output conf a o ++ l) (outputs_wrong conf a os)
    ∙ ap (λ l. l ++ flat_map (wrong_port conf a) (flat_map output_at os)) (sym (flat_map-append (wrong_port conf a) (port_at_site o.0 o.1.port) (each_at (under o.0 (codes "ports")) o.1.ports)))
    ∙ sym (flat_map-append (wrong_port conf a) (output_at o) (flat_map output_at os))

-- what is wrong with a rule is wrong with one of its ports
pub targets_wrong : (conf : Configuration) (a : RawAcl) (r : List (List ℕ) × RawRule) → wrong_rule conf a r ≡ flat_map (wrong_port conf a) (targets_at r)
targets_wrong conf a r =
    ap (λ l. flat_map (wrong_port conf a) (mirror_at r) ++ l) (outputs_wrong conf a (outputs_at r))
    ∙ sym (flat_map-append (wrong_port conf a) (mirror_at r) (flat_map output_at (outputs_at r)))

output_values : (o : List (List ℕ) × RawOutput) → map (λ (a : List (List ℕ) × PortRef). a.1) (output_at o) ≡ ports_of o.1
output_values o =
    map-append (λ (a : List (List ℕ) × PortRef). a.1) (port_at_site o.0 o.1.port) (each_at (under o.0 (codes "ports")) o.1.ports)
    ∙ ap (λ l. l ++ map (λ (a : List (List ℕ) × PortRef). a.1) (each_at (under o.0 (codes "ports")) o.1.ports)) (placed_values (under o.0 (codes "port")) (to_list o.1.port))
    ∙ ap (λ l. to_list o.1.port ++ l) (values_at (under o.0 (codes "ports")) o.1.ports)

outputs_values : (items : List (List (List ℕ) × RawOutput)) → map (λ (a : List (List ℕ) × PortRef). a.1) (flat_map output_at items) ≡ flat_map ports_of (map (λ (a : List (List ℕ) × RawOutput). a.1) items)
outputs_values [] = refl
outputs_values (o ∷ os) =
    map-append (λ (a : List (List ℕ) × PortRef). a.1) (output_at o) (flat_map output_at os)
    ∙ ap (λ l. l ++ map (λ (a : List (List ℕ) × PortRef). a.1) (flat_map output_at os)) (output_values o)
    ∙ ap (λ l. ports_of o.1 ++ l) (outputs_values os)

pub targets_values : (site : List (List ℕ)) (r : RawRule) → map (λ (a : List (List ℕ) × PortRef). a.1) (targets_at (site, r)) ≡ names_in (rule_of r)
targets_values site r =
    map-append (λ (a : List (List ℕ) × PortRef). a.1) (mirror_at (site, r)) (flat_map output_at (outputs_at (site, r)))
    ∙ ap (λ l. l ++ map (λ (a : List (List ℕ) × PortRef). a.1) (flat_map output_at (outputs_at (site, r)))) (placed_values (under (actions_site site) (codes "mirror")) (to_list r.mirror))
    ∙ ap (λ l. to_list r.mirror ++ l) (outputs_values (outputs_at (site, r)) ∙ ap (flat_map ports_of) (values_of (under (actions_site site) (codes "output")) r.output))

-- a port that is found, and is no end of a stack link
pub right_target : (name : PortRef) (d : Dp) → to_list (wrong_target name d) ≡ [] → IsSomeAnd (port_named d name) (λ p. p.stack ≡ None)
right_target name d = by (port_named d name)
  where
    free : (o : Option StackEnd) → to_list (if is_some o then Some (Conflict 8) else None) ≡ [] → o ≡ None
    free None is = refl
    free (Some end) is = absurd (cc)

    by : (o : Option Port) → to_list (option_map_or (λ p. if is_some p.stack then Some (Conflict 8) else None) o (Some Unresolved)) ≡ [] → IsSomeAnd o (λ p. p.stack ≡ None)
    by None is = absurd (cc)
    by (Some p) is = free p.stack is

pub at_true : {A : Type 0} (b : Bool) (xs : List A) → b ≡ true → (if b then xs else []) ≡ [] → xs ≡ []
at_true true xs is none = none
at_true false xs is none = absurd (true≢false (sym is))

pub is_in_by : (names : List (List ℕ)) (name other : List ℕ) → IsIn names name → name ≡ other → is_in other names ≡ true
is_in_by names name other i same = any_by (λ n. is_same n other) names name i (same_itself name other same)

module _ (o : OrderedConf) where
  abbrev conf : Configuration
  conf = resolved o

  -- ---- the fields of rules

  pub asked : lacking_rules o ≡ [] → (a : RawAcl) → IsIn o.acls a → (r : RawRule) → IsIn a.rules r → (f : RawField) → IsIn r.fields f → has_prerequisite f.field.id (map (λ g. g.field) r.fields) ≡ true
  asked none a ca r cr f cf =
      let m = none_of_values lacking_fields (rules_at a) a.rules (values_at (codes "acls" ∷ a.name ∷ []) a.rules) (none_at lacking_of_acl o.acls none a ca) r cr in
      holds (has_prerequisite f.field.id (map (λ g. g.field) r.fields)) (Conflict 9) (m.0 ++ codes "rule" ∷ f.key ∷ [])
      (none_at (lacking_field m.0 (map (λ g. g.field) r.fields)) r.fields m.1 f cf)

  pub fields_asked : lacking_rules o ≡ [] → AllByRecursion (λ acl. AllByRecursion (λ rule. AllByRecursion (λ f. IsTrue (has_prerequisite f.id rule.fields)) rule.fields) acl.rules) conf.acls
  fields_asked none = all_mapped (λ (acl : Acl). AllByRecursion HasWhatItAsks acl.rules) acl_of o.acls (all_by _ o.acls (λ a ca.
      all_mapped HasWhatItAsks rule_of a.rules (all_by _ a.rules (λ r cr. asks r (λ f cf. asked none a ca r cr f cf)))))

  -- ---- names

  module _ (none : unknown_acls o conf ≡ []) where
    pub acls_of_ports : AllByRecursion (λ d. AllByRecursion (λ p. AclsExist conf p.acls) d.ports) conf.dps
    acls_of_ports = all_mapped (λ (d : Dp). AllByRecursion (λ p. AclsExist conf p.acls) d.ports) (dp_of o) o.dps (all_by _ o.dps (λ d cd.
        let of_dp = none_at (unknown_acls_of_dp conf) o.dps (none_right (flat_map (unknown_acls_of_vlan conf) o.vlans) _ none) d cd in
        all_mapped (λ (p : Port). AclsExist conf p.acls) (port_of o d) d.ports (all_by _ d.ports (λ p cp.
        acls_exist conf (port_site d p) p.acls (none_at (unknown_acls_of_port conf d) d.ports of_dp p cp)))))

    pub acls_of_vlans : AllByRecursion (λ v. AclsExist conf v.acls) conf.vlans
    acls_of_vlans = all_mapped (λ (v : Vlan). AclsExist conf v.acls) (λ (v : PlacedVlan). vlan_of v.vlan) o.vlans (all_by _ o.vlans (λ v cv.
        acls_exist conf v.site v.vlan.acls (none_at (unknown_acls_of_vlan conf) o.vlans (none_left (flat_map (unknown_acls_of_vlan conf) o.vlans) _ none) v cv)))

  -- ---- ports that are named

  module _ (none : wrong_acl_ports o conf ≡ []) where
    rule_names_ports : (d : Dp) → IsIn conf.dps d → (a : RawAcl) → IsIn o.acls a → is_attached conf d a.name ≡ true → (r : RawRule) → IsIn a.rules r → AllByRecursion (λ name. IsSomeAnd (port_named d name) (λ p. p.stack ≡ None)) (names_in (rule_of r))
    rule_names_ports d cd a ca attached r cr = all_by (λ name. IsSomeAnd (port_named d name) (λ p. p.stack ≡ None)) (names_in (rule_of r)) (λ name i.
        let of_acl = none_at (wrong_acl conf) o.acls none a ca in
        let m = none_of_values (wrong_rule conf a) (rules_at a) a.rules (values_at (codes "acls" ∷ a.name ∷ []) a.rules) of_acl r cr in
        let n = none_of_values (wrong_port conf a) (targets_at (m.0, r)) (names_in (rule_of r)) (targets_values m.0 r) (sym (targets_wrong conf a (m.0, r)) ∙ m.1) name i in
        let causes = no_first (wrong_targets conf a.name name) n.0 n.1 in
        right_target name d (at_true (is_attached conf d a.name) (to_list (wrong_target name d)) attached (none_at (wrong_on conf a.name name) conf.dps causes d cd)))

    names_ports : (d : Dp) → IsIn conf.dps d → (names : List (List ℕ)) → ((name : List ℕ) → IsIn names name → is_attached conf d name ≡ true) → NamePortsOf d (rules_of conf names)
    names_ports d cd names attached =
        all_flat (λ (rule : Rule). AllByRecursion (λ name. IsSomeAnd (port_named d name) (λ p. p.stack ≡ None)) (names_in rule)) (λ name. option_map_or (λ acl. acl.rules) (acl_named conf.acls name) []) names
        (all_by _ names (λ name i. by name (attached name i) (acl_named conf.acls name) refl))
      where
        by : (name : List ℕ) → is_attached conf d name ≡ true → (o : Option Acl) → acl_named conf.acls name ≡ o → AllByRecursion (λ (rule : Rule). AllByRecursion (λ name. IsSomeAnd (port_named d name) (λ p. p.stack ≡ None)) (names_in rule)) (option_map_or (λ acl. acl.rules) o [])
        by name here None is = tt
        by name here (Some acl) is =
            let f = found (λ (acl : Acl). is_same acl.name name) conf.acls acl is in
            let m = of_mapped acl_of o.acls acl f.0 in
            let same : name ≡ m.0.name = sym (ap (λ (acl : Acl). acl.name) m.2 ∙ same_texts acl.name name f.1) in
            subst (λ (acl : Acl). AllByRecursion (λ (rule : Rule). AllByRecursion (λ name. IsSomeAnd (port_named d name) (λ p. p.stack ≡ None)) (names_in rule)) acl.rules) m.2
            (all_mapped (λ (rule : Rule). AllByRecursion (λ name. IsSomeAnd (port_named d name) (λ p. p.stack ≡ None)) (names_in rule)) rule_of m.0.rules
            (all_by _ m.0.rules (λ r cr. rule_names_ports d cd m.0 m.1 (subst (λ (n : List ℕ). is_attached conf d n ≡ true) same here) r cr)))

    named_on_port : (d : Dp) → IsIn conf.dps d → (p : Port) → IsIn d.ports p → NamePortsOf d (rules_of conf p.acls)
    named_on_port d cd p cp = names_ports d cd p.acls (λ name i.
        or_left (list_any (λ (p : Port). is_in name p.acls) d.ports) _ (any_by (λ (p : Port). is_in name p.acls) d.ports p cp (is_in_by p.acls name name i refl)))

    named_on_vlan : (d : Dp) → IsIn conf.dps d → (v : Vlan) → IsIn conf.vlans v → has_edge_member d v.vid ≡ true → NamePortsOf d (rules_of conf v.acls)
    named_on_vlan d cd v cv member = names_ports d cd v.acls (λ name i.
        or_right (list_any (λ (p : Port). is_in name p.acls) d.ports) _ (any_by (λ (v : Vlan). is_in name v.acls && has_edge_member d v.vid) conf.vlans v cv (and_from (is_in name v.acls) (has_edge_member d v.vid) (is_in_by v.acls name name i refl) member)))

    pub ports_on : AllByRecursion (λ d. AllByRecursion (λ p. NamePortsOf d (rules_of conf p.acls)) d.ports) conf.dps
    ports_on = all_by (λ d. AllByRecursion (λ p. NamePortsOf d (rules_of conf p.acls)) d.ports) conf.dps (λ d cd. all_by _ d.ports (λ p cp. named_on_port d cd p cp))

    pub vlans_on : AllByRecursion (λ d. AllByRecursion (λ v. has_edge_member d v.vid ≡ true → NamePortsOf d (rules_of conf v.acls)) conf.vlans) conf.dps
    vlans_on = all_by (λ d. AllByRecursion (λ v. has_edge_member d v.vid ≡ true → NamePortsOf d (rules_of conf v.acls)) conf.vlans) conf.dps (λ d cd. all_by _ conf.vlans (λ v cv. named_on_vlan d cd v cv))

-- ---- of a raw configuration in range

module _ (raw : RawConf) (range : IsInRange raw) where
  module _ (whole : BreaksNone (ordered raw) (resolved (ordered raw))) where
    acls_in_range : AllByRecursion (λ (a : RawAcl). AllByRecursion RuleIsInRange a.rules) (acls_in_order raw)
    acls_in_range = all_ordered (λ (a : RawAcl). AllByRecursion RuleIsInRange a.rules) _ raw.acls range.acls

    rules_valid : AllByRecursion (λ acl. AllByRecursion IsRule acl.rules) (resolved (ordered raw)).acls
    rules_valid = all_mapped (λ (acl : Acl). AllByRecursion IsRule acl.rules) acl_of (acls_in_order raw) (all_by _ (acls_in_order raw) (λ a ca.
        all_mapped IsRule rule_of a.rules (all_by _ a.rules (λ r cr.
        rule_valid r (of_all RuleIsInRange a.rules (of_all (λ (a : RawAcl). AllByRecursion RuleIsInRange a.rules) (acls_in_order raw) acls_in_range a ca) r cr) (λ f cf. asked (ordered raw) whole.fields_stand a ca r cr f cf)))))

    acls_rise : EachBefore (λ (a b : RawAcl). IsTextBefore a.name b.name) (acls_in_order raw)
    acls_rise =
        before_both (λ (a b : RawAcl). is_text_before b.name a.name ≡ false) (λ a b. a.name ≡ b.name → ⊥) (λ a b. IsTextBefore a.name b.name) (acls_in_order raw)
        (sorted (λ (a b : RawAcl). is_text_before a.name b.name) (text_order (λ (a : RawAcl). a.name)) raw.acls)
        (each_ordered (λ (a b : RawAcl). a.name ≡ b.name → ⊥) (λ a b. is_text_before a.name b.name) raw.acls (λ a b other same. other (sym same)) range.acl_names)
        (λ a b not other. text_rises a.name b.name not (other_texts a.name b.name other))

    pub acls_valid : AclsAreValid (resolved (ordered raw))
    acls_valid = record {
      rules = rules_valid;
      in_order = before_mapped (λ (a b : Acl). IsTextBefore a.name b.name) acl_of (acls_in_order raw) acls_rise;
      of_ports = acls_of_ports (ordered raw) whole.acls_exist;
      of_vlans = acls_of_vlans (ordered raw) whole.acls_exist;
      ports_on = ports_on (ordered raw) whole.targets_exist;
      vlans_on = vlans_on (ordered raw) whole.targets_exist;
    }
