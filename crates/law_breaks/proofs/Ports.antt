-- Rules 8 to 11: what is found of ports that ACLs, mirrors and stack links name, and of the fields of rules.
use Rattle.std.specs.Prelude.{◌≡◌, ℕ, ◌==◌, ◌&&◌, ◌||◌, Bool, true, false, not, if◌then◌else◌, List, [], ◌∷◌, ◌++◌, map, codes, length, Option, Some, None, is_some, IsSomeAnd, unwrap_or}
use Rattle.std.specs.List.{flat_map, list_any}
use Rattle.std.specs.Option.{option_map_or}
use Rattle.std.proofs.Common.{◌⊎◌, inl, inr, refl, sym, ap, ◌∙◌, subst, true≢false, eqb-true}
use Rattle.std.proofs.lemmas.Bool.{or_cases, and_parts, not-true}
use Rattle.std.proofs.lemmas.Option.{none-some, same_Some}
use Rattle.net_base.specs.WellFormed.{has_prerequisite}
use Rattle.yaml_tree.specs.declared.tree.Tree.{Tree, out-Tree}
use Rattle.conf_types.specs.declared.acl.PortRef.{PortRef}
use Rattle.conf_types.specs.declared.datapath.Dp.{Dp}
use Rattle.conf_types.specs.declared.datapath.Port.{Port}
use Rattle.conf_types.specs.declared.datapath.StackEnd.{StackEnd}
use Rattle.conf_types.specs.declared.vlan.Vlan.{Vlan}
use Rattle.conf_types.specs.Attached.{port_named}
use Rattle.conf_types.specs.Configuration.{Configuration, port_with, port_at}
use Rattle.conf_types.specs.Lists.{is_same}
use Rattle.conf_types.specs.Membership.{is_edge, has_edge_member}
use Rattle.conf_types.specs.Valid.{IsStackPort, vlans_named}
use Rattle.conf_shape.specs.declared.raw.OneOrList.{OneOrList}
use Rattle.conf_shape.specs.declared.raw.OneOrList.TheVariants as several
use Rattle.conf_shape.specs.declared.raw.RawAcl.{RawAcl}
use Rattle.conf_shape.specs.declared.raw.RawConf.{RawConf}
use Rattle.conf_shape.specs.declared.raw.RawDp.{RawDp}
use Rattle.conf_shape.specs.declared.raw.RawField.{RawField}
use Rattle.conf_shape.specs.declared.raw.RawOutput.{RawOutput}
use Rattle.conf_shape.specs.declared.raw.RawPort.{RawPort}
use Rattle.conf_shape.specs.declared.raw.RawRule.{RawRule}
use Rattle.conf_shape.specs.declared.raw.RawStackEnd.{RawStackEnd}
use Rattle.conf_shape.specs.declared.refused.ConfCause.{ConfCause}
use Rattle.conf_shape.specs.declared.refused.ConfCause.TheVariants.{Unresolved, Conflict}
use Rattle.conf_resolve.specs.declared.ordered.OrderedConf.{OrderedConf}
use Rattle.conf_resolve.specs.InOrder.{port_site, ordered}
use Rattle.conf_resolve.specs.Resolved.{to_list, items_of, once, number_named, far_end, dp_of, port_of, resolved}
use Rattle.conf_rules.specs.Places.{fault_if, fault_if_some, first, under, each_at, items_at}
use Rattle.conf_rules.specs.Ports.{is_in, is_attached, wrong_target, wrong_on, wrong_targets, port_at_site, wrong_port, wrong_output, actions_site, mirror_at, outputs_at, wrong_rule, rules_at, wrong_acl, wrong_acl_ports, lacking_field, lacking_fields, lacking_of_acl, lacking_rules, is_mirrorable, mirrored_cause, wrong_mirrored, is_used, wrong_mirror, wrong_mirrors, is_end, points_back, is_free, is_right_end, stack_cause, wrong_stack, wrong_stacks}
use Rattle.law_checks.specs.Says.{Says, PortSays, StackEndSays, OutputSays, ActionsSay, RuleItemSays}
use Rattle.law_checks.specs.Values.{IsList, IsOneOrList, IsMap}
use Rattle.law_checks.proofs.Empty.{values_of}
use Rattle.law_checks.proofs.Kept.{is_value}
use Rattle.law_checks.proofs.KeptLinks.{at, free_end, its_end}
use Rattle.law_checks.proofs.Members.{IsIn, of_flat, some_of}
use Rattle.law_checks.proofs.Orders.{same_texts}
use Rattle.law_documents.specs.Forms.{IsScalar}
use Rattle.law_documents.proofs.Leads.{Reaches, onward, there, HasKey, given, in_list, in_key, in_option, in_several}
use Rattle.law_documents.proofs.Parts.{IsPart, dp_leads, acl_leads}
use Rattle.law_documents.proofs.Ports.{PortAt, actions_lead, field_leads}
use Rattle.law_breaks.specs.Found.{PathBreaks, PathsBreak, ToldAs}
use Rattle.law_breaks.specs.Ports.{IsAttached, IsNoTarget, NamesNoTarget, LacksPrerequisite, IsOfInterface, IsNoMirrorable, IsUsed, IsWrongMirror, IsNoFarEnd, IsWrongStack}
use Rattle.law_breaks.proofs.Found.{told_if, found_if, found_of, each, both, contains, item_of, IsBelow, below_below, itself, each_below, option_below, several_below, each_interface, some_is}

-- ---- what the tests say

either_fails : (a b : Bool) → (a && b) ≡ false → (a ≡ false) ⊎ (b ≡ false)
either_fails false b is = inl refl
either_fails true b is = inr is

first_in : {A : Type 0} (xs : List A) (x : A) → first xs ≡ Some x → IsIn xs x
first_in [] x is = absurd (none-some x is)
first_in (y ∷ ys) x is = inl (same_Some y x is)

not_nil : {A : Type 0} (xs : List A) → not (length xs == 0) ≡ true → xs ≡ [] → ⊥
not_nil xs is nil = true≢false (sym is ∙ ap (λ l. not (length l == 0)) nil)

named_in : (names : List (List ℕ)) (name : List ℕ) → is_in name names ≡ true → IsIn names name
named_in names name is = let s = some_of (λ other. is_same other name) names is in subst (IsIn names) (same_texts s.0 name s.2) s.1

-- ---- rule 8: the test

module _ (conf : Configuration) (d : Dp) where
  attached : (name : List ℕ) → is_attached conf d name ≡ true → IsAttached conf d name
  attached name is = by (or_cases (list_any (λ (p : Port). is_in name p.acls) d.ports) (list_any (λ (v : Vlan). is_in name v.acls && has_edge_member d v.vid) conf.vlans) is)
    where
      by : (list_any (λ (p : Port). is_in name p.acls) d.ports ≡ true) ⊎ (list_any (λ (v : Vlan). is_in name v.acls && has_edge_member d v.vid) conf.vlans ≡ true) → IsAttached conf d name
      by (inl any) = let s = some_of (λ (p : Port). is_in name p.acls) d.ports any in inl (s.0, contains d.ports s.0 s.1, contains s.0.acls name (named_in s.0.acls name s.2))
      by (inr any) =
          let s = some_of (λ (v : Vlan). is_in name v.acls && has_edge_member d v.vid) conf.vlans any in
          let p = and_parts (is_in name s.0.acls) (has_edge_member d s.0.vid) s.2 in
          inr (s.0, contains conf.vlans s.0 s.1, contains s.0.acls name (named_in s.0.acls name p.0), p.1)

  no_target : (ref : PortRef) (c : ConfCause) → wrong_target ref d ≡ Some c → IsNoTarget c d ref
  no_target ref c is = by (port_named d ref) refl is
    where
      of_port : (p : Port) → port_named d ref ≡ Some p → (b : Bool) → is_some p.stack ≡ b → (if b then Some (Conflict 8) else None) ≡ Some c → IsNoTarget c d ref
      of_port p here true end e = inr (sym (same_Some (Conflict 8) c e), (p, here, end))
      of_port p here false end e = absurd (none-some c e)

      by : (r : Option Port) → port_named d ref ≡ r → option_map_or (λ p. if is_some p.stack then Some (Conflict 8) else None) r (Some Unresolved) ≡ Some c → IsNoTarget c d ref
      by None here e = inl (sym (same_Some Unresolved c e), here)
      by (Some p) here e = of_port p here (is_some p.stack) refl e

  on_it : (name : List ℕ) (ref : PortRef) (c : ConfCause) → IsIn (wrong_on conf name ref d) c → IsAttached conf d name × IsNoTarget c d ref
  on_it name ref c i = by (is_attached conf d name) refl i
    where
      by : (b : Bool) → is_attached conf d name ≡ b → IsIn (if b then to_list (wrong_target ref d) else []) c → IsAttached conf d name × IsNoTarget c d ref
      by true is j = (attached name is, no_target ref c (some_is (wrong_target ref d) c j))
      by false is j = absurd j

-- ---- rules 10 and 11: the tests

no_mirrorable : (d : Dp) (p : Port) (number : ℕ) → is_mirrorable d p number ≡ false → IsNoMirrorable d p number
no_mirrorable d p number is = by (either_fails (not (number == p.no)) (option_map_or is_edge (port_with d.ports number) false) is)
  where
    own : (b : Bool) → (number == p.no) ≡ b → not b ≡ false → number ≡ p.no
    own true same e = eqb-true number p.no same
    own false same e = absurd (true≢false e)

    by : (not (number == p.no) ≡ false) ⊎ (option_map_or is_edge (port_with d.ports number) false ≡ false) → IsNoMirrorable d p number
    by (inl e) = inl (own (number == p.no) refl e)
    by (inr e) = inr e

used : (p : Port) → is_used p ≡ true → IsUsed p
used p is = by (or_cases (not (length (vlans_named p) == 0)) (not (length p.acls == 0) || is_some p.stack) is)
  where
    more : (not (length p.acls == 0) ≡ true) ⊎ (is_some p.stack ≡ true) → IsUsed p
    more (inl e) = inr (inl (not_nil p.acls e))
    more (inr e) = inr (inr e)

    by : (not (length (vlans_named p) == 0) ≡ true) ⊎ ((not (length p.acls == 0) || is_some p.stack) ≡ true) → IsUsed p
    by (inl e) = inl (not_nil (vlans_named p) e)
    by (inr e) = more (or_cases (not (length p.acls == 0)) (is_some p.stack) e)

module _ (conf : Configuration) (d : Dp) (p : Port) (far : StackEnd) where
  free : IsStackPort conf d p far → is_free p ≡ true
  free is = free_end p is.no_vlan is.no_acl is.no_mirror is.takes_packets is.no_hairpin is.no_permanent_learn

  not_back : points_back conf d p far ≡ false → IsNoFarEnd conf d p far
  not_back is = by (port_at conf far.dp far.port) refl is
    where
      by : (r : Option Port) → port_at conf far.dp far.port ≡ r → option_map_or (λ q. option_map_or (λ end. is_end end d p) q.stack false) r false ≡ false → IsNoFarEnd conf d p far
      by None here e = inr (inl here)
      by (Some q) here e = inr (inr (q, here, λ back. true≢false (sym (its_end d p q.stack back) ∙ e)))

  no_far_end : is_right_end conf d p far ≡ false → IsNoFarEnd conf d p far ⊎ (IsStackPort conf d p far → ⊥)
  no_far_end is = by (either_fails (not (far.dp.0 == d.id.0) && points_back conf d p far) (is_free p) is)
    where
      same : (b : Bool) → (far.dp.0 == d.id.0) ≡ b → not b ≡ false → far.dp.0 ≡ d.id.0
      same true is e = eqb-true far.dp.0 d.id.0 is
      same false is e = absurd (true≢false e)

      link : (not (far.dp.0 == d.id.0) ≡ false) ⊎ (points_back conf d p far ≡ false) → IsNoFarEnd conf d p far
      link (inl e) = inl (same (far.dp.0 == d.id.0) refl e)
      link (inr e) = not_back e

      by : ((not (far.dp.0 == d.id.0) && points_back conf d p far) ≡ false) ⊎ (is_free p ≡ false) → IsNoFarEnd conf d p far ⊎ (IsStackPort conf d p far → ⊥)
      by (inl e) = inl (link (either_fails (not (far.dp.0 == d.id.0)) (points_back conf d p far) e))
      by (inr e) = inr (λ f. true≢false (sym (free f) ∙ e))

-- ---- rules of ACLs

module _ (t : Tree) (raw : RawConf) (says : Says t raw) where
  abbrev o : OrderedConf
  o = ordered raw

  abbrev conf : Configuration
  conf = resolved o

  module _ (a : RawAcl) (c : IsIn (ordered raw).acls a) (r : List (List ℕ) × RawRule) (j : IsIn (rules_at a) r) where
    abbrev acl_site : List (List ℕ)
    acl_site = codes "acls" ∷ a.name ∷ []

    here : Reaches t r.0 (λ u. IsMap RuleItemSays u r.1)
    here = in_list t acl_site (IsMap RuleItemSays) a.rules (λ no. acl_leads t raw says a c) r j

    -- ---- rule 9

    lacking : PathsBreak t (ToldAs (Conflict 9) (LacksPrerequisite o)) (lacking_fields r)
    lacking = each t (ToldAs (Conflict 9) (LacksPrerequisite o)) (lacking_field r.0 (map (λ g. g.field) r.1.fields)) r.1.fields (λ f i.
        let site = r.0 ++ codes "rule" ∷ f.key ∷ [] in
        let has = has_prerequisite f.field.id (map (λ (g : RawField). g.field) r.1.fields) in
        told_if t (LacksPrerequisite o) (not has) (Conflict 9) site (λ is.
        there t site (λ v. IsScalar (out-Tree v)) (LacksPrerequisite o site) (field_leads t r here f i) (λ u scalar. record {
          acl = a;
          is_acl = contains o.acls a c;
          rule = r.1;
          site = r.0;
          item = item_of acl_site a.rules r j;
          field = f;
          is_field = contains r.1.fields f i;
          path = refl;
          lacks = not-true has is;
        })))

    -- ---- rule 8

    target : (item : List (List ℕ) × PortRef) → Reaches t item.0 (λ v. PortAt v item.1) → IsBelow acl_site item.0 → PathsBreak t (NamesNoTarget o conf) (wrong_port conf a item)
    target item at below = found_of t (NamesNoTarget o conf) (first (wrong_targets conf a.name item.1)) item.0 (λ cause is.
        let m = of_flat (wrong_on conf a.name item.1) conf.dps cause (first_in (wrong_targets conf a.name item.1) cause is) in
        let on = on_it conf m.0 a.name item.1 cause m.2 in
        there t item.0 (λ v. PortAt v item.1) (NamesNoTarget o conf cause item.0) at (λ u names. record {
          acl = a;
          is_acl = contains o.acls a c;
          below = below.0;
          path = below.1;
          ref = item.1;
          names = names;
          dp = m.0;
          is_dp = contains conf.dps m.0 m.1;
          attached = on.0;
          wrong = on.1;
        }))

    targets : (site : List (List ℕ)) → IsBelow acl_site site → (items : List (List (List ℕ) × PortRef)) → ((item : List (List ℕ) × PortRef) → IsIn items item → Reaches t item.0 (λ v. PortAt v item.1)) → ((item : List (List ℕ) × PortRef) → IsIn items item → IsBelow site item.0)
        → PathsBreak t (NamesNoTarget o conf) (flat_map (wrong_port conf a) items)
    targets site under_acl items at below = each t (NamesNoTarget o conf) (wrong_port conf a) items (λ item i. target item (at item i) (below_below acl_site site item.0 under_acl (below item i)))

    rule_below : IsBelow acl_site r.0
    rule_below = each_below acl_site a.rules r j

    key_below : (site : List (List ℕ)) (key : List ℕ) → IsBelow acl_site site → IsBelow acl_site (under site key)
    key_below site key below = below_below acl_site site (under site key) below (key ∷ [], refl)

    actions_below : IsBelow acl_site (actions_site r.0)
    actions_below = below_below acl_site r.0 (actions_site r.0) rule_below (codes "rule" ∷ codes "actions" ∷ [], refl)

    output : (item : List (List ℕ) × RawOutput) → Reaches t item.0 (λ u. IsMap OutputSays u item.1) → IsBelow acl_site item.0 → PathsBreak t (NamesNoTarget o conf) (wrong_output conf a item)
    output item at below =
        both t (NamesNoTarget o conf) (flat_map (wrong_port conf a) (port_at_site item.0 item.1.port)) (flat_map (wrong_port conf a) (each_at (under item.0 (codes "ports")) item.1.ports))
        (targets (under item.0 (codes "port")) (key_below item.0 (codes "port") below) (port_at_site item.0 item.1.port)
        (in_option t item.0 (codes "port") PortAt item.1.port (there t item.0 (λ u. IsMap OutputSays u item.1) (HasKey (codes "port") (item.1.port ≡ None) (λ v. IsSomeAnd item.1.port (PortAt v))) at (λ u m. (m.0, m.1, m.2.port))))
        (option_below (under item.0 (codes "port")) item.1.port))
        (targets (under item.0 (codes "ports")) (key_below item.0 (codes "ports") below) (each_at (under item.0 (codes "ports")) item.1.ports)
        (in_key t item.0 (codes "ports") PortAt item.1.ports (there t item.0 (λ u. IsMap OutputSays u item.1) (HasKey (codes "ports") (item.1.ports ≡ []) (λ v. IsList PortAt v item.1.ports)) at (λ u m. (m.0, m.1, m.2.ports))))
        (each_below (under item.0 (codes "ports")) item.1.ports))

    wrong : PathsBreak t (NamesNoTarget o conf) (wrong_rule conf a r)
    wrong =
        both t (NamesNoTarget o conf) (flat_map (wrong_port conf a) (mirror_at r)) (flat_map (wrong_output conf a) (outputs_at r))
        (targets (under (actions_site r.0) (codes "mirror")) (key_below (actions_site r.0) (codes "mirror") actions_below) (mirror_at r)
        (in_option t (actions_site r.0) (codes "mirror") PortAt r.1.mirror (there t (actions_site r.0) (λ v. IsMap ActionsSay v r.1) (HasKey (codes "mirror") (r.1.mirror ≡ None) (λ v. IsSomeAnd r.1.mirror (PortAt v))) (actions_lead t r here) (λ u m. (m.0, m.1, m.2.mirror))))
        (option_below (under (actions_site r.0) (codes "mirror")) r.1.mirror))
        (each t (NamesNoTarget o conf) (wrong_output conf a) (outputs_at r) (λ item i. output item
        (in_several t (actions_site r.0) (codes "output") (IsMap OutputSays) r.1.output (there t (actions_site r.0) (λ v. IsMap ActionsSay v r.1) (HasKey (codes "output") (r.1.output ≡ several.List []) (λ v. IsOneOrList (IsMap OutputSays) v r.1.output)) (actions_lead t r here) (λ u m. (m.0, m.1, m.2.output))) item i)
        (below_below acl_site (under (actions_site r.0) (codes "output")) item.0 (key_below (actions_site r.0) (codes "output") actions_below) (several_below (under (actions_site r.0) (codes "output")) r.1.output item i))))

  pub rule8 : PathsBreak t (NamesNoTarget (ordered raw) (resolved (ordered raw))) (wrong_acl_ports (ordered raw) (resolved (ordered raw)))
  rule8 = each t (NamesNoTarget o conf) (wrong_acl conf) o.acls (λ a c. each t (NamesNoTarget o conf) (wrong_rule conf a) (rules_at a) (wrong a c))

  pub rule9 : PathsBreak t (ToldAs (Conflict 9) (LacksPrerequisite (ordered raw))) (lacking_rules (ordered raw))
  rule9 = each t (ToldAs (Conflict 9) (LacksPrerequisite o)) lacking_of_acl o.acls (λ a c. each t (ToldAs (Conflict 9) (LacksPrerequisite o)) lacking_fields (rules_at a) (lacking a c))

  -- ---- rules 10 and 11

  module _ (d : RawDp) (c : IsIn (ordered raw).dps d) (p : RawPort) (j : IsIn d.ports p) where
    abbrev port : Port
    port = port_of o d p

    part : Reaches t (port_site d p) (IsPart PortSays p)
    part = (dp_leads t raw says d c).port p j

    abbrev of_interface : (key : List ℕ) (steps : List (List ℕ)) → IsBelow (under (port_site d p) key) steps → IsOfInterface o key steps
    of_interface key steps below = record { dp = d; is_dp = contains o.dps d c; port = p; is_port = contains d.ports p j; below = below.0; path = below.1 }

    -- ---- rule 10

    abbrev mirrors_at : List (List ℕ)
    mirrors_at = under (port_site d p) (codes "mirror")

    mirror : Reaches t (port_site d p) (HasKey (codes "mirror") (p.mirror ≡ several.List []) (λ v. IsOneOrList PortAt v p.mirror))
    mirror = there t (port_site d p) (IsPart PortSays p) (HasKey (codes "mirror") (p.mirror ≡ several.List []) (λ v. IsOneOrList PortAt v p.mirror)) part (λ u h. (h.1.0, h.1.1, h.1.2.mirror))

    abbrev Wrong : ConfCause → PortRef → Type 0
    Wrong cause ref = ((cause ≡ Unresolved) × (number_named d ref ≡ None))
        ⊎ ((cause ≡ Conflict 10) × ((number : ℕ) × (number_named d ref ≡ Some number) × IsNoMirrorable (dp_of (ordered raw) d) (port_of (ordered raw) d p) number))

    wrong_mirrored_is : (ref : PortRef) (cause : ConfCause) → mirrored_cause d (dp_of (ordered raw) d) (port_of (ordered raw) d p) ref ≡ Some cause → Wrong cause ref
    wrong_mirrored_is ref cause is = by (number_named d ref) refl is
      where
        of_number : (n : ℕ) → number_named d ref ≡ Some n → (b : Bool) → is_mirrorable (dp_of (ordered raw) d) (port_of (ordered raw) d p) n ≡ b → (if b then None else Some (Conflict 10)) ≡ Some cause → Wrong cause ref
        of_number n stands true may e = absurd (none-some cause e)
        of_number n stands false may e = inr (sym (same_Some (Conflict 10) cause e), (n, stands, no_mirrorable (dp_of o d) port n may))

        by : (r : Option ℕ) → number_named d ref ≡ r → option_map_or (λ number. if is_mirrorable (dp_of (ordered raw) d) (port_of (ordered raw) d p) number then None else Some (Conflict 10)) r (Some Unresolved) ≡ Some cause → Wrong cause ref
        by None stands e = inl (sym (same_Some Unresolved cause e), stands)
        by (Some n) stands e = of_number n stands (is_mirrorable (dp_of o d) port n) refl e

    mirrored : (item : List (List ℕ) × PortRef) → IsIn (items_at (under (port_site d p) (codes "mirror")) p.mirror) item → PathsBreak t (IsWrongMirror o) (wrong_mirrored (at o d p) item)
    mirrored item i = found_of t (IsWrongMirror o) (mirrored_cause d (dp_of o d) port item.1) item.0 (λ cause is.
        there t item.0 (λ v. PortAt v item.1) (IsWrongMirror o cause item.0) (in_several t (port_site d p) (codes "mirror") PortAt p.mirror mirror item i) (λ u names. inl (record {
          at = of_interface (codes "mirror") item.0 (several_below mirrors_at p.mirror item i);
          ref = item.1;
          is_item = contains (items_of p.mirror) item.1 (is_value (items_at mirrors_at p.mirror) (items_of p.mirror) (values_of mirrors_at p.mirror) item i);
          names = names;
          wrong = wrong_mirrored_is item.1 cause is;
        })))

    -- what mirrors nothing is no mirror
    mirrors_some : not (length (port_of (ordered raw) d p).mirror == 0) ≡ true → p.mirror ≡ several.List [] → ⊥
    mirrors_some is none = true≢false (sym is ∙ ap (λ (m : OneOrList PortRef). not (length (once (map (λ name. unwrap_or (number_named d name) p.no) (items_of m))) == 0)) none)

    mirrors : PathsBreak t (IsWrongMirror o) (wrong_mirror (at o d p))
    mirrors =
        both t (IsWrongMirror o) (flat_map (wrong_mirrored (at o d p)) (items_at mirrors_at p.mirror)) (fault_if (not (length port.mirror == 0) && is_used port) (Conflict 10) mirrors_at)
        (each t (IsWrongMirror o) (wrong_mirrored (at o d p)) (items_at mirrors_at p.mirror) mirrored)
        (found_if t (IsWrongMirror o) (not (length port.mirror == 0) && is_used port) (Conflict 10) mirrors_at (λ is.
        let q = and_parts (not (length port.mirror == 0)) (is_used port) is in
        onward t (port_site d p) (HasKey (codes "mirror") (p.mirror ≡ several.List []) (λ v. IsOneOrList PortAt v p.mirror)) (codes "mirror" ∷ []) (IsWrongMirror o (Conflict 10) mirrors_at) mirror (λ u h.
        there u (codes "mirror" ∷ []) (λ v. IsOneOrList PortAt v p.mirror) (IsWrongMirror o (Conflict 10) mirrors_at) (given u (codes "mirror") (λ v. IsOneOrList PortAt v p.mirror) (p.mirror ≡ several.List []) h (mirrors_some q.0)) (λ v m. inr (
          refl,
          record {
            at = of_interface (codes "mirror") mirrors_at (itself mirrors_at);
            mirrors = not_nil port.mirror q.0;
            used = used port q.1;
          },
        )))))

    -- ---- rule 11

    abbrev stack_at : List (List ℕ)
    stack_at = under (port_site d p) (codes "stack")

    abbrev NoEnd : ConfCause → RawStackEnd → Type 0
    NoEnd cause end = ((cause ≡ Unresolved) × (far_end (ordered raw).dps end ≡ None))
        ⊎ ((cause ≡ Conflict 11) × ((far : StackEnd) × (far_end (ordered raw).dps end ≡ Some far) × (IsNoFarEnd (resolved (ordered raw)) (dp_of (ordered raw) d) (port_of (ordered raw) d p) far ⊎ (IsStackPort (resolved (ordered raw)) (dp_of (ordered raw) d) (port_of (ordered raw) d p) far → ⊥))))

    wrong_end_is : (end : RawStackEnd) (cause : ConfCause) → stack_cause (ordered raw) (resolved (ordered raw)) (dp_of (ordered raw) d) (port_of (ordered raw) d p) end ≡ Some cause → NoEnd cause end
    wrong_end_is end cause is = by (far_end (ordered raw).dps end) refl is
      where
        of_far : (far : StackEnd) → far_end (ordered raw).dps end ≡ Some far → (b : Bool) → is_right_end (resolved (ordered raw)) (dp_of (ordered raw) d) (port_of (ordered raw) d p) far ≡ b → (if b then None else Some (Conflict 11)) ≡ Some cause → NoEnd cause end
        of_far far stands true right e = absurd (none-some cause e)
        of_far far stands false right e = inr (sym (same_Some (Conflict 11) cause e), (far, stands, no_far_end conf (dp_of o d) port far right))

        by : (r : Option StackEnd) → far_end (ordered raw).dps end ≡ r → option_map_or (λ far. if is_right_end (resolved (ordered raw)) (dp_of (ordered raw) d) (port_of (ordered raw) d p) far then None else Some (Conflict 11)) r (Some Unresolved) ≡ Some cause → NoEnd cause end
        by None stands e = inl (sym (same_Some Unresolved cause e), stands)
        by (Some far) stands e = of_far far stands (is_right_end conf (dp_of o d) port far) refl e

    stack : (end : RawStackEnd) → p.stack ≡ Some end → Reaches t (under (port_site d p) (codes "stack")) (λ v. IsMap StackEndSays v end)
    stack end is = onward t (port_site d p) (IsPart PortSays p) (codes "stack" ∷ []) (λ v. IsMap StackEndSays v end) part (λ u h.
        there u (codes "stack" ∷ []) (λ v. IsSomeAnd p.stack (IsMap StackEndSays v)) (λ v. IsMap StackEndSays v end)
        (given u (codes "stack") (λ v. IsSomeAnd p.stack (IsMap StackEndSays v)) (p.stack ≡ None) (h.1.0, h.1.1, h.1.2.stack) (λ none. none-some end (sym none ∙ is)))
        (λ v m. subst (λ (r : Option RawStackEnd). IsSomeAnd r (IsMap StackEndSays v)) is m))

    stacks : PathsBreak t (IsWrongStack o conf) (wrong_stack o conf (at o d p))
    stacks = each t (IsWrongStack o conf) (λ end. fault_if_some (stack_cause o conf (dp_of o d) port end) stack_at) (to_list p.stack) (λ end i.
        let is = some_is p.stack end i in
        found_of t (IsWrongStack o conf) (stack_cause o conf (dp_of o d) port end) stack_at (λ cause wrong.
        there t stack_at (λ v. IsMap StackEndSays v end) (IsWrongStack o conf cause stack_at) (stack end is) (λ u says. record {
          at = of_interface (codes "stack") stack_at (itself stack_at);
          end = end;
          stack = is;
          says = says;
          wrong = wrong_end_is end cause wrong;
        })))

  pub rule10 : PathsBreak t (IsWrongMirror (ordered raw)) (wrong_mirrors (ordered raw) (resolved (ordered raw)))
  rule10 = each_interface (PathBreaks t (IsWrongMirror o)) o wrong_mirror mirrors

  pub rule11 : PathsBreak t (IsWrongStack (ordered raw) (resolved (ordered raw))) (wrong_stacks (ordered raw) (resolved (ordered raw)))
  rule11 = each_interface (PathBreaks t (IsWrongStack o conf)) o (wrong_stack o conf) stacks
