-- The entries of ACLs are short: a rule sends by each interface of its datapath at most once.
use Rattle.std.specs.Prelude.{◌≡◌, ℕ, ◌+◌, ◌≤◌, nat_lt, Bool, true, false, cond, List, [], ◌∷◌, length, map, filter, Option, Some, None, Contains, if◌then◌else◌}
use Rattle.std.specs.List.{AllByRecursion, list_any, filter_map}
use Rattle.std.specs.Option.{option_map_or, option_and_then}
use Rattle.std.proofs.Common.{refl, subst, arith}
use Rattle.std.proofs.lemmas.List.{length-append, length-map}
use Rattle.std.proofs.lemmas.Bool.{ltb-true}
use Rattle.std.proofs.lemmas.Option.{same_Some, none-some}
use Rattle.net_base.specs.declared.field.Field.{Field}
use Rattle.net_base.specs.declared.field.FieldId.TheVariants.{VlanVid}
use Rattle.net_base.specs.FieldId.{number_of}
use Rattle.conf_types.specs.declared.acl.Acl.{Acl}
use Rattle.conf_types.specs.declared.acl.PortRef.{PortRef}
use Rattle.conf_types.specs.declared.acl.Rule.{Rule}
use Rattle.conf_types.specs.declared.datapath.Dp.{Dp}
use Rattle.conf_types.specs.declared.datapath.Port.{Port}
use Rattle.conf_types.specs.declared.vlan.Vlan.{Vlan}
use Rattle.conf_types.specs.Attached.{rules_of, acl_named, port_named, names_in, is_named}
use Rattle.conf_types.specs.Configuration.{Configuration}
use Rattle.conf_types.specs.Lists.{is_same}
use Rattle.conf_types.specs.Valid.{IsValid, IsRule}
use Rattle.plan_base.specs.declared.table.Table.TheVariants.{PortAcl, Admission}
use Rattle.plan_base.specs.Actions.{out}
use Rattle.plan_base.specs.Fields.{in_port, vid_field}
use Rattle.plan_base.proofs.Each.{all_filter_map}
use Rattle.acl_compile.specs.declared.place.Place.{Place}
use Rattle.acl_compile.specs.declared.place.Place.TheVariants.{AtPort, AtVlan}
use Rattle.acl_compile.specs.Places.{table_at, next_at, field_at}
use Rattle.acl_compile.specs.Rows.{rule_entry_for, rule_fields, with_vid, asks_for_another}
use Rattle.acl_compile.specs.Slices.{port_acl, vlan_acl}
use Rattle.acl_compile.specs.Targets.{target, targets, may_go}
use Rattle.law_runs.specs.Members.{all_flat, all_by, of_all, in_mapped}
use Rattle.plan_units.specs.Facts.{found}
use Rattle.plan_units.specs.Parts.{OfRules, port_acl_by, vlan_acl_by}
use Rattle.law_entries.specs.Short.{IsShort}
use Rattle.law_entries.proofs.ShortCounts.{once_fewer}
use Rattle.law_entries.proofs.ShortFields.{few_fields}
use Rattle.law_entries.proofs.ShortParts.{short, ends}

-- ---- fields

-- the fields below a number and those above it are no more than all of them
apart_fewer : (n : ℕ) (fields : List Field) → length (filter (λ f. nat_lt (number_of f.id) n) fields) + length (filter (λ f. nat_lt n (number_of f.id)) fields) ≤ length fields
apart_fewer n [] = omega arith
apart_fewer n (f ∷ more) = by (nat_lt (number_of f.id) n) (nat_lt n (number_of f.id)) refl refl (apart_fewer n more)
  where
    below : List Field
    below = filter (λ f. nat_lt (number_of f.id) n) more

    above : List Field
    above = filter (λ f. nat_lt n (number_of f.id)) more

    by : (a b : Bool) → nat_lt (number_of f.id) n ≡ a → nat_lt n (number_of f.id) ≡ b → length below + length above ≤ length more → length (cond a (f ∷ below) below) + length (cond b (f ∷ above) above) ≤ length (f ∷ more)
    by true true ea eb few = let x = ltb-true (number_of f.id) n ea in let y = ltb-true n (number_of f.id) eb in absurd (omega (arith, x, y))
    by true false ea eb few = omega (arith, few)
    by false true ea eb few = omega (arith, few)
    by false false ea eb few = omega (arith, few)

with_vid_few : (vid : ℕ) (fields : List Field) → length fields ≤ 32 → length (with_vid vid fields) ≤ 64
with_vid_few vid fields few =
    let before : Field → Bool = λ f. nat_lt (number_of f.id) (number_of VlanVid) in
    let behind : Field → Bool = λ f. nat_lt (number_of VlanVid) (number_of f.id) in
    let both = length-append (filter before fields) (vid_field vid ∷ filter behind fields) in
    let apart = apart_fewer (number_of VlanVid) fields in
    omega (arith, both, apart, few)

rule_fields_few : (at : Place) (fields : List Field) → length fields ≤ 32 → (made : List Field) → rule_fields at fields ≡ Some made → length made ≤ 64
rule_fields_few (AtPort number) fields few made is =
    subst (λ l. length l ≤ 64) (same_Some (in_port number ∷ fields) made is) (omega (arith, few))
rule_fields_few (AtVlan vid) fields few made is = one (list_any (asks_for_another vid) fields) is
  where
    one : (b : Bool) → cond b None (Some (with_vid vid fields)) ≡ Some made → length made ≤ 64
    one true e = absurd (none-some made e)
    one false e = subst (λ l. length l ≤ 64) (same_Some (with_vid vid fields) made e) (with_vid_few vid fields few)

-- ---- actions

abbrev numbers : Dp → List ℕ
numbers d = map (λ (q : Port). q.no) d.ports

module _ (d : Dp) (ports : length d.ports ≤ 256) (at : Place) where
  of_port : (q : Port) → Contains d.ports q → (b : Bool) (n : ℕ) → cond b (Some q.no) None ≡ Some n → Contains (numbers d) n
  of_port q c true n e = subst (λ m. Contains (numbers d) m) (same_Some q.no n e) (in_mapped (λ (p : Port). p.no) d.ports q c)
  of_port q c false n e = absurd (none-some n e)

  of_named : (o : Option Port) → ((q : Port) → o ≡ Some q → Contains d.ports q) → (n : ℕ) → option_and_then (λ q. if may_go at q then Some q.no else None) o ≡ Some n → Contains (numbers d) n
  of_named None h n e = absurd (none-some n e)
  of_named (Some q) h n e = of_port q (h q refl) (may_go at q) n e

  is_target : (name : PortRef) (n : ℕ) → target at d name ≡ Some n → Contains (numbers d) n
  is_target name n e = of_named (port_named d name) (λ q is. (found (is_named name) d.ports q is).within) n e

  targets_few : (rule : Rule) → length (map out (targets at d rule)) ≤ 2000
  targets_few rule =
      let named = filter_map (target at d) (names_in rule) in
      let all = all_filter_map (target at d) (λ n. Contains (numbers d) n) (names_in rule)
      (all_by (λ name. (n : ℕ) → target at d name ≡ Some n → Contains (numbers d) n) (names_in rule) (λ name c. is_target name)) in
      let few = once_fewer (numbers d) named all in
      let mapped = length-map (targets at d rule) out in
      let whole = length-map d.ports (λ (q : Port). q.no) in
      omega (arith, few, mapped, whole, ports)

  -- ---- entries

  rule_short : (priority : ℕ) (rule : Rule) (fields : List Field) → IsRule rule → rule_fields at rule.fields ≡ Some fields → IsShort (rule_entry_for at d priority rule fields)
  rule_short priority rule fields formed is =
      short (table_at at) priority fields (map out (targets at d rule)) (if rule.allow then Some (next_at at) else None)
      (rule_fields_few at rule.fields (few_fields rule.fields formed.fields.ascending) fields is) (targets_few rule)

  are_rules : (conf : Configuration) → IsValid conf → (acls : List (List ℕ)) → AllByRecursion IsRule (rules_of conf acls)
  are_rules conf valid acls =
      all_flat IsRule (λ name. option_map_or (λ acl. acl.rules) (acl_named conf.acls name) []) acls
      (all_by (λ name. AllByRecursion IsRule (option_map_or (λ acl. acl.rules) (acl_named conf.acls name) [])) acls (λ name c. of name (acl_named conf.acls name) refl))
    where
      of : (name : List ℕ) (o : Option Acl) → acl_named conf.acls name ≡ o → AllByRecursion IsRule (option_map_or (λ acl. acl.rules) o [])
      of name None is = tt
      of name (Some acl) is = of_all (λ (x : Acl). AllByRecursion IsRule x.rules) conf.acls valid.acls.rules acl (found (λ x. is_same x.name name) conf.acls acl is).within

  rules_short : (conf : Configuration) → IsValid conf → (acls : List (List ℕ)) → OfRules IsShort at d (rules_of conf acls)
  rules_short conf valid acls = λ priority rule fields c is. rule_short priority rule fields (of_all IsRule (rules_of conf acls) (are_rules conf valid acls) rule c) is

module _ (conf : Configuration) (valid : IsValid conf) (d : Dp) (ports : length d.ports ≤ 256) where
  pub port_acl_short : (i : Port) → AllByRecursion IsShort (port_acl conf d i)
  port_acl_short i =
      port_acl_by IsShort conf d i (rules_short d ports (AtPort i.no) conf valid i.acls) (ends PortAcl 1 (field_at (AtPort i.no) ∷ []) (omega arith))
      (short PortAcl 1 (in_port i.no ∷ []) [] (Some Admission) (omega arith) (omega arith))

  pub vlan_acl_short : (v : Vlan) → AllByRecursion IsShort (vlan_acl conf d v)
  vlan_acl_short v = vlan_acl_by IsShort conf d v (rules_short d ports (AtVlan v.vid) conf valid v.acls) (ends (table_at (AtVlan v.vid)) 1 (field_at (AtVlan v.vid) ∷ []) (omega arith))
