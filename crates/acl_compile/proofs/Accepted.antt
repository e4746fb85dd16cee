-- The entries of ACLs are entries that a switch accepts, and of two rules the first has the higher
-- priority.
use Rattle.std.proofs.Common.{◌≡◌, ℕ, suc, ◌+◌, ◌-◌, ◌^◌, ◌<◌, ◌≤◌, ◌==◌, ◌&&◌, ◌||◌, not, Bool, true, false, cond, if◌then◌else◌, Option, Some, None, List, [], ◌∷◌, ◌++◌, length, map, filter, find, refl, sym, ap, ◌∙◌, arith, lit<, subst}
use Rattle.std.specs.Prelude.{Contains}
use Rattle.std.specs.List.{AllByRecursion, list_any, filter_map, cons_option, flat_map, enumerate_from}
use Rattle.std.specs.Option.{option_map, option_map_or, option_and_then}
use Rattle.std.proofs.lemmas.Bool.{and_parts}
use Rattle.std.proofs.lemmas.Option.{none-some, same_Some}
use Rattle.net_base.specs.declared.field.Field.{Field}
use Rattle.net_base.specs.Numbers.{IsVid, IsPortNo}
use Rattle.of_match.specs.declared.action.Action.{Action}
use Rattle.of_match.specs.declared.entry.Entry.{Entry}
use Rattle.of_match.specs.WellFormed.{IsAction, AreInstrs}
use Rattle.conf_types.specs.declared.acl.Acl.{Acl}
use Rattle.conf_types.specs.declared.acl.PortRef.{PortRef}
use Rattle.conf_types.specs.declared.acl.Rule.{Rule}
use Rattle.conf_types.specs.declared.datapath.Dp.{Dp}
use Rattle.conf_types.specs.declared.datapath.Port.{Port}
use Rattle.conf_types.specs.declared.vlan.Vlan.{Vlan}
use Rattle.conf_types.specs.Attached.{acl_named, rules_of, is_named, port_named, names_in}
use Rattle.conf_types.specs.Configuration.{Configuration}
use Rattle.conf_types.specs.Lists.{EachBefore, is_same}
use Rattle.conf_types.specs.Membership.{is_accepting, is_stack, has_edge_member}
use Rattle.conf_types.specs.Valid.{IsValid, IsRule, IsPort, IsDatapath, IsVlan, attached}
use Rattle.conf_types.proofs.Found.{all_found}
use Rattle.plan_base.specs.Accepted.{IsFlowEntry, HaveDistinctKeys}
use Rattle.plan_base.specs.declared.table.Table.TheVariants.{PortAcl, VlanAcl}
use Rattle.plan_base.specs.Actions.{out}
use Rattle.plan_base.proofs.Each.{all_from, all_append, all_map, all_filter, all_filter_map, all_flat_map, all_of_append, all_of_map, all_of_filter, all_contains, before_from}
use Rattle.plan_base.proofs.Accepted.{is_out, are_instrs, made_of}
use Rattle.plan_base.proofs.MatchFields.{is_in_port, is_vid_field, AreFields, are_fields}
use Rattle.acl_compile.specs.declared.place.Place.{Place}
use Rattle.acl_compile.specs.declared.place.Place.TheVariants.{AtPort, AtVlan}
use Rattle.acl_compile.specs.Places.{table_at, next_at}
use Rattle.acl_compile.specs.Targets.{may_go, target, once, targets}
use Rattle.acl_compile.specs.Rows.{rule_priority, rule_instrs, asks_for_another, with_vid, rule_fields, rule_entry_for, rule_entry, denial}
use Rattle.acl_compile.specs.Slices.{rule_entries, acl_entries, port_entry, has_acls, port_acl, vlan_acl}
use Rattle.acl_compile.proofs.Matches.{are_match_fields, with_port, among_fields}

-- ---- the place

-- the number of the port, or of the VLAN, is one
abbrev pub IsPlace : Place → Type 0
IsPlace (AtPort number) = IsPortNo number
IsPlace (AtVlan vid) = IsVid vid

-- ---- the ports that a rule sends to

all_once : (P : ℕ → Type 0) (ns : List ℕ) → AllByRecursion P ns → AllByRecursion P (once ns)
all_once P [] all = tt
all_once P (n ∷ more) all = (all.0, all_filter P (λ m. not (m == n)) (once more) (all_once P more all.1))

module _ (conf : Configuration) (d : Dp) (valid : IsDatapath conf d) (at : Place) where
  numbers : AllByRecursion (λ (p : Port). IsPortNo p.no) d.ports
  numbers = all_from {P = λ (p : Port). IsPort conf p} {Q = λ (p : Port). IsPortNo p.no} (λ p is. is.number) d.ports valid.ports

  of_port : (q : Port) → IsPortNo q.no → (n : ℕ) (b : Bool) → cond b (Some q.no) None ≡ Some n → IsPortNo n
  of_port q is n true e = let same : q.no ≡ n = same_Some q.no n e in let P : ℕ → Type 0 = λ m. IsPortNo m in subst P same is
  of_port q is n false e = absurd (none-some n e)

  of_named : (o : Option Port) → ((q : Port) → o ≡ Some q → IsPortNo q.no) → (n : ℕ) → option_and_then (λ q. if may_go at q then Some q.no else None) o ≡ Some n → IsPortNo n
  of_named None h n e = absurd (none-some n e)
  of_named (Some q) h n e = of_port q (h q refl) n (may_go at q) e

  is_target : (name : PortRef) (n : ℕ) → target at d name ≡ Some n → IsPortNo n
  is_target name n e = of_named (port_named d name) (λ q found. all_found (λ (p : Port). IsPortNo p.no) (is_named name) d.ports q numbers found) n e

  every_target : (names : List PortRef) → AllByRecursion (λ name. (n : ℕ) → target at d name ≡ Some n → IsPortNo n) names
  every_target [] = tt
  every_target (name ∷ names) = ((λ n e. is_target name n e), every_target names)

  are_targets : (rule : Rule) → AllByRecursion IsPortNo (targets at d rule)
  are_targets rule = all_once IsPortNo _ (all_filter_map (target at d) IsPortNo (names_in rule) (every_target (names_in rule)))

  are_rule_instrs : (rule : Rule) → AreInstrs (rule_instrs at d rule)
  are_rule_instrs rule =
      are_instrs (map out (targets at d rule)) (if rule.allow then Some (next_at at) else None)
      (all_map out IsAction (targets at d rule) (all_from {P = IsPortNo} {Q = λ n. IsAction (out n)} (λ n is. is_out n is) (targets at d rule) (are_targets rule)))

  -- ---- the entries of the rules

  formed : (at : Place) → IsPlace at → (rule : Rule) → IsRule rule → (fields : List Field) → rule_fields at rule.fields ≡ Some fields → AreFields fields
  formed (AtPort number) place rule is fields e =
      let P : List Field → Type 0 = λ l. AreFields l in subst P (same_Some _ fields e) (with_port number rule place is)
  formed (AtVlan vid) place rule is fields e = one (list_any (asks_for_another vid) rule.fields) e
    where
      one : (b : Bool) → cond b None (Some (with_vid vid rule.fields)) ≡ Some fields → AreFields fields
      one true e = absurd (none-some fields e)
      one false e = let P : List Field → Type 0 = λ l. AreFields l in subst P (same_Some _ fields e) (among_fields vid rule.fields place is.fields (are_match_fields rule is))

  is_rule_entry : IsPlace at → (priority : ℕ) → priority < 2 ^ 16 → (rule : Rule) → IsRule rule → (e : Entry) → rule_entry at d priority rule ≡ Some e → IsFlowEntry e
  is_rule_entry place priority fits rule is e found = of_fields (rule_fields at rule.fields) (λ fields same. formed at place rule is fields same) found
    where
      of_fields : (o : Option (List Field)) → ((fields : List Field) → o ≡ Some fields → AreFields fields) → option_map (rule_entry_for at d priority rule) o ≡ Some e → IsFlowEntry e
      of_fields None h same = absurd (none-some e same)
      of_fields (Some fields) h same =
          let P : Entry → Type 0 = λ x. IsFlowEntry x in
          subst P (same_Some (rule_entry_for at d priority rule fields) e same)
          (made_of (table_at at) priority fields (rule_instrs at d rule) fits (h fields refl) (are_rule_instrs rule))

-- ---- the rules of named ACLs

of_acl : (o : Option Acl) → ((acl : Acl) → o ≡ Some acl → AllByRecursion IsRule acl.rules) → AllByRecursion IsRule (option_map_or (λ acl. acl.rules) o [])
of_acl None h = tt
of_acl (Some acl) h = h acl refl

are_rules : (conf : Configuration) → IsValid conf → (names : List (List ℕ)) → AllByRecursion IsRule (rules_of conf names)
are_rules conf valid names = all_flat_map (λ name. option_map_or (λ acl. acl.rules) (acl_named conf.acls name) []) IsRule names (every names)
  where
    every : (names : List (List ℕ)) → AllByRecursion (λ name. AllByRecursion IsRule (option_map_or (λ acl. acl.rules) (acl_named conf.acls name) [])) names
    every [] = tt
    every (name ∷ more) =
        (of_acl (acl_named conf.acls name) (λ acl found. all_found (λ (a : Acl). AllByRecursion IsRule a.rules) (λ a. is_same a.name name) conf.acls acl valid.acls.rules found), every more)

all_enumerated : {A : Type 0} (P : A → Type 0) (n : ℕ) (xs : List A) → AllByRecursion P xs → AllByRecursion (λ x. P x.1) (enumerate_from n xs)
all_enumerated P n [] all = tt
all_enumerated P n (x ∷ xs) all = (all.0, all_enumerated P (n + 1) xs all.1)

is_denial : (at : Place) → IsPlace at → IsFlowEntry (denial at)
is_denial (AtPort number) place = made_of PortAcl 1 _ _ (lit< tt) (are_fields _ (tt, tt) (is_in_port number place, tt) (refl, tt)) tt
is_denial (AtVlan vid) place = made_of VlanAcl 1 _ _ (lit< tt) (are_fields _ (tt, tt) (is_vid_field vid place, tt) (refl, tt)) tt

is_port_entry : (number : ℕ) → IsPortNo number → IsFlowEntry (port_entry number)
is_port_entry number place = made_of PortAcl 1 _ _ (lit< tt) (are_fields _ (tt, tt) (is_in_port number place, tt) (refl, tt)) (lit< tt)

are_acl_entries : (conf : Configuration) → IsValid conf → (d : Dp) → IsDatapath conf d → (at : Place) → IsPlace at → (acls : List (List ℕ)) → AllByRecursion IsFlowEntry (acl_entries at conf d acls)
are_acl_entries conf valid d datapath at place acls =
    let rules = rules_of conf acls in
    all_append IsFlowEntry (rule_entries at d rules) (denial at ∷ [])
    (all_filter_map (λ (numbered : ℕ × Rule). rule_entry at d (rule_priority numbered.0) numbered.1) IsFlowEntry (enumerate_from 0 rules)
    (all_from {P = λ (x : ℕ × Rule). IsRule x.1} {Q = λ (x : ℕ × Rule). (e : Entry) → rule_entry at d (rule_priority x.0) x.1 ≡ Some e → IsFlowEntry e}
    (λ x is e found. is_rule_entry conf d datapath at place (rule_priority x.0) (small x.0) x.1 is e found) (enumerate_from 0 rules) (all_enumerated IsRule 0 rules (are_rules conf valid acls))))
    (is_denial at place, tt)
  where
    small : (r : ℕ) → 10000 - r < 2 ^ 16
    small r = omega arith

-- ---- priorities

abbrev pub Fall : List Entry → Type 0
Fall es = EachBefore (λ e f. f.key.priority < e.key.priority) es

module _ (at : Place) (d : Dp) where
  abbrev from : ℕ → List Rule → List Entry
  from r rules = filter_map (λ numbered. rule_entry at d (rule_priority numbered.0) numbered.1) (enumerate_from r rules)

  below : (top r : ℕ) → 10000 - r < top → (rules : List Rule) → AllByRecursion (λ e. e.key.priority < top) (from r rules)
  below top r h [] = tt
  below top r h (x ∷ xs) = one (rule_fields at x.fields) (below top (r + 1) (let k : 10000 - (r + 1) < top = omega arith in k) xs)
    where
      one : (o : Option (List Field)) → AllByRecursion (λ e. e.key.priority < top) (from (r + 1) xs) → AllByRecursion (λ e. e.key.priority < top) (cons_option (option_map (rule_entry_for at d (rule_priority r) x) o) (from (r + 1) xs))
      one None more = more
      one (Some fields) more = (h, more)

  falls : (r : ℕ) (rules : List Rule) → r + length rules ≤ 9998 → Fall (from r rules ++ denial at ∷ [])
  falls r [] h = (tt, tt)
  falls r (x ∷ xs) h = one (rule_fields at x.fields) (falls (r + 1) xs (let k : r + 1 + length xs ≤ 9998 = omega arith in k))
    where
      one : (o : Option (List Field)) → Fall (from (r + 1) xs ++ denial at ∷ []) → Fall (cons_option (option_map (rule_entry_for at d (rule_priority r) x) o) (from (r + 1) xs) ++ denial at ∷ [])
      one None more = more
      one (Some fields) more =
          (all_append (λ f. f.key.priority < 10000 - r) (from (r + 1) xs) (denial at ∷ []) (below (10000 - r) (r + 1) (let k : 10000 - (r + 1) < 10000 - r = omega arith in k) xs) ((let k : 1 < 10000 - r = omega arith in k), tt), more)

module _ (conf : Configuration) (valid : IsValid conf) (d : Dp) (is_dp : Contains conf.dps d) where
  datapath : IsDatapath conf d
  datapath = all_contains (IsDatapath conf) conf.dps valid.datapaths.each d is_dp

  abbrev IsShort : List (List ℕ) → Type 0
  IsShort names = length (rules_of conf names) ≤ 1000

  short : AllByRecursion (λ names. has_acls names ≡ true → IsShort names) (map (λ (p : Port). p.acls) d.ports ++ map (λ (v : Vlan). v.acls) (filter (λ v. has_edge_member d v.vid) conf.vlans))
  short =
      let within = all_contains _ conf.dps valid.limits.each d is_dp in
      all_of_filter IsShort (λ names. not (length names == 0)) _ (all_of_map (rules_of conf) (λ rules. length rules ≤ 1000) _ within.rules)

  of_port_short : (i : Port) → Contains d.ports i → has_acls i.acls ≡ true → IsShort i.acls
  of_port_short i here =
      all_contains (λ (p : Port). has_acls p.acls ≡ true → IsShort p.acls) d.ports
      (all_of_map (λ (p : Port). p.acls) (λ names. has_acls names ≡ true → IsShort names) d.ports (all_of_append _ _ _ short).0) i here

  of_vlan_short : (v : Vlan) → Contains conf.vlans v → has_edge_member d v.vid ≡ true → has_acls v.acls ≡ true → IsShort v.acls
  of_vlan_short v here =
      all_contains (λ (w : Vlan). has_edge_member d w.vid ≡ true → has_acls w.acls ≡ true → IsShort w.acls) conf.vlans
      (all_of_filter (λ (w : Vlan). has_acls w.acls ≡ true → IsShort w.acls) (λ w. has_edge_member d w.vid) conf.vlans
      (all_of_map (λ (w : Vlan). w.acls) (λ names. has_acls names ≡ true → IsShort names) _ (all_of_append _ _ _ short).1)) v here

  acls_fall : (at : Place) (acls : List (List ℕ)) → IsShort acls → Fall (acl_entries at conf d acls)
  acls_fall at acls h = falls at d 0 (rules_of conf acls) (omega arith)

  pub accepted_of_port : (i : Port) → Contains d.ports i → AllByRecursion IsFlowEntry (port_acl conf d i)
  accepted_of_port i here = two (is_accepting i && has_acls i.acls) (is_accepting i || is_stack i)
    where
      number : IsPortNo i.no
      number = (all_contains (IsPort conf) d.ports datapath.ports i here).number

      two : (a b : Bool) → AllByRecursion IsFlowEntry (if a then acl_entries (AtPort i.no) conf d i.acls else (if b then port_entry i.no ∷ [] else []))
      two true b = are_acl_entries conf valid d datapath (AtPort i.no) number i.acls
      two false true = (is_port_entry i.no number, tt)
      two false false = tt

  pub accepted_of_vlan : (v : Vlan) → Contains conf.vlans v → AllByRecursion IsFlowEntry (vlan_acl conf d v)
  accepted_of_vlan v here = one (has_acls v.acls && has_edge_member d v.vid)
    where
      one : (a : Bool) → AllByRecursion IsFlowEntry (if a then acl_entries (AtVlan v.vid) conf d v.acls else [])
      one true = are_acl_entries conf valid d datapath (AtVlan v.vid) (all_contains IsVlan conf.vlans valid.vlans.each v here).number v.acls
      one false = tt

  pub falls_of_port : (i : Port) → Contains d.ports i → Fall (port_acl conf d i)
  falls_of_port i here = two (is_accepting i && has_acls i.acls) refl (is_accepting i || is_stack i)
    where
      two : (a : Bool) → (is_accepting i && has_acls i.acls) ≡ a → (b : Bool) → Fall (if a then acl_entries (AtPort i.no) conf d i.acls else (if b then port_entry i.no ∷ [] else []))
      two true is b = acls_fall (AtPort i.no) i.acls (of_port_short i here (and_parts (is_accepting i) (has_acls i.acls) is).1)
      two false is true = (tt, tt)
      two false is false = tt

  pub falls_of_vlan : (v : Vlan) → Contains conf.vlans v → Fall (vlan_acl conf d v)
  falls_of_vlan v here = one (has_acls v.acls && has_edge_member d v.vid) refl
    where
      one : (a : Bool) → (has_acls v.acls && has_edge_member d v.vid) ≡ a → Fall (if a then acl_entries (AtVlan v.vid) conf d v.acls else [])
      one true is = let parts = and_parts (has_acls v.acls) (has_edge_member d v.vid) is in acls_fall (AtVlan v.vid) v.acls (of_vlan_short v here parts.1 parts.0)
      one false is = tt

-- entries of falling priorities have different keys
distinct_by_priority : (es : List Entry) → Fall es → HaveDistinctKeys es
distinct_by_priority es h =
    before_from {R = λ (e f : Entry). f.key.priority < e.key.priority} {S = λ (e f : Entry). e.key ≡ f.key → ⊥} (λ e f lower same. let is : e.key.priority ≡ f.key.priority = ap (λ k. k.priority) same in omega (arith, lower)) es h

pub distinct_of_port : (conf : Configuration) → IsValid conf → (d : Dp) → Contains conf.dps d → (i : Port) → Contains d.ports i → HaveDistinctKeys (port_acl conf d i)
distinct_of_port conf valid d is_dp i here = distinct_by_priority (port_acl conf d i) (falls_of_port conf valid d is_dp i here)

pub distinct_of_vlan : (conf : Configuration) → IsValid conf → (d : Dp) → Contains conf.dps d → (v : Vlan) → Contains conf.vlans v → HaveDistinctKeys (vlan_acl conf d v)
distinct_of_vlan conf valid d is_dp v here = distinct_by_priority (vlan_acl conf d v) (falls_of_vlan conf valid d is_dp v here)

pub ruleset accepted_laws = (accepted_of_port, accepted_of_vlan)

pub ruleset priority_laws = (falls_of_port, falls_of_vlan)

pub ruleset key_laws = (distinct_of_port, distinct_of_vlan)
