-- What decides among the entries of ACLs, and what that does.
use Rattle.std.proofs.Common.{◌≡◌, ℕ, ◌≤◌, ◌==◌, ◌||◌, not, Bool, true, false, List, [], ◌∷◌, ◌++◌, length, map, filter, Option, Some, None, refl, sym, ap, ◌∙◌, subst, true≢false, arith, if◌then◌else◌}
use Rattle.std.specs.Prelude.{Contains, count_by}
use Rattle.std.specs.List.{AllByRecursion}
use Rattle.std.specs.Option.{option_map, option_map_or, option_and_then}
use Rattle.net_base.specs.declared.field.Field.{Field}
use Rattle.of_match.specs.declared.action.Action.{Action}
use Rattle.of_match.specs.declared.entry.Entry.{Entry}
use Rattle.of_match.specs.declared.packet.Packet.{Packet}
use Rattle.of_match.specs.declared.packet.Sent.{Sent}
use Rattle.of_match.specs.Hit.{hits}
use Rattle.of_match.specs.Pipeline.{next_table}
use Rattle.conf_types.specs.declared.acl.Acl.{Acl}
use Rattle.conf_types.specs.declared.acl.Rule.{Rule}
use Rattle.conf_types.specs.declared.datapath.Dp.{Dp}
use Rattle.conf_types.specs.declared.datapath.Port.{Port}
use Rattle.conf_types.specs.declared.vlan.Vlan.{Vlan}
use Rattle.conf_types.specs.Attached.{rules_of, acl_named}
use Rattle.conf_types.specs.Configuration.{Configuration, dp_with}
use Rattle.conf_types.specs.Lists.{is_same}
use Rattle.conf_types.specs.Membership.{has_edge_member}
use Rattle.conf_types.specs.Valid.{IsValid, IsRule, DatapathIsWithin, attached}
use Rattle.packet_way.specs.Leaving.{copies}
use Rattle.packet_way.specs.Verdict.{acl_sends, is_allowed, rule_for, targets}
use Rattle.plan_base.specs.declared.table.Table.{Table}
use Rattle.plan_base.specs.declared.table.Table.TheVariants as table
use Rattle.plan_base.specs.Entries.{table_number, leads_to}
use Rattle.acl_compile.specs.declared.place.Place.{Place}
use Rattle.acl_compile.specs.declared.place.Place.TheVariants.{AtPort, AtVlan}
use Rattle.acl_compile.specs.Places.{table_at, next_at, field_at}
use Rattle.acl_compile.specs.Rows.{rule_entry_for, denial}
use Rattle.acl_compile.specs.Slices.{acl_entries}
use Rattle.acl_compile.specs.Targets as compiled
use Rattle.law_runs.specs.Decided.{Does}
use Rattle.law_runs.specs.Members.{in_front, behind, in_mapped, in_filtered, head_of, all_joined, all_flat, all_by, of_all}
use Rattle.law_runs.specs.Order.{same_self}
use Rattle.law_runs.specs.Outputs.{outputs, outputs_leave}
use Rattle.plan_units.specs.Agrees.{hits_one}
use Rattle.plan_units.specs.Facts.{found}
use Rattle.plan_units.specs.Steps.{sends_led, goes_led, ends_led, next_led}
use Rattle.law_tables.proofs.FirstRule.{Hits, from, none_hits, first_hit}
use Rattle.law_tables.proofs.RuleHits.{Comes, comes_agrees, AreAsked}
use Rattle.law_tables.proofs.AclTargets.{CameBy, sends_alike}

-- an entry's part in the decision: if it hits, and none of this priority comes before it, it does so
abbrev pub Part : ℕ → ℕ → Packet → ℕ → List Sent → Option (ℕ × Packet) → Entry → Type 0
Part t port p priority sent on e = hits e.key.fields port p ≡ true → priority ≤ e.key.priority → Does t port p sent on e

-- of some entries one hits, and all that hit with its priority or a higher one do the same
pub record Leads (t port : ℕ) (p : Packet) (es : List Entry) (sent : List Sent) (on : Option (ℕ × Packet)) : Type 0 where
  pub by : Entry
  pub within : Contains es by
  pub hit : hits by.key.fields port p ≡ true
  pub all : AllByRecursion (Part t port p by.key.priority sent on) es

abbrev pub NoneHits : ℕ → Packet → List Entry → Type 0
NoneHits port p es = AllByRecursion (λ e. hits e.key.fields port p ≡ false) es

abbrev pub to_next : Place → Packet → Bool → Option (ℕ × Packet)
to_next at p b = if b then Some (table_number (next_at at), p) else None

-- those that don't hit decide nothing
pub no_part : (t port : ℕ) (p : Packet) (priority : ℕ) (sent : List Sent) (on : Option (ℕ × Packet)) (es : List Entry) → NoneHits port p es → AllByRecursion (Part t port p priority sent on) es
no_part t port p priority sent on es none = all_by (Part t port p priority sent on) es (λ e c h le. absurd (true≢false (sym h ∙ of_all (λ x. hits x.key.fields port p ≡ false) es none e c)))

came_by : (at : Place) (port : ℕ) (p : Packet) → Comes at port p → CameBy at port
came_by (AtPort number) port p comes = comes.1
came_by (AtVlan vid) port p comes = tt

next_is : (at : Place) (p : Packet) (actions : List Action) (b : Bool)
    → option_map (λ u. (u, p)) (next_table (leads_to actions (if b then Some (next_at at) else None)) (table_number (table_at at))) ≡ to_next at p b
next_is at p actions false = ap (λ o. option_map (λ u. (u, p)) o) (ends_led actions (table_number (table_at at)))
next_is (AtPort number) p actions true = ap (λ o. option_map (λ u. (u, p)) o) (next_led actions table.Admission 0)
next_is (AtVlan vid) p actions true = ap (λ o. option_map (λ u. (u, p)) o) (next_led actions table.Source 2)

module _ (conf : Configuration) (valid : IsValid conf) (d : Dp) (is_dp : dp_with conf.dps d.id ≡ Some d) where
  d_in : Contains conf.dps d
  d_in = (found (λ e. e.id.0 == d.id.0) conf.dps d is_dp).within

  -- the fields of all rules are those that a rule may ask for
  asked : (acls : List (List ℕ)) → AllByRecursion (λ rule. AreAsked rule.fields) (rules_of conf acls)
  asked acls =
      all_flat (λ rule. AreAsked rule.fields) (λ name. option_map_or (λ acl. acl.rules) (acl_named conf.acls name) []) acls
      (all_by (λ name. AllByRecursion (λ rule. AreAsked rule.fields) (option_map_or (λ acl. acl.rules) (acl_named conf.acls name) [])) acls (λ name c. of name (acl_named conf.acls name) refl))
    where
      of : (name : List ℕ) (o : Option Acl) → acl_named conf.acls name ≡ o → AllByRecursion (λ rule. AreAsked rule.fields) (option_map_or (λ acl. acl.rules) o [])
      of name None is = tt
      of name (Some acl) is =
          let rules = of_all (λ (x : Acl). AllByRecursion IsRule x.rules) conf.acls valid.acls.rules acl (found (λ x. is_same x.name name) conf.acls acl is).within in
          all_by (λ (rule : Rule). AreAsked rule.fields) acl.rules (λ rule c. (of_all IsRule acl.rules rules rule c).each)

  -- and there are at most 1,000 of them at each place
  pub few : (acls : List (List ℕ)) → (length acls == 0) ≡ false → Contains (map (λ (p : Port). p.acls) d.ports ++ map (λ (v : Vlan). v.acls) (filter (λ v. has_edge_member d v.vid) conf.vlans)) acls → length (rules_of conf acls) ≤ 1000
  few acls some c =
      of_all (λ rules. length rules ≤ 1000) (attached conf d) (of_all (DatapathIsWithin conf) conf.dps valid.limits.each d d_in).rules (rules_of conf acls)
      (in_mapped (rules_of conf) _ acls (in_filtered (λ names. not (length names == 0)) _ acls c (ap not some)))

  rule_does : (at : Place) (port : ℕ) (p : Packet) → CameBy at port → (priority : ℕ) (rule : Rule) (fields : List Field)
      → Does (table_number (table_at at)) port p (copies (targets d port rule) p) (to_next at p rule.allow) (rule_entry_for at d priority rule fields)
  rule_does at port p came priority rule fields =
      let actions = outputs (compiled.targets at d rule) in
      let next : Option Table = if rule.allow then Some (next_at at) else None in
      let t = table_number (table_at at) in (
        (λ test. ap (λ l. count_by test l) (sends_led (table_at at) priority fields actions next port p) ∙ sends_alike conf valid d is_dp at port came rule p test),
        goes_led (table_at at) priority fields actions next t p
            ∙ ap (λ o. option_and_then (λ (q : Packet). option_map (λ u. (u, q)) (next_table (leads_to actions next) t)) o) (outputs_leave (compiled.targets at d rule) p)
            ∙ next_is at p actions rule.allow,
      )

  pub acls_lead : (at : Place) (port : ℕ) (p : Packet) → Comes at port p → (acls : List (List ℕ)) → (length acls == 0) ≡ false → length (rules_of conf acls) ≤ 1000
      → Leads (table_number (table_at at)) port p (acl_entries at conf d acls) (acl_sends conf d acls port p) (to_next at p (is_allowed conf acls port p))
  acls_lead at port p comes acls some most =
      subst (λ b. Leads t port p (acl_entries at conf d acls) (acl_sends conf d acls port p) (to_next at p (b || option_map_or (λ (rule : Rule). rule.allow) (rule_for conf acls port p) false))) (sym some)
      (by (rule_for conf acls port p) refl)
    where
      t : ℕ
      t = table_number (table_at at)

      rules : List Rule
      rules = rules_of conf acls

      by : (o : Option Rule) → rule_for conf acls port p ≡ o → Leads t port p (acl_entries at conf d acls) (option_map_or (λ rule. copies (targets d port rule) p) o []) (to_next at p (option_map_or (λ (rule : Rule). rule.allow) o false))
      by None is = record {
        by = denial at;
        within = behind (from at d 0 rules) (denial at ∷ []) (denial at) (head_of (denial at) []);
        hit = hits_one (field_at at) port p ∙ comes_agrees at port p comes;
        all = all_joined (Part t port p 1 [] None) (from at d 0 rules) (denial at ∷ []) (no_part t port p 1 [] None (from at d 0 rules) (none_hits at d port p comes 0 rules (asked acls) is)) ((λ h le. (same_self [], refl)), tt);
      }
      by (Some rule) is =
          let f = first_hit at d port p comes 0 rules (asked acls) (omega (arith, most)) rule is in
          let does = rule_does at port p (came_by at port p comes) f.priority rule f.fields in
          let high = f.high in
          record {
            by = rule_entry_for at d f.priority rule f.fields;
            within = in_front (from at d 0 rules) (denial at ∷ []) (rule_entry_for at d f.priority rule f.fields) f.within;
            hit = f.hits_so;
            all = all_joined (Part t port p f.priority (copies (targets d port rule) p) (to_next at p rule.allow)) (from at d 0 rules) (denial at ∷ [])
                (all_by (Part t port p f.priority (copies (targets d port rule) p) (to_next at p rule.allow)) (from at d 0 rules) (λ e c h le.
                subst (λ x. Does t port p (copies (targets d port rule) p) (to_next at p rule.allow) x)
                (sym (of_all (λ x. Hits port p x → f.priority ≤ x.key.priority → x ≡ rule_entry_for at d f.priority rule f.fields) (from at d 0 rules) f.each e c h le)) does))
                ((λ h le. absurd (omega (arith, high, le))), tt);
          }
