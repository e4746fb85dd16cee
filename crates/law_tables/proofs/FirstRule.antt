-- Of the entries of rules that of the first rule that hits decides; where none hits, the denial does.
use Rattle.std.proofs.Common.{◌≡◌, ℕ, ◌+◌, ◌-◌, ◌<◌, ◌≤◌, ◌&&◌, Bool, true, false, cond, List, [], ◌∷◌, ◌++◌, length, Option, Some, None, refl, sym, ap, ◌∙◌, subst, arith, true≢false}
use Rattle.std.specs.Prelude.{Contains}
use Rattle.std.specs.List.{AllByRecursion, find, filter_map, cons_option, enumerate_from}
use Rattle.std.specs.Option.{option_map}
use Rattle.std.proofs.lemmas.Option.{same_Some, none-some}
use Rattle.net_base.specs.declared.field.Field.{Field}
use Rattle.of_match.specs.declared.entry.Entry.{Entry}
use Rattle.of_match.specs.declared.packet.Packet.{Packet}
use Rattle.of_match.specs.Hit.{hits, agrees, value_of}
use Rattle.conf_types.specs.declared.acl.Rule.{Rule}
use Rattle.conf_types.specs.declared.datapath.Dp.{Dp}
use Rattle.acl_compile.specs.declared.place.Place.{Place}
use Rattle.acl_compile.specs.Places.{field_at}
use Rattle.acl_compile.specs.Rows.{rule_entry, rule_entry_for, rule_fields, rule_priority, denial}
use Rattle.law_runs.specs.Members.{head_of, tail_of, of_all, all_by, all_joined}
use Rattle.law_tables.proofs.RuleHits.{Comes, AreAsked, HitsAs, hits_there, hits_not}

abbrev pub Hits : ℕ → Packet → Entry → Type 0
Hits port p e = hits e.key.fields port p ≡ true

module _ (at : Place) (d : Dp) where
  -- the entries of rules, of which the first has number k
  abbrev pub from : ℕ → List Rule → List Entry
  from k rules = filter_map (λ numbered. rule_entry at d (rule_priority numbered.0) numbered.1) (enumerate_from k rules)

  abbrev entry_of : ℕ → Rule → Option (List Field) → Option Entry
  entry_of k rule o = option_map (rule_entry_for at d (rule_priority k) rule) o

  -- their priorities fall
  below : (k : ℕ) (rules : List Rule) → AllByRecursion (λ e. e.key.priority ≤ 10000 - k) (from k rules)
  below k [] = tt
  below k (rule ∷ rules) = by (rule_fields at rule.fields) (below (k + 1) rules)
    where
      lesser : AllByRecursion (λ e. e.key.priority ≤ 10000 - (k + 1)) (from (k + 1) rules) → AllByRecursion (λ e. e.key.priority ≤ 10000 - k) (from (k + 1) rules)
      lesser more = all_by (λ e. e.key.priority ≤ 10000 - k) (from (k + 1) rules) (λ e c. let le = of_all (λ x. x.key.priority ≤ 10000 - (k + 1)) (from (k + 1) rules) more e c in omega (arith, le))

      by : (o : Option (List Field)) → AllByRecursion (λ e. e.key.priority ≤ 10000 - (k + 1)) (from (k + 1) rules) → AllByRecursion (λ e. e.key.priority ≤ 10000 - k) (cons_option (entry_of k rule o) (from (k + 1) rules))
      by None more = lesser more
      by (Some fields) more = (omega arith, lesser more)

  -- ---- elsewhere no entry hits

  pub none_elsewhere : (port : ℕ) (p : Packet) → agrees (field_at at) (value_of (field_at at).id port p) ≡ false → (k : ℕ) (rules : List Rule) → AllByRecursion (λ e. hits e.key.fields port p ≡ false) (from k rules ++ denial at ∷ [])
  none_elsewhere port p apart k rules = all_joined (λ e. hits e.key.fields port p ≡ false) (from k rules) (denial at ∷ []) (each k rules) (ap (λ b. b && true) apart, tt)
    where
      by : (j : ℕ) (rule : Rule) (rules : List Rule) (o : Option (List Field)) → rule_fields at rule.fields ≡ o → AllByRecursion (λ e. hits e.key.fields port p ≡ false) (from (j + 1) rules) → AllByRecursion (λ e. hits e.key.fields port p ≡ false) (cons_option (entry_of j rule o) (from (j + 1) rules))
      by j rule rules None is more = more
      by j rule rules (Some asked) is more = (hits_not at port p apart rule.fields asked is, more)

      each : (j : ℕ) (rules : List Rule) → AllByRecursion (λ e. hits e.key.fields port p ≡ false) (from j rules)
      each j [] = tt
      each j (rule ∷ rules) = by j rule rules (rule_fields at rule.fields) refl (each (j + 1) rules)

  -- ---- there the first rule's does

  module _ (port : ℕ) (p : Packet) (comes : Comes at port p) where
    abbrev pub hit : Rule → Bool
    hit rule = hits rule.fields port p

    as_rule : (rule : Rule) → AreAsked rule.fields → (o : Option (List Field)) → rule_fields at rule.fields ≡ o → HitsAs o port p (hit rule)
    as_rule rule asked o is = subst (λ x. HitsAs x port p (hit rule)) is (hits_there at port p comes rule.fields asked)

    pub none_hits : (k : ℕ) (rules : List Rule) → AllByRecursion (λ rule. AreAsked rule.fields) rules → find hit rules ≡ None → AllByRecursion (λ e. hits e.key.fields port p ≡ false) (from k rules)
    none_hits k [] all is = tt
    none_hits k (rule ∷ rules) all is = by (hit rule) refl is (none_hits (k + 1) rules all.1)
      where
        put : hit rule ≡ false → (o : Option (List Field)) → rule_fields at rule.fields ≡ o → AllByRecursion (λ e. hits e.key.fields port p ≡ false) (from (k + 1) rules) → AllByRecursion (λ e. hits e.key.fields port p ≡ false) (cons_option (entry_of k rule o) (from (k + 1) rules))
        put miss None e more = more
        put miss (Some fields) e more = (as_rule rule all.0 (Some fields) e ∙ miss, more)

        by : (b : Bool) → hit rule ≡ b → cond b (Some rule) (find hit rules) ≡ None → (find hit rules ≡ None → AllByRecursion (λ e. hits e.key.fields port p ≡ false) (from (k + 1) rules)) → AllByRecursion (λ e. hits e.key.fields port p ≡ false) (from k (rule ∷ rules))
        by true e none more = absurd (none-some rule (sym none))
        by false e none more = put e (rule_fields at rule.fields) refl (more none)

    -- an entry of the rule hits, with a priority above the denial's, and each that hits with its priority or a
    -- higher one is it
    pub record First (rule : Rule) (es : List Entry) : Type 0 where
      pub priority : ℕ
      pub fields : List Field
      pub within : Contains es (rule_entry_for at d priority rule fields)
      pub hits_so : hits fields port p ≡ true
      pub high : 1 < priority
      pub each : AllByRecursion (λ e. Hits port p e → priority ≤ e.key.priority → e ≡ rule_entry_for at d priority rule fields) es

    pub first_hit : (k : ℕ) (rules : List Rule) → AllByRecursion (λ rule. AreAsked rule.fields) rules → k + length rules ≤ 1000 → (rule : Rule) → find hit rules ≡ Some rule → First rule (from k rules)
    first_hit k [] all few rule is = absurd (none-some rule is)
    first_hit k (r ∷ rules) all few rule is = by (hit r) refl is (λ e. first_hit (k + 1) rules all.1 (omega arith) rule e)
      where
        it : hit r ≡ true → (o : Option (List Field)) → rule_fields at r.fields ≡ o → First r (cons_option (entry_of k r o) (from (k + 1) rules))
        it so None e = absurd (true≢false (sym so ∙ as_rule r all.0 None e))
        it so (Some fields) e =
            let low = below (k + 1) rules in
            record {
              priority = 10000 - k;
              fields = fields;
              within = head_of (rule_entry_for at d (10000 - k) r fields) (from (k + 1) rules);
              hits_so = as_rule r all.0 (Some fields) e ∙ so;
              high = omega arith;
              each = (
                (λ h le. refl),
                all_by (λ x. Hits port p x → 10000 - k ≤ x.key.priority → x ≡ rule_entry_for at d (10000 - k) r fields) (from (k + 1) rules) (λ x c h le.
                    let less = of_all (λ y. y.key.priority ≤ 10000 - (k + 1)) (from (k + 1) rules) low x c in absurd (omega (arith, less, le, few))),
              );
            }

        later : hit r ≡ false → (o : Option (List Field)) → rule_fields at r.fields ≡ o → First rule (from (k + 1) rules) → First rule (cons_option (entry_of k r o) (from (k + 1) rules))
        later miss None e f = f
        later miss (Some fields) e f = record {
          priority = f.priority;
          fields = f.fields;
          within = tail_of (rule_entry_for at d (10000 - k) r fields) (from (k + 1) rules) (rule_entry_for at d f.priority rule f.fields) f.within;
          hits_so = f.hits_so;
          high = f.high;
          each = ((λ h le. absurd (true≢false (sym h ∙ as_rule r all.0 (Some fields) e ∙ miss))), f.each);
        }

        by : (b : Bool) → hit r ≡ b → cond b (Some r) (find hit rules) ≡ Some rule → (find hit rules ≡ Some rule → First rule (from (k + 1) rules)) → First rule (from k (r ∷ rules))
        by true e same more = subst (λ x. First x (from k (r ∷ rules))) (same_Some r rule same) (it e (rule_fields at r.fields) refl)
        by false e same more = later e (rule_fields at r.fields) refl (more same)
