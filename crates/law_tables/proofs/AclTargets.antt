-- What the entries of rules send, and what the description says.
use Rattle.std.proofs.Common.{◌≡◌, ℕ, ◌==◌, ◌&&◌, ◌||◌, not, Bool, true, false, List, [], ◌∷◌, filter, Option, Some, None, refl, sym, ap, ◌∙◌, subst, true≢false, eqb-true, eq-eqb, if◌then◌else◌}
use Rattle.std.specs.Prelude.{Contains, count_by}
use Rattle.std.specs.List.{AllByRecursion, list_any, filter_map, cons_option}
use Rattle.std.specs.Option.{option_and_then}
use Rattle.std.proofs.lemmas.Option.{same_Some, none-some}
use Rattle.std.proofs.lemmas.List.Folds.{list_any-append}
use Rattle.of_match.specs.declared.action.TheConstants.{IN_PORT}
use Rattle.of_match.specs.declared.packet.Packet.{Packet}
use Rattle.of_match.specs.declared.packet.Sent.{Sent}
use Rattle.of_match.specs.Act.{act_sends}
use Rattle.conf_types.specs.declared.acl.PortRef.{PortRef}
use Rattle.conf_types.specs.declared.acl.PortRef.TheVariants.{No, Name}
use Rattle.conf_types.specs.declared.acl.Rule.{Rule}
use Rattle.conf_types.specs.declared.datapath.Dp.{Dp}
use Rattle.conf_types.specs.declared.datapath.Port.{Port}
use Rattle.conf_types.specs.Attached.{port_named, is_named, names_in}
use Rattle.conf_types.specs.Configuration.{Configuration, dp_with}
use Rattle.conf_types.specs.Lists.{is_among}
use Rattle.conf_types.specs.Valid.{IsValid}
use Rattle.packet_way.specs.Leaving.{copies}
use Rattle.packet_way.specs.Verdict.{targets, names_port}
use Rattle.acl_compile.specs.declared.place.Place.{Place}
use Rattle.acl_compile.specs.declared.place.Place.TheVariants.{AtPort, AtVlan}
use Rattle.acl_compile.specs.Targets.{may_go, target, once}
use Rattle.acl_compile.specs.Targets as compiled
use Rattle.law_runs.specs.Members.{of_all, all_by, all_filtered}
use Rattle.law_runs.specs.Order.{AreSame}
use Rattle.law_runs.specs.Outputs.{outputs, outputs_send}
use Rattle.plan_units.specs.Agrees.{same_bytes}
use Rattle.plan_units.specs.Copies.{no_ingress}
use Rattle.plan_units.specs.Facts.{Found, found, none_found, apart_or_one, datapath, one_port, port_number}
use Rattle.law_tables.proofs.AclCounts.{and_false, count_mapped, count_filtered, count_alike, once_counts}

-- the ACLs of a port see only what came in by it
abbrev pub CameBy : Place → ℕ → Type 0
CameBy (AtPort number) port = port ≡ number
CameBy (AtVlan vid) port = Unit {0}

-- by each but the ingress those may go that are enabled
may_go_is : (at : Place) (port : ℕ) → CameBy at port → (q : Port) → (q.no == port) ≡ false → may_go at q ≡ q.enabled
may_go_is (AtPort number) port came q apart = subst (λ n. (q.enabled && not (q.no == n)) ≡ q.enabled) came (rw apart (and_true q.enabled))
  where
    and_true : (b : Bool) → (b && true) ≡ b
    and_true true = refl
    and_true false = refl
may_go_is (AtVlan vid) port came q apart = refl

both_or : (e a b : Bool) → ((e && a) || (e && b)) ≡ (e && (a || b))
both_or true a b = refl
both_or false a b = refl

-- numbers that may be there
all_some : (P : ℕ → Type 0) (f : PortRef → Option ℕ) (names : List PortRef) → ((name : PortRef) (n : ℕ) → f name ≡ Some n → P n) → AllByRecursion P (filter_map f names)
all_some P f [] h = tt
all_some P f (name ∷ names) h = one (f name) refl (all_some P f names h)
  where
    one : (o : Option ℕ) → f name ≡ o → AllByRecursion P (filter_map f names) → AllByRecursion P (cons_option o (filter_map f names))
    one None is more = more
    one (Some n) is more = (h name n is, more)

all_once : (P : ℕ → Type 0) (ns : List ℕ) → AllByRecursion P ns → AllByRecursion P (once ns)
all_once P [] all = tt
all_once P (n ∷ ns) all =
    let more = all_once P ns all.1 in
    (all.0, all_filtered P (λ m. not (m == n)) (once ns) (all_by (λ m. not (m == n) ≡ true → P m) (once ns) (λ m c is. of_all P (once ns) more m c)))

module _ (conf : Configuration) (valid : IsValid conf) (d : Dp) (is_dp : dp_with conf.dps d.id ≡ Some d) where
  -- a name or a number is that of one interface
  one_named : (name : PortRef) (q r : Port) → Contains d.ports q → Contains d.ports r → is_named name q ≡ true → is_named name r ≡ true → q ≡ r
  one_named (No number) q r cq cr hq hr = one_port conf valid d is_dp q r cq cr (eqb-true q.no number hq ∙ sym (eqb-true r.no number hr))
  one_named (Name name) q r cq cr hq hr =
      let same = same_bytes q.name name hq ∙ sym (same_bytes r.name name hr) in
      apart_or_one (λ (x y : Port). x.name ≡ y.name → ⊥) d.ports (datapath conf valid d is_dp).port_names q r cq cr (λ apart. apart same) (λ apart. apart (sym same))

  module _ (at : Place) (port : ℕ) (came : CameBy at port) where
    abbrev number_of : Option Port → Option ℕ
    number_of o = option_and_then (λ q. if may_go at q then Some q.no else None) o

    -- a target is one of an interface
    target_is : (name : PortRef) (n : ℕ) → target at d name ≡ Some n → (q : Port) × Contains d.ports q × (q.no ≡ n)
    target_is name n is = by (port_named d name) refl is
      where
        there : (r : Port) → Contains d.ports r → (b : Bool) → (if b then Some r.no else None) ≡ Some n → (q : Port) × Contains d.ports q × (q.no ≡ n)
        there r c true e = (r, c, same_Some r.no n e)
        there r c false e = absurd (none-some n e)

        by : (o : Option Port) → port_named d name ≡ o → number_of o ≡ Some n → (q : Port) × Contains d.ports q × (q.no ≡ n)
        by None is e = absurd (none-some n e)
        by (Some r) is e = there r (found (is_named name) d.ports r is).within (may_go at r) e

    module _ (q : Port) (c : Contains d.ports q) (apart : (q.no == port) ≡ false) where
      one_target : (name : PortRef) (o : Option Port) → port_named d name ≡ o → (ns : List ℕ) → is_among (cons_option (number_of o) ns) q.no ≡ ((q.enabled && is_named name q) || is_among ns q.no)
      one_target name None is ns =
          let unnamed = of_all (λ x. is_named name x ≡ false) d.ports (none_found (is_named name) d.ports is) q c in
          rw unnamed (rw (and_false q.enabled) refl)
      one_target name (Some r) is ns = by (r.no == q.no) refl
        where
          is_found : Found (is_named name) d.ports r
          is_found = found (is_named name) d.ports r is

          this : (b : Bool) → is_among (cons_option (if b then Some q.no else None) ns) q.no ≡ ((b && true) || is_among ns q.no)
          this true = rw (eq-eqb q.no q.no refl) refl
          this false = refl

          other : (b : Bool) → (r.no == q.no) ≡ false → is_among (cons_option (if b then Some r.no else None) ns) q.no ≡ is_among ns q.no
          other true e = rw e refl
          other false e = refl

          not_named : (b : Bool) → is_named name q ≡ b → (r.no == q.no) ≡ false → is_named name q ≡ false
          not_named true e apart = absurd (true≢false (sym (eq-eqb r.no q.no (ap (λ (x : Port). x.no) (one_named name r q is_found.within c is_found.passes e))) ∙ apart))
          not_named false e apart = e

          by : (b : Bool) → (r.no == q.no) ≡ b → is_among (cons_option (number_of (Some r)) ns) q.no ≡ ((q.enabled && is_named name q) || is_among ns q.no)
          by true e =
              let same : r ≡ q = one_port conf valid d is_dp r q is_found.within c (eqb-true r.no q.no e) in
              let hit : is_named name q ≡ true = subst (λ x. is_named name x ≡ true) same is_found.passes in
              subst (λ x. is_among (cons_option (number_of (Some x)) ns) q.no ≡ ((q.enabled && is_named name q) || is_among ns q.no)) (sym same)
              (ap (λ b. is_among (cons_option (if b then Some q.no else None) ns) q.no) (may_go_is at port came q apart) ∙ this q.enabled ∙ ap (λ b. (q.enabled && b) || is_among ns q.no) (sym hit))
          by false e =
              other (may_go at r) e ∙ ap (λ b. b || is_among ns q.no) (sym (and_false q.enabled)) ∙ ap (λ b. (q.enabled && b) || is_among ns q.no) (sym (not_named (is_named name q) refl e))

      named : (names : List PortRef) → is_among (filter_map (target at d) names) q.no ≡ (q.enabled && list_any (λ name. is_named name q) names)
      named [] = sym (and_false q.enabled)
      named (name ∷ names) =
          one_target name (port_named d name) refl (filter_map (target at d) names) ∙ ap (λ b. (q.enabled && is_named name q) || b) (named names)
          ∙ both_or q.enabled (is_named name q) (list_any (λ x. is_named x q) names)

    -- what goes by each target, and what the description sends
    pub sends_alike : (rule : Rule) (p : Packet) → AreSame (act_sends (outputs (compiled.targets at d rule)) port p) (copies (targets d port rule) p)
    sends_alike rule p = λ test.
        ap (λ l. count_by test l) (outputs_send (compiled.targets at d rule) port p reserved)
        ∙ count_mapped test by_it (filter (λ n. not (n == port)) (once ns))
        ∙ count_filtered (λ n. test (by_it n)) (λ n. not (n == port)) (once ns)
        ∙ once_counts (λ (q : Port). q.no) d.ports (datapath conf valid d is_dp).in_order ns those (λ n. not (n == port) && test (by_it n))
        ∙ count_alike (λ q. is_among ns q.no && (not (q.no == port) && test (by_it q.no))) (λ q. (q.enabled && names_port rule q && not (q.no == port)) && test (by_it q.no)) d.ports
        (all_by (λ q. (is_among ns q.no && (not (q.no == port) && test (by_it q.no))) ≡ ((q.enabled && names_port rule q && not (q.no == port)) && test (by_it q.no))) d.ports (λ q c. each q c (test (by_it q.no)) (q.no == port) refl))
        ∙ sym (count_filtered (λ q. test (by_it q.no)) (λ q. q.enabled && names_port rule q && not (q.no == port)) d.ports)
        ∙ sym (count_mapped test (λ (q : Port). by_it q.no) (targets d port rule))
      where
        by_it : ℕ → Sent
        by_it n = record { port = n; packet = p }

        ns : List ℕ
        ns = filter_map (target at d) (names_in rule)

        those : AllByRecursion (λ n. (q : Port) × Contains d.ports q × (q.no ≡ n)) ns
        those = all_some (λ n. (q : Port) × Contains d.ports q × (q.no ≡ n)) (target at d) (names_in rule) target_is

        reserved : AllByRecursion (λ n. (n == IN_PORT) ≡ false) (compiled.targets at d rule)
        reserved =
            all_once (λ n. (n == IN_PORT) ≡ false) ns
            (all_some (λ n. (n == IN_PORT) ≡ false) (target at d) (names_in rule) (λ name n is.
            let t = target_is name n is in
            subst (λ m. (m == IN_PORT) ≡ false) t.2 (no_ingress (t.0).no (port_number conf valid d is_dp t.0 t.1))))

        neither : (a e n t : Bool) → (a && (false && t)) ≡ ((e && n && false) && t)
        neither a e n t = and_false a ∙ sym (ap (λ b. b && t) (and_false (e && n)))

        kept : (e n t : Bool) → ((e && n) && (true && t)) ≡ ((e && n && true) && t)
        kept true true t = refl
        kept true false t = refl
        kept false n t = refl

        each : (q : Port) → Contains d.ports q → (t b : Bool) → (q.no == port) ≡ b → (is_among ns q.no && (not (q.no == port) && t)) ≡ ((q.enabled && names_port rule q && not (q.no == port)) && t)
        each q c t true e = rw e (neither (is_among ns q.no) q.enabled (names_port rule q) t)
        each q c t false e =
            rw e (ap (λ b. b && (true && t)) (named q c e (names_in rule) ∙ ap (λ b. q.enabled && b) (list_any-append (λ name. is_named name q) rule.mirror rule.output)) ∙ kept q.enabled (names_port rule q) t)
