-- Table 0, case by case.
use Rattle.std.proofs.Common.{◌≡◌, ℕ, ◌^◌, ◌<◌, ◌==◌, ◌&&◌, ◌||◌, not, Bool, true, false, List, [], ◌∷◌, ◌++◌, length, map, Option, Some, refl, sym, ap, ◌∙◌, subst, true≢false, eqb-true, eq-eqb, arith, if◌then◌else◌, ne_eqb}
use Rattle.std.specs.Prelude.{Contains}
use Rattle.std.specs.List.{AllByRecursion, flat_map}
use Rattle.std.specs.Option.{option_map_or}
use Rattle.std.proofs.lemmas.Bool.{false_from_ne_true}
use Rattle.net_base.specs.declared.field.FieldId.TheVariants.{InPort}
use Rattle.of_match.specs.declared.entry.Entry.{Entry}
use Rattle.of_match.specs.declared.packet.Packet.{Packet}
use Rattle.of_match.specs.declared.packet.Sent.{Sent}
use Rattle.of_match.specs.Hit.{hits, agrees, value_of}
use Rattle.of_match.specs.Pipeline.{takes}
use Rattle.conf_types.specs.declared.acl.Rule.{Rule}
use Rattle.conf_types.specs.declared.datapath.Dp.{Dp}
use Rattle.conf_types.specs.declared.datapath.Port.{Port}
use Rattle.conf_types.specs.Attached.{rules_of}
use Rattle.conf_types.specs.Configuration.{Configuration}
use Rattle.conf_types.specs.Membership.{is_stack, is_accepting}
use Rattle.conf_types.specs.State.{State}
use Rattle.packet_way.specs.Verdict.{acl_sends, is_allowed, rule_for}
use Rattle.plan_base.specs.Fields.{in_port}
use Rattle.acl_compile.specs.declared.place.Place.TheVariants.{AtPort}
use Rattle.acl_compile.specs.Slices.{acl_entries, port_acl, port_entry, has_acls}
use Rattle.law_runs.specs.Decided.{IsDecided, decided, none_takes}
use Rattle.law_runs.specs.Members.{in_front, behind, in_mapped, in_flat, head_of, all_if, of_all}
use Rattle.law_runs.specs.Order.{same_self}
use Rattle.law_runs.specs.Runs.{missed, went}
use Rattle.law_runs.specs.Tests.{agrees_exact}
use Rattle.plan_units.specs.Agrees.{hits_one}
use Rattle.plan_units.specs.Facts.{none_found, one_port, port_number}
use Rattle.plan_units.specs.Fixed.{fixed}
use Rattle.plan_units.specs.Laws.{IsSetting, IsPort, Sends, PortsLaw}
use Rattle.plan_units.specs.Steps.{followed}
use Rattle.plan_units.specs.Tables.{AtTable, port_acl_in}
use Rattle.plan_units.specs.Units.{plan, of_port}
use Rattle.law_tables.proofs.Ingress.{Entered, entered, stack_apart}
use Rattle.law_tables.proofs.FirstRule.{none_elsewhere}
use Rattle.law_tables.proofs.RuleHits.{comes_agrees}
use Rattle.law_tables.proofs.AclsLead.{Part, Leads, NoneHits, to_next, no_part, few, acls_lead}
use Rattle.law_tables.proofs.AclFamilies.{at_0, sends_then}

module _ (conf : Configuration) (now : State) (d : Dp) (setting : IsSetting conf now d) where
  module _ (port : ℕ) (p : Packet) (fits : port < 2 ^ 32) where
    not_by : (j : Port) → Contains d.ports j → (port ≡ j.no → ⊥) → agrees (in_port j.no) (value_of InPort port p) ≡ false
    not_by j c apart =
        let most = (port_number conf setting.valid d setting.is_dp j c).most in
        agrees_exact InPort j.no port fits (omega (arith, most)) ∙ ne_eqb port j.no apart

    none_by : (j : Port) → Contains d.ports j → (port ≡ j.no → ⊥) → NoneHits port p (port_acl conf d j)
    none_by j c apart =
        all_if (λ e. hits e.key.fields port p ≡ false) (is_accepting j && has_acls j.acls) (acl_entries (AtPort j.no) conf d j.acls) _ (λ is. none_elsewhere (AtPort j.no) d port p (not_by j c apart) 0 (rules_of conf j.acls))
        (λ is. all_if (λ e. hits e.key.fields port p ≡ false) (is_accepting j || is_stack j) (port_entry j.no ∷ []) [] (λ is. (ap (λ b. b && true) (not_by j c apart), tt)) (λ is. tt))

    -- where no entry of a port hits, nothing is sent
    ends : ((j : Port) → Contains d.ports j → NoneHits port p (port_acl conf d j)) → Sends conf now d 0 port p []
    ends none = missed (plan conf now d) port 0 p (none_takes 0 port p (plan conf now d) (each (plan conf now d) (at_0 conf now d (λ e. hits e.key.fields port p ≡ false) none)))
      where
        one : (e : Entry) (b : Bool) → (e.key.table == 0) ≡ b → (e.key.table ≡ 0 → hits e.key.fields port p ≡ false) → (b && hits e.key.fields port p) ≡ false
        one e true is none = none (eqb-true e.key.table 0 is)
        one e false is none = refl

        each : (es : List Entry) → AtTable 0 (λ e. hits e.key.fields port p ≡ false) es → AllByRecursion (λ e. takes 0 port p e ≡ false) es
        each [] all = tt
        each (e ∷ es) all = (one e (e.key.table == 0) refl all.0, each es all.1)

    -- the entries of the port that a packet comes by decide
    module _ (i : Port) (c : Contains d.ports i) (is : i.no ≡ port) where
      by_own : (Q : Entry → Type 0) → AllByRecursion Q (port_acl conf d i) → ((j : Port) → Contains d.ports j → NoneHits port p (port_acl conf d j) → AllByRecursion Q (port_acl conf d j)) → (j : Port) → Contains d.ports j → AllByRecursion Q (port_acl conf d j)
      by_own Q own others j cj = by (port == j.no) refl
        where
          by : (b : Bool) → (port == j.no) ≡ b → AllByRecursion Q (port_acl conf d j)
          by true e = subst (λ x. AllByRecursion Q (port_acl conf d x)) (one_port conf setting.valid d setting.is_dp i j c cj (is ∙ eqb-true port j.no e)) own
          by false e = others j cj (none_by j cj (λ same. true≢false (sym (eq-eqb port j.no same) ∙ e)))

      ports_decide : (sent : List Sent) (on : Option (ℕ × Packet)) → Leads 0 port p (port_acl conf d i) sent on → IsDecided 0 port p (plan conf now d) sent on
      ports_decide sent on l = record {
        by = l.by;
        within = behind (fixed conf d) _ l.by (in_front (flat_map (of_port conf now d) d.ports) _ l.by (in_flat (of_port conf now d) d.ports i l.by c (in_front (port_acl conf d i) _ l.by l.within)));
        hit = rw (eq-eqb l.by.key.table 0 (of_all (λ e. e.key.table ≡ 0) (port_acl conf d i) (port_acl_in conf d i) l.by l.within)) l.hit;
        all = followed 0 port p l.by.key.priority sent on (plan conf now d) (at_0 conf now d (Part 0 port p l.by.key.priority sent on) (by_own (Part 0 port p l.by.key.priority sent on) l.all (λ j cj none. no_part 0 port p l.by.key.priority sent on (port_acl conf d j) none)));
      }

      -- a port with this one entry takes all packets in
      takes_all : port_acl conf d i ≡ port_entry i.no ∷ [] → IsDecided 0 port p (plan conf now d) [] (Some (1, p))
      takes_all one = ports_decide [] (Some (1, p)) (subst (λ es. Leads 0 port p es [] (Some (1, p))) (sym one) (record {
        by = port_entry i.no;
        within = head_of (port_entry i.no) [];
        hit = hits_one (in_port i.no) port p ∙ comes_agrees (AtPort i.no) port p (fits, sym is);
        all = ((λ h le. (same_self [], refl)), tt);
      }))

  -- what stands in table 0 of a port
  abbrev acl_of : Port → Bool → Bool → Bool → List Entry
  acl_of i accepting none stack = if accepting && not none then acl_entries (AtPort i.no) conf d i.acls else if accepting || stack then port_entry i.no ∷ [] else []

  of_stack : (i : Port) → is_stack i ≡ true → port_acl conf d i ≡ port_entry i.no ∷ []
  of_stack i stack = ap (λ a. acl_of i a (length i.acls == 0) (is_stack i)) (false_from_ne_true (is_accepting i) (stack_apart i stack)) ∙ ap (λ s. acl_of i false (length i.acls == 0) s) stack

  of_closed : (i : Port) → is_stack i ≡ false → is_accepting i ≡ false → port_acl conf d i ≡ []
  of_closed i stack accepting = ap (λ a. acl_of i a (length i.acls == 0) (is_stack i)) accepting ∙ ap (λ s. acl_of i false (length i.acls == 0) s) stack

  of_edge : (i : Port) → is_accepting i ≡ true → (b : Bool) → (length i.acls == 0) ≡ b → port_acl conf d i ≡ acl_of i true b (is_stack i)
  of_edge i accepting b is = ap (λ a. acl_of i a (length i.acls == 0) (is_stack i)) accepting ∙ ap (λ n. acl_of i true n (is_stack i)) is

  module _ (port : ℕ) (p : Packet) (i : Port) (is_port : IsPort d port i) where
    came : Entered d port i
    came = entered conf now d setting port i is_port

    closed : is_stack i ≡ false → is_accepting i ≡ false → Sends conf now d 0 port p []
    closed stack accepting =
        ends port p came.fits (by_own port p came.fits i came.within came.is (λ e. hits e.key.fields port p ≡ false) (subst (λ es. NoneHits port p es) (sym (of_closed i stack accepting)) tt) (λ j c none. none))

    stacked : is_stack i ≡ true → (rest : List Sent) → Sends conf now d 1 port p rest → Sends conf now d 0 port p rest
    stacked stack rest more = went (plan conf now d) port 0 p [] 1 p rest (decided 0 port p (plan conf now d) [] (Some (1, p)) (takes_all port p came.fits i came.within came.is (of_stack i stack))) more

    edge : is_accepting i ≡ true → (rest : List Sent) → (is_allowed conf i.acls port p ≡ true → Sends conf now d 1 port p rest) → Sends conf now d 0 port p (acl_sends conf d i.acls port p ++ (if is_allowed conf i.acls port p then rest else []))
    edge accepting rest more = by (length i.acls == 0) refl
      where
        empty : (xs : List (List ℕ)) → (length xs == 0) ≡ true → xs ≡ []
        empty [] e = refl
        empty (x ∷ xs) e = absurd (let none = eqb-true (length (x ∷ xs)) 0 e in omega (arith, none))

        by : (b : Bool) → (length i.acls == 0) ≡ b → Sends conf now d 0 port p (acl_sends conf d i.acls port p ++ (if is_allowed conf i.acls port p then rest else []))
        by true e =
            let none = empty i.acls e in
            subst (λ acls. Sends conf now d 0 port p (acl_sends conf d acls port p ++ (if is_allowed conf acls port p then rest else []))) (sym none)
            (went (plan conf now d) port 0 p [] 1 p rest (decided 0 port p (plan conf now d) [] (Some (1, p)) (takes_all port p came.fits i came.within came.is (of_edge i accepting true e)))
            (more (ap (λ b. b || option_map_or (λ (rule : Rule). rule.allow) (rule_for conf i.acls port p) false) e)))
        by false e =
            sends_then conf now d 0 1 port p (acl_sends conf d i.acls port p) (is_allowed conf i.acls port p) rest
            (ports_decide port p came.fits i came.within came.is (acl_sends conf d i.acls port p) (to_next (AtPort i.no) p (is_allowed conf i.acls port p))
            (subst (λ es. Leads 0 port p es (acl_sends conf d i.acls port p) (to_next (AtPort i.no) p (is_allowed conf i.acls port p))) (sym (of_edge i accepting false e))
            (acls_lead conf setting.valid d setting.is_dp (AtPort i.no) port p (came.fits, sym came.is) i.acls e (few conf setting.valid d setting.is_dp i.acls e (in_front (map (λ (q : Port). q.acls) d.ports) _ i.acls (in_mapped (λ (q : Port). q.acls) d.ports i came.within))))))
            more

  pub law : PortsLaw conf now d
  law = record {
    no_port = λ port p less none. ends port p less (λ j c. none_by port p less j c (λ same. true≢false (sym (eq-eqb j.no port (sym same)) ∙ of_all (λ (q : Port). (q.no == port) ≡ false) d.ports (none_found (λ q. q.no == port) d.ports none) j c)));
    closed = λ port p i is_port stack accepting. closed port p i is_port stack accepting;
    stack = λ port p i is_port stack rest more. stacked port p i is_port stack rest more;
    edge = λ port p i shaped is_port accepting rest more. edge port p i is_port accepting rest more;
  }
