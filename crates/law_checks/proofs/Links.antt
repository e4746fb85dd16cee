-- Mirrors and ends of stack links are valid where no rule on them is broken.
use Rattle.std.specs.Prelude.{◌≡◌, ℕ, ◌==◌, ◌&&◌, ◌||◌, true, false, not, List, [], ◌∷◌, map, length, Option, Some, None, IfSome, IsTrue, IsSomeAnd, is_some, unwrap_or, if◌then◌else◌}
use Rattle.std.specs.List.{AllByRecursion, flat_map}
use Rattle.std.specs.Option.{option_map, option_map_or}
use Rattle.std.proofs.Common.{inl, refl, sym, ap, ◌∙◌, subst, true≢false, arith, eqb-true}
use Rattle.std.proofs.lemmas.Bool.{and_parts, or_parts, not-true, not-false, not_from_false, eqb-false, ne_eqb}
use Rattle.conf_types.specs.declared.acl.PortRef.{PortRef}
use Rattle.conf_types.specs.declared.datapath.Dp.{Dp}
use Rattle.conf_types.specs.declared.datapath.Port.{Port}
use Rattle.conf_types.specs.declared.datapath.StackEnd.{StackEnd}
use Rattle.conf_types.specs.Configuration.{Configuration, port_with, port_at}
use Rattle.conf_types.specs.Membership.{is_edge}
use Rattle.conf_types.specs.Valid.{IsMirror, MirrorsAreValid, IsStackPort, StacksAreValid, vlans_named}
use Rattle.conf_shape.specs.declared.raw.RawStackEnd.{RawStackEnd}
use Rattle.conf_shape.specs.declared.raw.RawPort.{RawPort}
use Rattle.conf_shape.specs.declared.raw.RawDp.{RawDp}
use Rattle.conf_shape.specs.declared.refused.ConfCause.TheVariants.{Unresolved, Conflict}
use Rattle.conf_resolve.specs.declared.ordered.OrderedConf.{OrderedConf}
use Rattle.conf_resolve.specs.Resolved.{dp_of, port_of, resolved, items_of, to_list, number_named, far_end}
use Rattle.conf_rules.specs.Places.{fault_if_some, items_at, Interface, interfaces}
use Rattle.conf_rules.specs.Ports.{is_mirrorable, wrong_mirrored, is_used, mirror_site, wrong_mirror, is_end, points_back, is_free, is_right_end, stack_site, stack_cause, wrong_stack, wrong_mirrors, wrong_stacks}
use Rattle.law_checks.proofs.Empty.{none_left, none_right, none_at, none_of_values, values_of, passes, no_cause, no_length}
use Rattle.law_checks.proofs.Interfaces.{at, is_interface}
use Rattle.law_checks.proofs.Members.{IsIn, all_by, all_mapped, of_mapped, second_fails}
use Rattle.law_checks.proofs.Once.{of_once, once_distinct}

-- ---- small facts

pub empty : {A : Type 0} (xs : List A) → (length xs == 0) ≡ true → xs ≡ []
empty xs is = no_length xs (eqb-true (length xs) 0 is)

pub not_empty : {A : Type 0} (xs : List A) → (xs ≡ [] → ⊥) → not (length xs == 0) ≡ true
not_empty [] some = absurd (some refl)
not_empty (x ∷ xs) some = not_from_false (length (x ∷ xs) == 0) (ne_eqb (length (x ∷ xs)) 0 (λ e. absurd (omega arith)))

pub is_none : {A : Type 0} (o : Option A) → is_some o ≡ false → o ≡ None
is_none None is = refl
is_none (Some x) is = absurd (true≢false is)

pub some_edge : (o : Option Port) → option_map_or is_edge o false ≡ true → IsSomeAnd o (λ q. IsTrue (is_edge q))
some_edge None is = absurd (true≢false (sym is))
some_edge (Some q) is = is

-- ---- mirrors

module _ (i : Interface) (none : wrong_mirror i ≡ []) where
  pub mirrored_right : (name : PortRef) → IsIn (items_of i.raw.mirror) name → (n : ℕ) × (number_named i.raw_dp name ≡ Some n) × (is_mirrorable i.dp i.port n ≡ true)
  mirrored_right name c = let m = none_of_values (wrong_mirrored i) (items_at (mirror_site i) i.raw.mirror) (items_of i.raw.mirror) (values_of (mirror_site i) i.raw.mirror) (none_left (flat_map (wrong_mirrored i) (items_at (mirror_site i) i.raw.mirror)) _ none) name c in by m.0 (number_named i.raw_dp name) refl m.1
    where
      by : (site : List (List ℕ)) (o : Option ℕ) → number_named i.raw_dp name ≡ o → fault_if_some (option_map_or (λ number. if is_mirrorable i.dp i.port number then None else Some (Conflict 10)) o (Some Unresolved)) site ≡ [] → (n : ℕ) × (number_named i.raw_dp name ≡ Some n) × (is_mirrorable i.dp i.port n ≡ true)
      by site None is e = absurd (cc)
      by site (Some n) is e = (n, is, no_cause (is_mirrorable i.dp i.port n) (Conflict 10) site e)

  pub unused : not (length i.port.mirror == 0) ≡ true → is_used i.port ≡ false
  unused some = second_fails (not (length i.port.mirror == 0)) (is_used i.port) some (passes _ (Conflict 10) (mirror_site i) (none_right (flat_map (wrong_mirrored i) (items_at (mirror_site i) i.raw.mirror)) _ none))

module _ (o : OrderedConf) where
  abbrev conf : Configuration
  conf = resolved o

  module _ (none : wrong_mirrors o conf ≡ []) where
    mirror_none : (d : RawDp) → IsIn o.dps d → (p : RawPort) → IsIn d.ports p → wrong_mirror (at o d p) ≡ []
    mirror_none d cd p cp = none_at wrong_mirror (interfaces o conf) none (at o d p) (is_interface o d cd p cp)

    mirrored : (d : RawDp) → IsIn o.dps d → (p : RawPort) → IsIn d.ports p → AllByRecursion (λ number. IsSomeAnd (port_with (dp_of o d).ports number) (λ q. IsTrue (is_edge q))) (port_of o d p).mirror
    mirrored d cd p cp = all_by (λ number. IsSomeAnd (port_with (dp_of o d).ports number) (λ q. IsTrue (is_edge q))) (port_of o d p).mirror (λ number c.
        let m = of_mapped (λ name. unwrap_or (number_named d name) p.no) (items_of p.mirror) number (of_once (map (λ name. unwrap_or (number_named d name) p.no) (items_of p.mirror)) number c) in
        let r = mirrored_right (at o d p) (mirror_none d cd p cp) m.0 m.1 in
        let same : r.0 ≡ number = sym (ap (λ (o : Option ℕ). unwrap_or o p.no) r.1) ∙ m.2 in
        subst (λ n. IsSomeAnd (port_with (dp_of o d).ports n) (λ q. IsTrue (is_edge q))) same
        (some_edge (port_with (dp_of o d).ports r.0) (and_parts (not (r.0 == p.no)) (option_map_or is_edge (port_with (dp_of o d).ports r.0) false) r.2).1))

    mirror_valid : (d : RawDp) → IsIn o.dps d → (p : RawPort) → IsIn d.ports p → ((port_of o d p).mirror ≡ [] → ⊥) → IsMirror (dp_of o d) (port_of o d p)
    mirror_valid d cd p cp some =
        let q = port_of o d p in
        let free = unused (at o d p) (mirror_none d cd p cp) (not_empty q.mirror some) in
        let parts = or_parts (not (length (vlans_named q) == 0)) (not (length q.acls == 0) || is_some q.stack) free in
        let rest = or_parts (not (length q.acls == 0)) (is_some q.stack) parts.1 in
        record {
          mirrored = mirrored d cd p cp;
          once = once_distinct (map (λ name. unwrap_or (number_named d name) p.no) (items_of p.mirror));
          no_vlan = empty (vlans_named q) (not-false (length (vlans_named q) == 0) parts.0);
          no_acl = empty q.acls (not-false (length q.acls == 0) rest.0);
          no_stack = is_none q.stack rest.1;
        }

    pub mirrors_valid : MirrorsAreValid conf
    mirrors_valid = record {
      each = all_mapped (λ (d : Dp). AllByRecursion (λ p. (p.mirror ≡ [] → ⊥) → IsMirror d p) d.ports) (dp_of o) o.dps (all_by _ o.dps (λ d cd.
          all_mapped (λ (p : Port). (p.mirror ≡ [] → ⊥) → IsMirror (dp_of o d) p) (port_of o d) d.ports (all_by _ d.ports (λ p cp. mirror_valid d cd p cp))));
    }

    pub mirrored_named : AllByRecursion (λ d. AllByRecursion (λ p. AllByRecursion (λ name. IsTrue (is_some (number_named d name))) (items_of p.mirror)) d.ports) o.dps
    mirrored_named = all_by (λ (d : RawDp). AllByRecursion (λ p. AllByRecursion (λ name. IsTrue (is_some (number_named d name))) (items_of p.mirror)) d.ports) o.dps (λ d cd. all_by (λ (p : RawPort). AllByRecursion (λ name. IsTrue (is_some (number_named d name))) (items_of p.mirror)) d.ports (λ p cp.
        all_by (λ name. IsTrue (is_some (number_named d name))) (items_of p.mirror) (λ name i. let r = mirrored_right (at o d p) (mirror_none d cd p cp) name i in ap (λ (n : Option ℕ). is_some n) r.1)))

  -- ---- stack links

  stack_valid : (d : Dp) (p : Port) (far : StackEnd) → is_right_end conf d p far ≡ true → IsStackPort conf d p far
  stack_valid d p far there =
      let a = and_parts (not (far.dp.0 == d.id.0) && points_back conf d p far) (is_free p) there in
      let b = and_parts (not (far.dp.0 == d.id.0)) (points_back conf d p far) a.0 in
      let f1 = and_parts (length (vlans_named p) == 0 && length p.acls == 0 && length p.mirror == 0 && not p.output_only && not p.hairpin) (not p.permanent_learn) a.1 in
      let f2 = and_parts (length (vlans_named p) == 0 && length p.acls == 0 && length p.mirror == 0 && not p.output_only) (not p.hairpin) f1.0 in
      let f3 = and_parts (length (vlans_named p) == 0 && length p.acls == 0 && length p.mirror == 0) (not p.output_only) f2.0 in
      let f4 = and_parts (length (vlans_named p) == 0 && length p.acls == 0) (length p.mirror == 0) f3.0 in
      let f5 = and_parts (length (vlans_named p) == 0) (length p.acls == 0) f4.0 in
      record {
        elsewhere = λ same. eqb-false far.dp.0 d.id.0 (not-true (far.dp.0 == d.id.0) b.0) (sym same);
        far_end = back (port_at conf far.dp far.port) b.1;
        no_vlan = empty (vlans_named p) f5.0;
        no_acl = empty p.acls f5.1;
        no_mirror = empty p.mirror f4.1;
        takes_packets = not-true p.output_only f3.1;
        no_hairpin = not-true p.hairpin f2.1;
        no_permanent_learn = not-true p.permanent_learn f1.1;
      }
    where
      its_end : (o : Option StackEnd) → option_map_or (λ end. is_end end d p) o false ≡ true → o ≡ Some (record { dp = d.id; port = p.no })
      its_end None is = absurd (true≢false (sym is))
      its_end (Some end) is =
          let parts = and_parts (end.dp.0 == d.id.0) (end.port == p.no) is in
          let made : ℕ → ℕ → Option StackEnd = λ a b. Some (record { dp = record { 0 = a }; port = b }) in
          ap (λ a. made a end.port) (eqb-true end.dp.0 d.id.0 parts.0) ∙ ap (λ b. made d.id.0 b) (eqb-true end.port p.no parts.1)

      back : (o : Option Port) → option_map_or (λ q. option_map_or (λ end. is_end end d p) q.stack false) o false ≡ true → IsSomeAnd o (λ q. q.stack ≡ Some (record { dp = d.id; port = p.no }))
      back None is = absurd (true≢false (sym is))
      back (Some q) is = its_end q.stack is

  module _ (none : wrong_stacks o conf ≡ []) where
    right_end : (d : RawDp) → IsIn o.dps d → (p : RawPort) → IsIn d.ports p → (end : RawStackEnd) → p.stack ≡ Some end → (far : StackEnd) × (far_end o.dps end ≡ Some far) × (is_right_end conf (dp_of o d) (port_of o d p) far ≡ true)
    right_end d cd p cp end is = by (far_end o.dps end) refl (none_at (λ (end : RawStackEnd). fault_if_some (stack_cause o conf (dp_of o d) (port_of o d p) end) (stack_site (at o d p))) (to_list p.stack)
        (none_at (wrong_stack o conf) (interfaces o conf) none (at o d p) (is_interface o d cd p cp)) end (subst (λ (o : Option RawStackEnd). IsIn (to_list o) end) (sym is) (inl refl)))
      where
        by : (r : Option StackEnd) → far_end o.dps end ≡ r → fault_if_some (option_map_or (λ far. if is_right_end conf (dp_of o d) (port_of o d p) far then None else Some (Conflict 11)) r (Some Unresolved)) (stack_site (at o d p)) ≡ [] → (far : StackEnd) × (far_end o.dps end ≡ Some far) × (is_right_end conf (dp_of o d) (port_of o d p) far ≡ true)
        by None e none = absurd (cc)
        by (Some far) e none = (far, e, no_cause (is_right_end conf (dp_of o d) (port_of o d p) far) (Conflict 11) (stack_site (at o d p)) none)

    stack_of : (d : RawDp) → IsIn o.dps d → (p : RawPort) → IsIn d.ports p → IfSome (port_of o d p).stack (IsStackPort conf (dp_of o d) (port_of o d p))
    stack_of d cd p cp = by p.stack refl
      where
        by : (r : Option RawStackEnd) → p.stack ≡ r → IfSome (option_map (λ end. unwrap_or (far_end o.dps end) (record { dp = d.id; port = p.no })) r) (IsStackPort conf (dp_of o d) (port_of o d p))
        by None is = tt
        by (Some end) is =
            let r = right_end d cd p cp end is in
            subst (λ (r : Option StackEnd). IsStackPort conf (dp_of o d) (port_of o d p) (unwrap_or r (record { dp = d.id; port = p.no }))) (sym r.1)
            (stack_valid (dp_of o d) (port_of o d p) r.0 r.2)

    pub stacks_valid : StacksAreValid conf
    stacks_valid = record {
      each = all_mapped (λ (d : Dp). AllByRecursion (λ p. IfSome p.stack (IsStackPort conf d p)) d.ports) (dp_of o) o.dps (all_by _ o.dps (λ d cd.
          all_mapped (λ (p : Port). IfSome p.stack (IsStackPort conf (dp_of o d) p)) (port_of o d) d.ports (all_by _ d.ports (λ p cp. stack_of d cd p cp))));
    }

    pub far_ends_named : AllByRecursion (λ d. AllByRecursion (λ p. IfSome p.stack (λ end. IsTrue (is_some (far_end o.dps end)))) d.ports) o.dps
    far_ends_named = all_by (λ (d : RawDp). AllByRecursion (λ p. IfSome p.stack (λ end. IsTrue (is_some (far_end o.dps end)))) d.ports) o.dps (λ d cd. all_by (λ (p : RawPort). IfSome p.stack (λ end. IsTrue (is_some (far_end o.dps end)))) d.ports (λ p cp. its_end d cd p cp p.stack refl))
      where
        its_end : (d : RawDp) → IsIn o.dps d → (p : RawPort) → IsIn d.ports p → (s : Option RawStackEnd) → p.stack ≡ s → IfSome s (λ end. IsTrue (is_some (far_end o.dps end)))
        its_end d cd p cp None is = tt
        its_end d cd p cp (Some end) is = let r = right_end d cd p cp end is in ap (λ (n : Option StackEnd). is_some n) r.1
