-- No rule on mirrors and stack links is broken where they are valid.
use Rattle.std.specs.Prelude.{◌≡◌, ℕ, ◌==◌, ◌&&◌, ◌||◌, Bool, true, false, not, List, [], map, length, Option, Some, None, IfSome, IsTrue, IsSomeAnd, is_some, is_none, unwrap_or, if◌then◌else◌}
use Rattle.std.specs.List.{AllByRecursion, flat_map}
use Rattle.std.specs.Option.{option_map, option_map_or}
use Rattle.std.proofs.Common.{◌⊎◌, inl, inr, refl, sym, ap, ◌∙◌, subst, true≢false, eqb-true, eq-eqb}
use Rattle.std.proofs.lemmas.Bool.{and_parts, and_from, or_from, not_from_false, ne_eqb}
use Rattle.conf_types.specs.declared.acl.PortRef.{PortRef}
use Rattle.conf_types.specs.declared.datapath.Dp.{Dp}
use Rattle.conf_types.specs.declared.datapath.Port.{Port}
use Rattle.conf_types.specs.declared.datapath.StackEnd.{StackEnd}
use Rattle.conf_types.specs.Configuration.{Configuration, port_with, port_at}
use Rattle.conf_types.specs.Lists.{EachBefore}
use Rattle.conf_types.specs.Membership.{is_edge}
use Rattle.conf_types.specs.Valid.{IsMirror, MirrorsAreValid, IsStackPort, StacksAreValid, vlans_named}
use Rattle.conf_shape.specs.declared.raw.RawStackEnd.{RawStackEnd}
use Rattle.conf_shape.specs.declared.raw.RawPort.{RawPort}
use Rattle.conf_shape.specs.declared.raw.RawDp.{RawDp}
use Rattle.conf_shape.specs.declared.refused.ConfCause.TheVariants.{Unresolved, Conflict}
use Rattle.conf_resolve.specs.declared.ordered.OrderedConf.{OrderedConf}
use Rattle.conf_resolve.specs.Resolved.{dp_of, port_of, resolved, items_of, to_list, number_named, far_end}
use Rattle.conf_rules.specs.Places.{fault_if_some, items_at}
use Rattle.conf_rules.specs.Ports.{is_mirrorable, wrong_mirrored, is_used, mirror_site, wrong_mirror, wrong_mirrors, is_end, points_back, is_free, is_right_end, stack_site, stack_cause, wrong_stack, wrong_stacks}
use Rattle.law_checks.proofs.Empty.{values_of, no_length}
pub use Rattle.law_checks.proofs.Interfaces.{at, of_interfaces, all_interfaces}
use Rattle.law_checks.proofs.Kept.{both_empty, all_empty, no_fault, is_value}
use Rattle.law_checks.proofs.Members.{IsIn, of_all, in_mapped, found, two_of}
use Rattle.law_checks.proofs.Once.{into_once}

-- ---- small facts

pub not_nil : {A : Type 0} (xs : List A) (x : A) → IsIn xs x → xs ≡ [] → ⊥
not_nil xs x i is = subst (λ l. IsIn l x) is i

pub nil_length : {A : Type 0} (xs : List A) → xs ≡ [] → (length xs == 0) ≡ true
nil_length xs is = ap (λ l. length l == 0) is

pub edge_there : (o : Option Port) → IsSomeAnd o (λ q. IsTrue (is_edge q)) → option_map_or is_edge o false ≡ true
edge_there None is = absurd is
edge_there (Some q) is = is

pub some_port : (o : Option Port) → IsSomeAnd o (λ q. IsTrue (is_edge q)) → (q : Port) × (o ≡ Some q) × (is_edge q ≡ true)
some_port None is = absurd is
some_port (Some q) is = (q, refl, is)

pub some_number : (o : Option ℕ) → IsTrue (is_some o) → (n : ℕ) × (o ≡ Some n)
some_number None is = absurd (true≢false (sym is))
some_number (Some n) is = (n, refl)

-- an end that does nothing else
pub free_end : (p : Port) → vlans_named p ≡ [] → p.acls ≡ [] → p.mirror ≡ [] → p.output_only ≡ false → p.hairpin ≡ false → p.permanent_learn ≡ false → is_free p ≡ true
free_end p no_vlan no_acl no_mirror takes_packets no_hairpin no_permanent_learn =
    and_from (length (vlans_named p) == 0 && length p.acls == 0 && length p.mirror == 0 && not p.output_only && not p.hairpin) (not p.permanent_learn)
    (and_from (length (vlans_named p) == 0 && length p.acls == 0 && length p.mirror == 0 && not p.output_only) (not p.hairpin)
    (and_from (length (vlans_named p) == 0 && length p.acls == 0 && length p.mirror == 0) (not p.output_only)
    (and_from (length (vlans_named p) == 0 && length p.acls == 0) (length p.mirror == 0)
    (and_from (length (vlans_named p) == 0) (length p.acls == 0) (nil_length (vlans_named p) no_vlan) (nil_length p.acls no_acl))
    (nil_length p.mirror no_mirror))
    (ap not takes_packets))
    (ap not no_hairpin))
    (ap not no_permanent_learn)

-- an end that points to the interface
pub its_end : (d : Dp) (p : Port) (r : Option StackEnd) → r ≡ Some (record { dp = d.id; port = p.no }) → option_map_or (λ end. is_end end d p) r false ≡ true
its_end d p r is = ap (λ (r : Option StackEnd). option_map_or (λ end. is_end end d p) r false) is ∙ and_from (d.id.0 == d.id.0) (p.no == p.no) (eq-eqb d.id.0 d.id.0 refl) (eq-eqb p.no p.no refl)

module _ (o : OrderedConf) where
  abbrev conf : Configuration
  conf = resolved o

  -- ---- mirrors

  module _ (differ : AllByRecursion (λ d. EachBefore (λ p q. p.no ≡ q.no → ⊥) d.ports) conf.dps)
      (named : AllByRecursion (λ d. AllByRecursion (λ p. AllByRecursion (λ name. IsTrue (is_some (number_named d name))) (items_of p.mirror)) d.ports) o.dps)
      (mirrors : MirrorsAreValid conf) where
    mirror_is : (d : RawDp) → IsIn o.dps d → (p : RawPort) → IsIn d.ports p → ((port_of o d p).mirror ≡ [] → ⊥) → IsMirror (dp_of o d) (port_of o d p)
    mirror_is d cd p cp = of_all (λ (p : Port). (p.mirror ≡ [] → ⊥) → IsMirror (dp_of o d) p) (dp_of o d).ports (of_all (λ (d : Dp). AllByRecursion (λ p. (p.mirror ≡ [] → ⊥) → IsMirror d p) d.ports) conf.dps mirrors.each (dp_of o d) (in_mapped (dp_of o) o.dps d cd)) (port_of o d p) (in_mapped (port_of o d) d.ports p cp)

    -- a number is that of one interface
    one_port : (d : RawDp) → IsIn o.dps d → (p q : Port) → IsIn (dp_of o d).ports p → IsIn (dp_of o d).ports q → p.no ≡ q.no → p ≡ q
    one_port d cd p q cp cq same = by (two_of (λ (p q : Port). p.no ≡ q.no → ⊥) (dp_of o d).ports (of_all (λ (d : Dp). EachBefore (λ p q. p.no ≡ q.no → ⊥) d.ports) conf.dps differ (dp_of o d) (in_mapped (dp_of o) o.dps d cd)) p q cp cq)
      where
        by : (p ≡ q) ⊎ ((p.no ≡ q.no → ⊥) ⊎ (q.no ≡ p.no → ⊥)) → p ≡ q
        by (inl e) = e
        by (inr (inl other)) = absurd (other same)
        by (inr (inr other)) = absurd (other (sym same))

    mirrorable : (d : RawDp) → IsIn o.dps d → (p : RawPort) → IsIn d.ports p → (n : ℕ) → IsIn (port_of o d p).mirror n → is_mirrorable (dp_of o d) (port_of o d p) n ≡ true
    mirrorable d cd p cp n i =
        let q = port_of o d p in
        let mirror = mirror_is d cd p cp (not_nil q.mirror n i) in
        let edge = of_all (λ number. IsSomeAnd (port_with (dp_of o d).ports number) (λ q. IsTrue (is_edge q))) q.mirror mirror.mirrored n i in
        let e = some_port (port_with (dp_of o d).ports n) edge in
        let f = found (λ (q : Port). q.no == n) (dp_of o d).ports e.0 e.1 in
        and_from (not (n == p.no)) (option_map_or is_edge (port_with (dp_of o d).ports n) false)
        (not_from_false (n == p.no) (ne_eqb n p.no (λ same.
        let one : e.0 ≡ q = one_port d cd e.0 q f.0 (in_mapped (port_of o d) d.ports p cp) (eqb-true e.0.no n f.1 ∙ same) in
        let itself : is_edge q ≡ true = subst (λ (q : Port). is_edge q ≡ true) one e.2 in
        not_nil q.mirror n i (no_length q.mirror (eqb-true (length q.mirror) 0 (and_parts (q.enabled && is_none q.stack) (length q.mirror == 0) itself).1)))))
        (edge_there (port_with (dp_of o d).ports n) edge)

    not_used : (d : RawDp) → IsIn o.dps d → (p : RawPort) → IsIn d.ports p → (not (length (port_of o d p).mirror == 0) && is_used (port_of o d p)) ≡ false
    not_used d cd p cp = by (length (port_of o d p).mirror == 0) refl
      where
        free : IsMirror (dp_of o d) (port_of o d p) → is_used (port_of o d p) ≡ false
        free m =
            let q = port_of o d p in
            or_from (not (length (vlans_named q) == 0)) (not (length q.acls == 0) || is_some q.stack) (ap not (nil_length (vlans_named q) m.no_vlan))
            (or_from (not (length q.acls == 0)) (is_some q.stack) (ap not (nil_length q.acls m.no_acl)) (ap (λ (o : Option StackEnd). is_some o) m.no_stack))

        by : (b : Bool) → (length (port_of o d p).mirror == 0) ≡ b → (not b && is_used (port_of o d p)) ≡ false
        by true is = refl
        by false is = free (mirror_is d cd p cp (λ nil. true≢false (sym (nil_length (port_of o d p).mirror nil) ∙ is)))

    mirrored_kept : (d : RawDp) → IsIn o.dps d → (p : RawPort) → IsIn d.ports p → (item : List (List ℕ) × PortRef) → IsIn (items_of p.mirror) item.1 → wrong_mirrored (at o d p) item ≡ []
    mirrored_kept d cd p cp item i =
        let s = some_number (number_named d item.1) (of_all (λ name. IsTrue (is_some (number_named d name))) (items_of p.mirror) (of_all (λ (p : RawPort). AllByRecursion (λ name. IsTrue (is_some (number_named d name))) (items_of p.mirror)) d.ports (of_all (λ (d : RawDp). AllByRecursion (λ p. AllByRecursion (λ name. IsTrue (is_some (number_named d name))) (items_of p.mirror)) d.ports) o.dps named d cd) p cp) item.1 i) in
        let number : PortRef → ℕ = λ name. unwrap_or (number_named d name) p.no in
        let same : number item.1 ≡ s.0 = ap (λ (r : Option ℕ). unwrap_or r p.no) s.1 in
        let here : IsIn (port_of o d p).mirror s.0 = into_once (map number (items_of p.mirror)) s.0 (subst (λ n. IsIn (map number (items_of p.mirror)) n) same (in_mapped number (items_of p.mirror) item.1 i)) in
        ap (λ (r : Option ℕ). fault_if_some (option_map_or (λ number. if is_mirrorable (dp_of o d) (port_of o d p) number then None else Some (Conflict 10)) r (Some Unresolved)) item.0) s.1
        ∙ ap (λ (b : Bool). fault_if_some (if b then None else Some (Conflict 10)) item.0) (mirrorable d cd p cp s.0 here)

    pub mirrors_kept : wrong_mirrors o conf ≡ []
    mirrors_kept = all_interfaces o wrong_mirror (λ d cd p cp. both_empty (flat_map (wrong_mirrored (at o d p)) (items_at (mirror_site (at o d p)) p.mirror)) _
        (all_empty (wrong_mirrored (at o d p)) (items_at (mirror_site (at o d p)) p.mirror) (λ item i. mirrored_kept d cd p cp item (is_value (items_at (mirror_site (at o d p)) p.mirror) (items_of p.mirror) (values_of (mirror_site (at o d p)) p.mirror) item i)))
        (no_fault (not (length (port_of o d p).mirror == 0) && is_used (port_of o d p)) (Conflict 10) (mirror_site (at o d p)) (not_used d cd p cp)))

  -- ---- stack links

  right_end : (d : Dp) (p : Port) (far : StackEnd) → IsStackPort conf d p far → is_right_end conf d p far ≡ true
  right_end d p far is =
      and_from (not (far.dp.0 == d.id.0) && points_back conf d p far) (is_free p)
      (and_from (not (far.dp.0 == d.id.0)) (points_back conf d p far) (not_from_false (far.dp.0 == d.id.0) (ne_eqb far.dp.0 d.id.0 (λ same. is.elsewhere (sym same)))) (back (port_at conf far.dp far.port) is.far_end))
      (free_end p is.no_vlan is.no_acl is.no_mirror is.takes_packets is.no_hairpin is.no_permanent_learn)
    where
      back : (r : Option Port) → IsSomeAnd r (λ q. q.stack ≡ Some (record { dp = d.id; port = p.no })) → option_map_or (λ q. option_map_or (λ end. is_end end d p) q.stack false) r false ≡ true
      back None is = absurd is
      back (Some q) is = its_end d p q.stack is

  module _ (named : AllByRecursion (λ d. AllByRecursion (λ p. IfSome p.stack (λ end. IsTrue (is_some (far_end o.dps end)))) d.ports) o.dps) (stacks : StacksAreValid conf) where
    stack_kept : (d : RawDp) → IsIn o.dps d → (p : RawPort) → IsIn d.ports p → (end : RawStackEnd) → p.stack ≡ Some end → fault_if_some (stack_cause o conf (dp_of o d) (port_of o d p) end) (stack_site (at o d p)) ≡ []
    stack_kept d cd p cp end is = by (far_end o.dps end) refl (subst (λ (r : Option RawStackEnd). IfSome r (λ end. IsTrue (is_some (far_end o.dps end)))) is (of_all (λ (p : RawPort). IfSome p.stack (λ end. IsTrue (is_some (far_end o.dps end)))) d.ports (of_all (λ (d : RawDp). AllByRecursion (λ p. IfSome p.stack (λ end. IsTrue (is_some (far_end o.dps end)))) d.ports) o.dps named d cd) p cp))
      where
        stands : IfSome (port_of o d p).stack (IsStackPort conf (dp_of o d) (port_of o d p))
        stands = of_all (λ (p : Port). IfSome p.stack (IsStackPort conf (dp_of o d) p)) (dp_of o d).ports (of_all (λ (d : Dp). AllByRecursion (λ p. IfSome p.stack (IsStackPort conf d p)) d.ports) conf.dps stacks.each (dp_of o d) (in_mapped (dp_of o) o.dps d cd)) (port_of o d p) (in_mapped (port_of o d) d.ports p cp)

        by : (r : Option StackEnd) → far_end o.dps end ≡ r → IsTrue (is_some (far_end o.dps end)) → fault_if_some (option_map_or (λ far. if is_right_end conf (dp_of o d) (port_of o d p) far then None else Some (Conflict 11)) r (Some Unresolved)) (stack_site (at o d p)) ≡ []
        by None e here = absurd (true≢false (sym here ∙ ap (λ (r : Option StackEnd). is_some r) e))
        by (Some far) e here =
            let far_is : (port_of o d p).stack ≡ Some far = ap (λ (r : Option RawStackEnd). option_map (λ end. unwrap_or (far_end o.dps end) (record { dp = d.id; port = p.no })) r) is ∙ ap (λ (r : Option StackEnd). Some (unwrap_or r (record { dp = d.id; port = p.no }))) e in
            ap (λ (b : Bool). fault_if_some (if b then None else Some (Conflict 11)) (stack_site (at o d p))) (right_end (dp_of o d) (port_of o d p) far (subst (λ (r : Option StackEnd). IfSome r (IsStackPort conf (dp_of o d) (port_of o d p))) far_is stands))

    one_end : (r : Option RawStackEnd) (end : RawStackEnd) → IsIn (to_list r) end → r ≡ Some end
    one_end None end i = absurd i
    one_end (Some e) end (inl same) = ap Some same
    one_end (Some e) end (inr i) = absurd i

    pub stacks_kept : wrong_stacks o conf ≡ []
    stacks_kept = all_interfaces o (wrong_stack o conf) (λ d cd p cp. all_empty (λ (end : RawStackEnd). fault_if_some (stack_cause o conf (dp_of o d) (port_of o d p) end) (stack_site (at o d p))) (to_list p.stack) (λ end i. stack_kept d cd p cp end (one_end p.stack end i)))
