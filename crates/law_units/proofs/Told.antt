-- The reach as a test is that of the relation.
use Rattle.std.proofs.Common.{◌≡◌, ℕ, zero, suc, Bool, true, false, ◌==◌, List, [], ◌∷◌, Option, Some, None, inl, inr, refl, sym, ap, ◌∙◌, subst, arith, true≢false, eqb-true, eq-eqb}
use Rattle.std.specs.Prelude.{Contains, IsSomeAnd}
use Rattle.std.specs.List.{list_any}
use Rattle.std.specs.Option.{option_map_or}
use Rattle.std.proofs.lemmas.Bool.{and_parts, and_from, or_cases, or_left, or_right}
use Rattle.net_base.specs.declared.address.Mac.{Mac}
use Rattle.net_base.specs.declared.numbers.DpId.{DpId}
use Rattle.conf_types.specs.declared.datapath.Dp.{Dp}
use Rattle.conf_types.specs.Changes.{host_by}
use Rattle.conf_types.specs.Configuration.{Configuration, port_at}
use Rattle.conf_types.specs.Groups.{group_of}
use Rattle.conf_types.specs.Lists.{is_among}
use Rattle.conf_types.specs.Membership.{is_stack}
use Rattle.conf_types.specs.Routing.{routing_set}
use Rattle.conf_types.specs.State.{State, is_host_at}
use Rattle.plan_units.specs.declared.unit.Unit.{Unit as PlanUnit}
use Rattle.plan_units.specs.declared.unit.Unit.TheVariants as unit
use Rattle.plan_units.specs.Agrees.{same_bytes, equal_bytes}
use Rattle.plan_units.specs.Facts.{some_passes}
use Rattle.conf_types.specs.declared.change.Change.{Change}
use Rattle.conf_types.specs.declared.change.Change.TheVariants as change
use Rattle.law_units.specs.Reach.{TouchesPort, IsStackEnd, Reaches, IsInReach}
use Rattle.law_units.specs.Reached.{is_other, touches_port, is_stack_end, reaches, is_reached}

-- ---- tests

differ : (a b : Bool) → is_other a b ≡ true → a ≡ b → ⊥
differ true true is same = true≢false (sym is)
differ true false is same = true≢false same
differ false true is same = true≢false (sym same)
differ false false is same = true≢false (sym is)

other : (a b : Bool) → (a ≡ b → ⊥) → is_other a b ≡ true
other true true h = absurd (h refl)
other true false h = refl
other false true h = refl
other false false h = absurd (h refl)

some_and : {A : Type 0} (p : A → Bool) (o : Option A) → option_map_or p o false ≡ true → IsSomeAnd o (λ x. p x ≡ true)
some_and p None is = true≢false (sym is)
some_and p (Some x) is = is

and_some : {A : Type 0} (p : A → Bool) (o : Option A) → IsSomeAnd o (λ x. p x ≡ true) → option_map_or p o false ≡ true
and_some p None is = absurd (is)
and_some p (Some x) is = is

any_of : {A : Type 0} (test : A → Bool) (xs : List A) (x : A) → Contains xs x → test x ≡ true → list_any test xs ≡ true
any_of test [] x (k, lt, is) passes = absurd (omega (arith, lt))
any_of test (y ∷ ys) x (zero, lt, is) passes = or_left (test y) (list_any test ys) (ap test is ∙ passes)
any_of test (y ∷ ys) x (suc k, lt, is) passes = or_right (test y) (list_any test ys) (any_of test ys x (k, omega (arith, lt), is) passes)

among : (xs : List ℕ) (n : ℕ) → is_among xs n ≡ true → Contains xs n
among xs n is = let f = some_passes (λ x. x == n) xs is in subst (Contains xs) (eqb-true f.0 n (f.1).passes) (f.1).within

module _ (conf : Configuration) (old new : State) (d : Dp) where
  -- ---- by the test

  port_told : (group : DpId) (vid : ℕ) (mac : Mac) (number : ℕ) → touches_port conf old new d group vid mac number ≡ true → TouchesPort conf old new d group vid mac number
  port_told group vid mac number is = elim (or_cases _ _ is) [
    | inl here ↦ elim (or_cases _ _ here) [
      | inl stood ↦ TouchesPort.stood (some_and (is_host_at d.id number) (host_by conf old.hosts group vid mac) stood)
      | inr stands ↦ TouchesPort.stands (some_and (is_host_at d.id number) (host_by conf new.hosts group vid mac) stands)
    ]
    | inr more ↦ elim (or_cases _ _ more) [
      | inl vlan ↦
          let p = and_parts _ _ vlan in
          let q = and_parts _ _ p.1 in
          TouchesPort.vlan (eqb-true group.0 (group_of conf d.id).0 p.0) q.0 (differ _ _ q.1)
      | inr table ↦ TouchesPort.table (differ _ _ table)
    ]
  ]

  port_tells : (group : DpId) (vid : ℕ) (mac : Mac) (number : ℕ) → TouchesPort conf old new d group vid mac number → touches_port conf old new d group vid mac number ≡ true
  port_tells group vid mac number (TouchesPort.stood is) = or_left _ _ (or_left _ _ (and_some (is_host_at d.id number) (host_by conf old.hosts group vid mac) is))
  port_tells group vid mac number (TouchesPort.stands is) = or_left _ _ (or_right _ _ (and_some (is_host_at d.id number) (host_by conf new.hosts group vid mac) is))
  port_tells group vid mac number (TouchesPort.vlan ours has differs) = or_right _ _ (or_left _ _ (and_from _ _ (eq-eqb group.0 (group_of conf d.id).0 ours) (and_from _ _ has (other _ _ differs))))
  port_tells group vid mac number (TouchesPort.table differs) = or_right _ _ (or_right _ _ (other _ _ differs))

  end_told : (dp : DpId) (port : ℕ) → is_stack_end conf old new d dp port ≡ true → IsStackEnd conf old new d dp port
  end_told dp port is =
      let p = and_parts _ _ is in
      record { ours = eqb-true (group_of conf dp).0 (group_of conf d.id).0 p.0; stack = some_and is_stack (port_at conf dp port) p.1 }

  end_tells : (dp : DpId) (port : ℕ) → IsStackEnd conf old new d dp port → is_stack_end conf old new d dp port ≡ true
  end_tells dp port e = and_from _ _ (eq-eqb (group_of conf dp).0 (group_of conf d.id).0 e.ours) (and_some is_stack (port_at conf dp port) e.stack)

  told : (c : Change) (u : PlanUnit) → reaches conf old new d c u ≡ true → Reaches conf old new d c u
  told (change.Host group vid mac) (unit.Host w address) is =
      let p = and_parts _ _ is in
      let q = and_parts _ _ p.1 in
      (eqb-true group.0 (group_of conf d.id).0 p.0, eqb-true vid w q.0, same_bytes mac.0 address.0 q.1)
  told (change.Host group vid mac) (unit.Port number) is = port_told group vid mac number is
  told (change.Port dp port) (unit.Vlan w) is = end_told dp port is
  told (change.Port dp port) (unit.Host w address) is = end_told dp port is
  told (change.Dp dp) (unit.Vlan w) is = eqb-true (group_of conf dp).0 (group_of conf d.id).0 is
  told (change.Dp dp) (unit.Host w address) is = eqb-true (group_of conf dp).0 (group_of conf d.id).0 is
  told (change.Neighbour group vid ip) (unit.Route w) is = let p = and_parts _ _ is in (eqb-true group.0 (group_of conf d.id).0 p.0, among (routing_set conf w) vid p.1)
  told c u is = absurd (true≢false (sym is))

  tells : (c : Change) (u : PlanUnit) → Reaches conf old new d c u → reaches conf old new d c u ≡ true
  tells (change.Host group vid mac) (unit.Host w address) r = and_from _ _ (eq-eqb group.0 (group_of conf d.id).0 r.0) (and_from _ _ (eq-eqb vid w r.1) (equal_bytes mac.0 address.0 r.2))
  tells (change.Host group vid mac) (unit.Port number) r = port_tells group vid mac number r
  tells (change.Port dp port) (unit.Vlan w) r = end_tells dp port r
  tells (change.Port dp port) (unit.Host w address) r = end_tells dp port r
  tells (change.Dp dp) (unit.Vlan w) r = eq-eqb (group_of conf dp).0 (group_of conf d.id).0 r
  tells (change.Dp dp) (unit.Host w address) r = eq-eqb (group_of conf dp).0 (group_of conf d.id).0 r
  tells (change.Neighbour group vid ip) (unit.Route w) r = and_from _ _ (eq-eqb group.0 (group_of conf d.id).0 r.0) (any_of (λ x. x == vid) (routing_set conf w) vid r.1 (eq-eqb vid vid refl))
  tells c u r = absurd (r)

  -- ---- by some change

  pub reach_told : (changes : List Change) (u : PlanUnit) → is_reached conf old new d changes u ≡ true → IsInReach conf old new d changes u
  reach_told changes u is = let f = some_passes (λ c. reaches conf old new d c u) changes is in record { by = f.0; named = (f.1).within; reaches = told f.0 u (f.1).passes }

  pub reach_tells : (changes : List Change) (u : PlanUnit) → IsInReach conf old new d changes u → is_reached conf old new d changes u ≡ true
  reach_tells changes u r = any_of (λ c. reaches conf old new d c u) changes r.by r.named (tells r.by u r.reaches)
