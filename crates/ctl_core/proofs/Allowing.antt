-- What a settling counts is within what it allows.
use Rattle.std.proofs.Common.{◌≡◌, ℕ, ◌+◌, ◌≤◌, Bool, true, false, cond, Option, Some, None, List, [], ◌∷◌, filter, length, is_some, refl, inl, inr, sym, ap, subst, ◌∙◌, arith, eqb-true, true≢false, if◌then◌else◌}
use Rattle.std.specs.Prelude.{Contains}
use Rattle.std.specs.List.{AllByRecursion, find}
use Rattle.std.specs.Option.{option_map, option_map_or}
use Rattle.std.proofs.lemmas.Bool.{and_parts, cases_Bool}
use Rattle.std.proofs.lemmas.Option.{none-some, same_Some}
use Rattle.net_base.specs.declared.numbers.DpId.{DpId}
use Rattle.conf_types.specs.declared.change.Change.{Change}
use Rattle.conf_types.specs.Changes.{AreNamed}
use Rattle.conf_types.specs.Configuration.{Configuration, dp_with}
use Rattle.conf_types.specs.State.{IsValidState, State, is_running}
use Rattle.cold_start.specs.Cold.{units_at, units_of}
use Rattle.plan_units.specs.declared.unit.Unit.{Unit as PlanUnit}
use Rattle.warm_plan.specs.Kept.{Kept, reached_at}
use Rattle.law_names.specs.Differences.{differences}
use Rattle.law_names.specs.Differing.{differs}
use Rattle.law_names.proofs.Counted.{bounded}
use Rattle.law_runs.specs.Members.{of_all}
use Rattle.law_units.specs.Reached.{is_reached}
use Rattle.plan_units.specs.Facts.{found}
use Rattle.ctl_world.specs.declared.conns.Conn.{Conn}
use Rattle.ctl_world.specs.Connections.{conn_of, conn_with, has_number}
use Rattle.ctl_world.specs.World.{World, now, running}
use Rattle.ctl_settle.specs.declared.plans.Held.{Held}
use Rattle.ctl_settle.specs.Counted.{again, counted, counted_on, whole, works}
use Rattle.ctl_settle.specs.Plans.{AreHeld, Fit, Fits, IsPlanOf, is_for, plan_for}
use Rattle.ctl_settle.specs.Touched.{MayDiffer}
use Rattle.ctl_settle.proofs.Batches.{AreByNumber}
use Rattle.ctl_settle.proofs.Counting.{each_found, joined}
use Rattle.ctl_core.specs.Allowed.{allowed, allowed_anew, allowed_of, allowed_on, anew_on, ran, reached}
use Rattle.ctl_core.proofs.Unmoved.{reach_same}

-- ---- no more than all

fewer : (t : PlanUnit → Bool) (us : List PlanUnit) → length (filter t us) ≤ length us
fewer t [] = omega arith
fewer t (u ∷ us) = elim (t u) as (λ b. length (cond b (u ∷ filter t us) (filter t us)) ≤ length (u ∷ us)) [ true ↦ omega (arith, fewer t us) | false ↦ omega (arith, fewer t us) ]

reached_within : (conf : Configuration) (old new : State) (id : DpId) (changes : List Change) → length (reached_at conf old new id changes) ≤ length (units_at conf new id)
reached_within conf old new id changes =
    elim (dp_with conf.dps id) as (λ o. length (option_map_or (λ d. filter (is_reached conf old new d changes) (units_of conf new d)) o []) ≤ length (option_map_or (units_of conf new) o [])) [
      | Some d ↦ fewer (is_reached conf old new d changes) (units_of conf new d)
      | None ↦ omega arith
    ]

again_within : (conf : Configuration) (state : State) (may : MayDiffer) (p : Kept) → again conf state may p ≤ whole conf state p.dp
again_within conf state None p = omega arith
again_within conf state (Some changes) p = omega (arith, reached_within conf p.state state p.dp changes)

-- what differs is within all differences
differing_within : (conf : Configuration) (old new : State) (id : DpId) (changes : List Change) → AllByRecursion (λ c. differs conf old new c ≡ true) changes
    → length (reached_at conf old new id changes) ≤ length (reached_at conf old new id (differences conf old new))
differing_within conf old new id changes all =
    elim (dp_with conf.dps id) as (λ o. length (option_map_or (λ d. filter (is_reached conf old new d changes) (units_of conf new d)) o [])
    ≤ length (option_map_or (λ d. filter (is_reached conf old new d (differences conf old new)) (units_of conf new d)) o [])) [
      | Some d ↦ bounded conf old new d changes (units_of conf new d) (λ c within. of_all (λ x. differs conf old new x ≡ true) changes all c within)
      | None ↦ omega arith
    ]

-- ---- plans that were brought up to the settling before

-- a plan's state is a valid one of the configuration, from which nothing differs
pub record IsOf (was : World) (p : Kept) : Type 0 where
  pub valid : IsValidState was.conf p.state
  pub named : AreNamed was.conf p.state (now was) []

abbrev pub AreOf : World → List Held → Type 0
AreOf was held = AllByRecursion (λ h. IsOf was h.plan) held

is_among : (number : ℕ) (held : List Held) (p : Kept) → plan_for held number ≡ Some p → (h : Held) × (Contains held h × (h.plan ≡ p))
is_among number held p is = by (find (is_for number) held) refl is
  where
    by : (o : Option Held) → find (is_for number) held ≡ o → option_map (λ (h : Held). h.plan) o ≡ Some p → (h : Held) × (Contains held h × (h.plan ≡ p))
    by None at e = absurd (none-some p e)
    by (Some h) at e = (h, ((found (is_for number) held h at).within, same_Some h.plan p e))

module _ (was is : World) (conf : is.conf ≡ was.conf) (valid : IsValidState was.conf (now was)) (changes : List Change)
    (all : AllByRecursion (λ c. differs is.conf (now was) (now is) c ≡ true) changes) where
  -- as from what was known
  again_reached : (p : Kept) → IsOf was p → again is.conf (now is) (Some changes) p ≤ reached was is p.dp
  again_reached p of =
      let a = ap length (reach_same was.conf p.state (now was) of.valid valid of.named (now is) p.dp changes) in
      let b : length (reached_at is.conf p.state (now is) p.dp changes) ≡ length (reached_at is.conf (now was) (now is) p.dp changes) =
      subst (λ (c : Configuration). length (reached_at c p.state (now is) p.dp changes) ≡ length (reached_at c (now was) (now is) p.dp changes)) (sym conf) a in
      let w = differing_within is.conf (now was) (now is) p.dp changes all in
      omega (arith, b, w)

  module _ (held : List Held) (are : AreHeld was held) (fit : Fit is.conns held) (of : AreOf was held) where
    some_plan : (c : Conn) (p : Kept) → plan_for held c.number ≡ Some p → c.dp ≡ Some p.dp → again is.conf (now is) (Some changes) p ≤ allowed_on was is c
    some_plan c p at dp =
        let among = is_among c.number held p at in
        let its : IsOf was p = subst (IsOf was) among.1.1 (of_all (λ (h : Held). IsOf was h.plan) held of among.0 among.1.0) in
        let here : allowed_on was is c ≡ allowed_of was is c p.dp = ap (λ (o : Option DpId). option_map_or (allowed_of was is c) o 0) dp in
        elim (cases_Bool (ran was is p.dp c)) [
          | inl on ↦
              let e : allowed_of was is c p.dp ≡ reached was is p.dp = ap (λ (b : Bool). if b then reached was is p.dp else whole is.conf (now is) p.dp) on in
              let a = again_reached p its in
              omega (arith, here, e, a)
          | inr off ↦
              let e : allowed_of was is c p.dp ≡ whole is.conf (now is) p.dp = ap (λ (b : Bool). if b then reached was is p.dp else whole is.conf (now is) p.dp) off in
              let a = again_within is.conf (now is) (Some changes) p in
              omega (arith, here, e, a)
        ]

    -- one that ran on the connection has its plan
    ran_plan : (c : Conn) (dp : DpId) → ran was is dp c ≡ true → is_some (plan_for held c.number) ≡ true
    ran_plan c dp on = by (conn_of was.conns dp) refl (and_parts (is_running (running was) dp) (option_map_or (has_number c.number) (conn_of was.conns dp) false) on).1
      where
        by : (o : Option Conn) → conn_of was.conns dp ≡ o → option_map_or (has_number c.number) o false ≡ true → is_some (plan_for held c.number) ≡ true
        by None at it = absurd (true≢false (sym it))
        by (Some d) at it =
            subst (λ (n : ℕ). is_some (plan_for held n) ≡ true) (eqb-true d.number c.number it)
            (are.there dp (and_parts (is_running (running was) dp) (option_map_or (has_number c.number) (conn_of was.conns dp) false) on).0 d at)

    never_ran : (c : Conn) (dp : DpId) → plan_for held c.number ≡ None → ran was is dp c ≡ false
    never_ran c dp none = elim (cases_Bool (ran was is dp c)) [
      | inl on ↦ absurd (true≢false (sym (ran_plan c dp on) ∙ ap (λ (o : Option Kept). is_some o) none))
      | inr off ↦ off
    ]

    none_kept : (c : Conn) → plan_for held c.number ≡ None → option_map_or (whole is.conf (now is)) c.dp 0 ≤ allowed_on was is c
    none_kept c none = by c.dp
      where
        by : (o : Option DpId) → option_map_or (whole is.conf (now is)) o 0 ≤ option_map_or (allowed_of was is c) o 0
        by None = omega arith
        by (Some dp) =
            let e : allowed_of was is c dp ≡ whole is.conf (now is) dp = ap (λ (b : Bool). if b then reached was is dp else whole is.conf (now is) dp) (never_ran c dp none) in
            omega (arith, e)

    its_plan : (c : Conn) (p : Kept) → conn_with is.conns c.number ≡ Some c → plan_for held c.number ≡ Some p → IsPlanOf c p
    its_plan c p there at = subst (λ (q : Option Kept). Fits (Some c) q) at (subst (λ (o : Option Conn). Fits o (plan_for held c.number)) there (fit c.number))

    one_allowed : (c : Conn) → conn_with is.conns c.number ≡ Some c → counted_on is.conf (now is) (Some changes) held c ≤ allowed_on was is c
    one_allowed c there = by (plan_for held c.number) refl
      where
        by : (o : Option Kept) → plan_for held c.number ≡ o → option_map_or (again is.conf (now is) (Some changes)) o (option_map_or (whole is.conf (now is)) c.dp 0) ≤ allowed_on was is c
        by None none = none_kept c none
        by (Some p) at = some_plan c p at (its_plan c p there at).dp

    each_allowed : (cs : List Conn) → AllByRecursion (λ c. conn_with is.conns c.number ≡ Some c) cs
        → AllByRecursion (λ c. works c ≡ true → counted_on is.conf (now is) (Some changes) held c + 0 ≤ allowed_on was is c) cs
    each_allowed [] all = tt
    each_allowed (c ∷ cs) all = (λ on. let one = one_allowed c all.0 in omega (arith, one), each_allowed cs all.1)

    pub named_within : AreByNumber is.conns → counted is (Some changes) held ≤ allowed was is
    named_within ordered =
        let all = joined (counted_on is.conf (now is) (Some changes) held) (λ c. 0) (allowed_on was is) is.conns (each_allowed is.conns (each_found is.conns ordered)) in
        omega (arith, all)

-- ---- where anything may differ

module _ (is : World) (held : List Held) (fit : Fit is.conns held) where
  one_anew : (c : Conn) → conn_with is.conns c.number ≡ Some c → counted_on is.conf (now is) None held c ≤ anew_on is c
  one_anew c there = by (plan_for held c.number) (subst (λ (o : Option Conn). Fits o (plan_for held c.number)) there (fit c.number))
    where
      by : (o : Option Kept) → Fits (Some c) o → option_map_or (again is.conf (now is) None) o (option_map_or (whole is.conf (now is)) c.dp 0) ≤ option_map_or (whole is.conf (now is)) c.dp 0
      by None fits = omega arith
      by (Some p) fits = let e : option_map_or (whole is.conf (now is)) c.dp 0 ≡ whole is.conf (now is) p.dp = ap (λ (o : Option DpId). option_map_or (whole is.conf (now is)) o 0) fits.dp in omega (arith, e)

  each_anew : (cs : List Conn) → AllByRecursion (λ c. conn_with is.conns c.number ≡ Some c) cs
      → AllByRecursion (λ c. works c ≡ true → counted_on is.conf (now is) None held c + 0 ≤ anew_on is c) cs
  each_anew [] all = tt
  each_anew (c ∷ cs) all = (λ on. let one = one_anew c all.0 in omega (arith, one), each_anew cs all.1)

  pub anew_within : AreByNumber is.conns → counted is None held ≤ allowed_anew is
  anew_within ordered =
      let all = joined (counted_on is.conf (now is) None held) (λ c. 0) (anew_on is) is.conns (each_anew is.conns (each_found is.conns ordered)) in
      omega (arith, all)
