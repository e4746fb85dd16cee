-- How plans fit the connections, where those are changed and the plans brought up to what is known.
use Rattle.std.proofs.Common.{◌≡◌, ℕ, ◌<◌, ◌==◌, ◌||◌, Bool, true, false, cond, Option, Some, None, List, [], ◌∷◌, ◌++◌, map, filter, is_some, refl, inl, inr, sym, ap, subst, ◌∙◌, arith, eq-eqb, true≢false, if◌then◌else◌}
use Rattle.std.specs.List.{AllByRecursion}
use Rattle.std.specs.Option.{option_map, option_map_or}
use Rattle.std.proofs.lemmas.Bool.{cases_Bool, eqb-true}
use Rattle.net_base.specs.declared.numbers.DpId.{DpId}
use Rattle.conf_types.specs.declared.datapath.Dp.{Dp}
use Rattle.conf_types.specs.Configuration.{Configuration}
use Rattle.conf_types.specs.State.{State, is_running}
use Rattle.cold_start.specs.Cold.{cold_at}
use Rattle.warm_plan.specs.Kept.{Kept}
use Rattle.law_runs.specs.Members.{all_by, all_joined, all_mapped}
use Rattle.switch_session.specs.declared.state.Stage.{Stage}
use Rattle.switch_session.specs.declared.state.Stage.TheVariants.{Greeting, Features, Ports, Wiping, Running, Shut}
use Rattle.ctl_world.specs.declared.conns.Conn.{Conn}
use Rattle.ctl_world.specs.Connections.{change, conn_of, conn_with, is_of}
use Rattle.ctl_world.specs.World.{World, is_at_work, now, running, running_of, runs}
use Rattle.ctl_world.proofs.Numbered.{changed_other, changed_own, is_its, unlike}
use Rattle.ctl_settle.specs.declared.plans.Held.{Held}
use Rattle.ctl_settle.specs.Plans.{AreBrought, Fit, Fits, IsPlanOf, brought, has_run, is_for, opened, plan_for, renewed, runs_on, with_plan, with_plan_on, with_plans}
use Rattle.ctl_settle.proofs.Batches.{AreByNumber, found_all}
use Rattle.ctl_settle.proofs.PlanPlaces.{anew, plan_filtered, plan_pushed, plan_renewed}

-- ---- one connection is changed

-- the others and their plans stay
pub fit_one : (conns next : List Conn) (held left : List Held) (number : ℕ) → ((n : ℕ) → (n ≡ number → ⊥) → conn_with next n ≡ conn_with conns n)
    → ((n : ℕ) → (n ≡ number → ⊥) → plan_for left n ≡ plan_for held n) → Fits (conn_with next number) (plan_for left number) → Fit conns held → Fit next left
fit_one conns next held left number others plans own fit = λ n. by n
  where
    by : (n : ℕ) → Fits (conn_with next n) (plan_for left n)
    by n = elim (cases_Bool (n == number)) [
      | inl here ↦ subst (λ (k : ℕ). Fits (conn_with next k) (plan_for left k)) (sym (eqb-true n number here)) own
      | inr other ↦
          let differs = unlike n number other in
          subst (λ o. Fits o (plan_for left n)) (sym (others n differs)) (subst (λ p. Fits (conn_with conns n) p) (sym (plans n differs)) (fit n))
    ]

module _ (f : Conn → Conn) (same : (c : Conn) → (f c).number ≡ c.number) (number : ℕ) (conns : List Conn) (held : List Held) where
  pub fit_at : Fits (option_map f (conn_with conns number)) (plan_for held number) → Fit conns held → Fit (change number f conns) held
  fit_at own fit =
      fit_one conns (change number f conns) held held number (λ n differs. changed_other f same number n differs conns) (λ n differs. refl)
      (subst (λ o. Fits o (plan_for held number)) (sym (changed_own f same number conns)) own) fit

-- one that keeps what counts
pub record IsStill (f : Conn → Conn) : Type 0 where
  pub number : (c : Conn) → (f c).number ≡ c.number
  pub dp : (c : Conn) → (f c).dp ≡ c.dp
  pub stage : (c : Conn) → (f c).session.state.stage ≡ c.session.state.stage
  pub sent : (c : Conn) → (f c).sent ≡ c.sent

module _ (f : Conn → Conn) (still : IsStill f) where
  fits_changed : (o : Option Conn) (p : Option Kept) → Fits o p → Fits (option_map f o) p
  fits_changed None p fits = tt
  fits_changed (Some c) None (inl none) = inl (still.sent c ∙ none)
  fits_changed (Some c) None (inr shut) = inr (still.stage c ∙ shut)
  fits_changed (Some c) (Some p) is = record { sent = is.sent ∙ sym (still.sent c); dp = still.dp c ∙ is.dp; run = ap has_run (still.stage c) ∙ is.run }

  pub fit_changed : (number : ℕ) (conns : List Conn) (held : List Held) → Fit conns held → Fit (change number f conns) held
  fit_changed number conns held fit = fit_at f still.number number conns held (fits_changed (conn_with conns number) (plan_for held number) (fit number)) fit

-- ---- a connection by its number, and by its datapath

pub number_found : (conns : List Conn) (dp : DpId) (c : Conn) → AreByNumber conns → conn_of conns dp ≡ Some c → conn_with conns c.number ≡ Some c
number_found [] dp c ordered at = absurd (cc)
number_found (x ∷ xs) dp c ordered at =
    elim (cases_Bool (is_of dp x)) [
      | inl here ↦
          let e : Some x ≡ Some c = rw here at at in
          let same : x ≡ c = cc in
          ap (λ b. cond b (Some x) (conn_with xs c.number)) (eq-eqb x.number c.number (ap (λ (d : Conn). d.number) same)) ∙ e
      | inr other ↦
          let rest : conn_of xs dp ≡ Some c = rw other at at in
          let less : x.number < c.number = found_all (λ d. x.number < d.number) xs dp c ordered.0 rest in
          ap (λ b. cond b (Some x) (conn_with xs c.number)) (above x.number c.number less) ∙ number_found xs dp c ordered.1 rest
    ]
  where
    above : (a b : ℕ) → a < b → (a == b) ≡ false
    above a b less = elim (cases_Bool (a == b)) [ inl same ↦ absurd (omega (arith, less, eqb-true a b same)) | inr off ↦ off ]

dp_is : (o : Option DpId) (dp : DpId) → option_map_or (λ (d : DpId). d.0 == dp.0) o false ≡ true → o ≡ Some dp
dp_is None dp is = absurd (true≢false (sym is))
dp_is (Some d) dp is = let same = eqb-true d.0 dp.0 is in ap Some (λ i. record { 0 = same i })

pub its_dp : (conns : List Conn) (dp : DpId) (c : Conn) → conn_of conns dp ≡ Some c → c.dp ≡ Some dp
its_dp conns dp c at = dp_is c.dp dp (is_its conns dp c at)

-- ---- a datapath that runs

abbrev pub RunsOn : List Conn → DpId → Type 0
RunsOn conns dp = (c : Conn) → conn_of conns dp ≡ Some c → runs c.session.state.stage ≡ true

module _ (conns : List Conn) (dp : DpId) where
  abbrev ids : List Dp → List DpId
  ids dps = map (λ d. d.id) (filter (is_at_work conns) dps)

  runs_in : (dps : List Dp) → is_running (ids dps) dp ≡ true → RunsOn conns dp
  runs_in [] is = absurd (true≢false (sym is))
  runs_in (d ∷ ds) is =
      elim (cases_Bool (is_at_work conns d)) [
        | inl works ↦
            let both : ((d.id.0 == dp.0) || is_running (ids ds) dp) ≡ true = sym (ap (λ b. is_running (map (λ (e : Dp). e.id) (cond b (d ∷ filter (is_at_work conns) ds) (filter (is_at_work conns) ds))) dp) works) ∙ is in
            elim (cases_Bool (d.id.0 == dp.0)) [
              | inl here ↦
                  let no = eqb-true d.id.0 dp.0 here in
                  let same : d.id ≡ dp = λ i. record { 0 = no i } in
                  λ c at. subst (λ (o : Option Conn). option_map_or (λ (x : Conn). runs x.session.state.stage) o false ≡ true) (ap (conn_of conns) same ∙ at) works
              | inr other ↦ runs_in ds (sym (ap (λ b. b || is_running (ids ds) dp) other) ∙ both)
            ]
        | inr off ↦ runs_in ds (sym (ap (λ b. is_running (map (λ (e : Dp). e.id) (cond b (d ∷ filter (is_at_work conns) ds) (filter (is_at_work conns) ds))) dp) off) ∙ is)
      ]

pub running_runs : (conf : Configuration) (conns : List Conn) (dp : DpId) → is_running (running_of conf conns) dp ≡ true → RunsOn conns dp
running_runs conf conns dp is = runs_in conns dp conf.dps is

has_by_running : (s : Stage) → runs s ≡ true → has_run s ≡ true
has_by_running Greeting is = absurd (true≢false (sym is))
has_by_running Features is = absurd (true≢false (sym is))
has_by_running Ports is = absurd (true≢false (sym is))
has_by_running Wiping is = absurd (true≢false (sym is))
has_by_running Running is = refl
has_by_running Shut is = absurd (true≢false (sym is))

shut_by_idle : (s : Stage) → has_run s ≡ true → runs s ≡ false → s ≡ Shut
shut_by_idle Greeting is off = absurd (true≢false (sym is))
shut_by_idle Features is off = absurd (true≢false (sym is))
shut_by_idle Ports is off = absurd (true≢false (sym is))
shut_by_idle Wiping is off = absurd (true≢false (sym is))
shut_by_idle Running is off = absurd (true≢false off)
shut_by_idle Shut is off = refl

-- ---- those that don't run are dropped, the others renewed

fits_left : (o : Option Conn) (p : Option Kept) → Fits o p → Fits o (if option_map_or (λ (c : Conn). runs c.session.state.stage) o false then p else None)
fits_left None p fits = tt
fits_left (Some c) None fits = elim (runs c.session.state.stage) as (λ b. Fits (Some c) (if b then None else None)) [ true ↦ fits | false ↦ fits ]
fits_left (Some c) (Some p) is = by (runs c.session.state.stage) refl
  where
    by : (b : Bool) → runs c.session.state.stage ≡ b → Fits (Some c) (if b then Some p else None)
    by true on = is
    by false off = inr (shut_by_idle c.session.state.stage is.run off)

fits_renewed : (conf : Configuration) (state : State) (o : Option Conn) (p : Option Kept) → Fits o p → Fits o (option_map (anew conf state) p)
fits_renewed conf state None p fits = tt
fits_renewed conf state (Some c) None fits = fits
fits_renewed conf state (Some c) (Some p) is = record { sent = is.sent; dp = is.dp; run = is.run }

module _ (conf : Configuration) (state : State) (conns : List Conn) (held : List Held) where
  abbrev pub standing : List Held
  standing = map (renewed conf state) (filter (λ h. runs_on conns h.conn) held)

  pub plan_standing : (n : ℕ) → plan_for standing n ≡ option_map (anew conf state) (if runs_on conns n then plan_for held n else None)
  plan_standing n = plan_renewed conf state (filter (λ h. runs_on conns h.conn) held) n ∙ ap (option_map (anew conf state)) (plan_filtered (runs_on conns) held n)

  pub standing_fit : Fit conns held → Fit conns standing
  standing_fit fit = λ n.
      subst (λ p. Fits (conn_with conns n) p) (sym (plan_standing n))
      (fits_renewed conf state (conn_with conns n) (if runs_on conns n then plan_for held n else None) (fits_left (conn_with conns n) (plan_for held n) (fit n)))

  pub standing_open : (n : ℕ) → conn_with conns n ≡ None → plan_for standing n ≡ None
  standing_open n none =
      plan_standing n ∙ ap (λ (o : Option Conn). option_map (anew conf state) (if option_map_or (λ (c : Conn). runs c.session.state.stage) o false then plan_for held n else None)) none

  pub standing_fresh : (n : ℕ) (p : Kept) → plan_for standing n ≡ Some p → p.wanted ≡ cold_at conf state p.dp
  standing_fresh n p is = by (if runs_on conns n then plan_for held n else None) (sym (plan_standing n) ∙ is)
    where
      by : (o : Option Kept) → option_map (anew conf state) o ≡ Some p → p.wanted ≡ cold_at conf state p.dp
      by None e = absurd (cc)
      by (Some k) e = let same : anew conf state k ≡ p = cc in subst (λ (q : Kept). q.wanted ≡ cold_at conf state q.dp) same refl

-- ---- those that begin are added

module _ (conf : Configuration) (state : State) (conns : List Conn) where
  -- what is of those that were, and of the new one, is of all
  by_pushed : (P : Option Kept → Type 0) (was : Option Kept) (b : Bool) (new : Kept) → ((p : Kept) → was ≡ Some p → P (Some p)) → (was ≡ None → b ≡ true → P (Some new)) → (was ≡ None → b ≡ false → P None)
      → P (option_map_or (λ (p : Kept). Some p) was (cond b (Some new) None))
  by_pushed P (Some p) b new old made none = old p refl
  by_pushed P None true new old made none = made refl refl
  by_pushed P None false new old made none = none refl refl

  module _ (dp : DpId) (c : Conn) (at : conn_of conns dp ≡ Some c) (held : List Held) where
    abbrev it : Held
    it = record { conn = c.number; plan = opened conf state dp }

    abbrev more : List Held
    more = held ++ it ∷ []

    pub more_some : (n : ℕ) → is_some (plan_for held n) ≡ true → is_some (plan_for more n) ≡ true
    more_some n some =
        ap (λ (o : Option Kept). is_some o) (plan_pushed it held n)
        ∙ by_pushed (λ o. is_some o ≡ true) (plan_for held n) (is_for n it) it.plan (λ p is. refl) (λ none on. refl) (λ none off. sym (ap (λ (o : Option Kept). is_some o) none) ∙ some)

    pub more_own : is_some (plan_for more c.number) ≡ true
    more_own =
        ap (λ (o : Option Kept). is_some o) (plan_pushed it held c.number)
        ∙ by_pushed (λ o. is_some o ≡ true) (plan_for held c.number) (is_for c.number it) it.plan (λ p is. refl) (λ none on. refl)
        (λ none off. absurd (true≢false (sym (eq-eqb c.number c.number refl) ∙ off)))

    more_fresh : ((n : ℕ) (p : Kept) → plan_for held n ≡ Some p → p.wanted ≡ cold_at conf state p.dp) → (n : ℕ) (p : Kept) → plan_for more n ≡ Some p → p.wanted ≡ cold_at conf state p.dp
    more_fresh fresh n p is =
        by_pushed (λ o. o ≡ Some p → p.wanted ≡ cold_at conf state p.dp) (plan_for held n) (is_for n it) it.plan (λ q was e. fresh n p (was ∙ e))
        (λ none on e. let same : it.plan ≡ p = cc in subst (λ (q : Kept). q.wanted ≡ cold_at conf state q.dp) same refl) (λ none off e. absurd (cc)) (sym (plan_pushed it held n) ∙ is)

    module _ (ordered : AreByNumber conns) where
      more_open : (n : ℕ) → conn_with conns n ≡ None → plan_for held n ≡ None → plan_for more n ≡ None
      more_open n none plan =
          plan_pushed it held n
          ∙ by_pushed (λ o. o ≡ None) (plan_for held n) (is_for n it) it.plan (λ p is. sym is ∙ plan)
          (λ _ on. let there : conn_with conns n ≡ Some c = ap (conn_with conns) (sym (eqb-true c.number n on)) ∙ number_found conns dp c ordered at in absurd (cc)) (λ _ off. refl)

      module _ (run : RunsOn conns dp) (fit : Fit conns held) where
        none_sent : (o : Option Kept) → o ≡ None → Fits (Some c) o → c.sent ≡ []
        none_sent None is (inl none) = none
        none_sent None is (inr shut) = absurd (true≢false (sym (run c at) ∙ ap runs shut))
        none_sent (Some p) is fits = absurd (cc)

        own_plan : plan_for held c.number ≡ None → IsPlanOf c it.plan
        own_plan none = record {
          sent = sym (none_sent (plan_for held c.number) none (subst (λ o. Fits o (plan_for held c.number)) (number_found conns dp c ordered at) (fit c.number)));
          dp = its_dp conns dp c at;
          run = has_by_running c.session.state.stage (run c at);
        }

        more_fit : Fit conns more
        more_fit = λ n.
            subst (λ p. Fits (conn_with conns n) p) (sym (plan_pushed it held n))
            (by_pushed (λ p. Fits (conn_with conns n) p) (plan_for held n) (is_for n it) it.plan (λ p is. subst (λ q. Fits (conn_with conns n) q) is (fit n))
            (λ none on.
            let same : c.number ≡ n = eqb-true c.number n on in
            let there : conn_with conns n ≡ Some c = ap (conn_with conns) (sym same) ∙ number_found conns dp c ordered at in
            subst (λ o. Fits o (Some it.plan)) (sym there) (own_plan (ap (plan_for held) same ∙ none)))
            (λ none off. subst (λ q. Fits (conn_with conns n) q) none (fit n)))

  -- ---- by each datapath

  -- one is there already, or it is made
  by_plan : (P : List Held → Type 0) (dp : DpId) (held : List Held) → P held → ((c : Conn) → conn_of conns dp ≡ Some c → plan_for held c.number ≡ None → P (held ++ record { conn = c.number; plan = opened conf state dp } ∷ []))
      → P (with_plan conf state conns dp held)
  by_plan P dp held was made = by (conn_of conns dp) refl
    where
      on : (c : Conn) → conn_of conns dp ≡ Some c → (o : Option Kept) → plan_for held c.number ≡ o → P (if is_some o then held else held ++ record { conn = c.number; plan = opened conf state dp } ∷ [])
      on c at None none = made c at none
      on c at (Some p) some = was

      by : (o : Option Conn) → conn_of conns dp ≡ o → P (option_map_or (with_plan_on conf state conns dp held) o held)
      by None none = was
      by (Some c) at = on c at (plan_for held c.number) refl

  with_some : (dp : DpId) (held : List Held) (n : ℕ) → is_some (plan_for held n) ≡ true → is_some (plan_for (with_plan conf state conns dp held) n) ≡ true
  with_some dp held n some = by_plan (λ hs. is_some (plan_for hs n) ≡ true) dp held some (λ c at none. more_some dp c at held n some)

  with_own : (dp : DpId) (held : List Held) (c : Conn) → conn_of conns dp ≡ Some c → is_some (plan_for (with_plan conf state conns dp held) c.number) ≡ true
  with_own dp held c at =
      subst (λ (o : Option Conn). is_some (plan_for (option_map_or (with_plan_on conf state conns dp held) o held) c.number) ≡ true) (sym at) (on (plan_for held c.number) refl)
    where
      on : (o : Option Kept) → plan_for held c.number ≡ o → is_some (plan_for (if is_some o then held else held ++ record { conn = c.number; plan = opened conf state dp } ∷ []) c.number) ≡ true
      on None none = more_own dp c at held
      on (Some p) some = ap (λ (o : Option Kept). is_some o) some

  plans_some : (dps : List DpId) (held : List Held) (n : ℕ) → is_some (plan_for held n) ≡ true → is_some (plan_for (with_plans conf state conns dps held) n) ≡ true
  plans_some [] held n some = some
  plans_some (x ∷ dps) held n some = plans_some dps (with_plan conf state conns x held) n (with_some x held n some)

  pub plans_there : (dps : List DpId) (held : List Held) (dp : DpId) → is_running dps dp ≡ true → (c : Conn) → conn_of conns dp ≡ Some c → is_some (plan_for (with_plans conf state conns dps held) c.number) ≡ true
  plans_there [] held dp is c at = absurd (true≢false (sym is))
  plans_there (x ∷ dps) held dp is c at =
      elim (cases_Bool (x.0 == dp.0)) [
        | inl here ↦
            let no = eqb-true x.0 dp.0 here in
            let same : x ≡ dp = λ i. record { 0 = no i } in
            plans_some dps (with_plan conf state conns x held) c.number (with_own x held c (ap (conn_of conns) same ∙ at))
        | inr other ↦ plans_there dps (with_plan conf state conns x held) dp (sym (ap (λ b. b || is_running dps dp) other) ∙ is) c at
      ]

  module _ (ordered : AreByNumber conns) where
    pub plans_open : (dps : List DpId) (held : List Held) (n : ℕ) → conn_with conns n ≡ None → plan_for held n ≡ None → plan_for (with_plans conf state conns dps held) n ≡ None
    plans_open [] held n none plan = plan
    plans_open (x ∷ dps) held n none plan =
        plans_open dps (with_plan conf state conns x held) n none (by_plan (λ hs. plan_for hs n ≡ None) x held plan (λ c at _. more_open x c at held ordered n none plan))

    pub plans_fresh : (dps : List DpId) (held : List Held) → ((n : ℕ) (p : Kept) → plan_for held n ≡ Some p → p.wanted ≡ cold_at conf state p.dp)
        → (n : ℕ) (p : Kept) → plan_for (with_plans conf state conns dps held) n ≡ Some p → p.wanted ≡ cold_at conf state p.dp
    plans_fresh [] held fresh = fresh
    plans_fresh (x ∷ dps) held fresh =
        plans_fresh dps (with_plan conf state conns x held)
        (by_plan (λ hs. (n : ℕ) (p : Kept) → plan_for hs n ≡ Some p → p.wanted ≡ cold_at conf state p.dp) x held fresh (λ c at none. more_fresh x c at held fresh))

    pub plans_fit : (dps : List DpId) (held : List Held) → AllByRecursion (RunsOn conns) dps → Fit conns held → Fit conns (with_plans conf state conns dps held)
    plans_fit [] held run fit = fit
    plans_fit (x ∷ dps) held run fit =
        plans_fit dps (with_plan conf state conns x held) run.1 (by_plan (λ hs. Fit conns hs) x held fit (λ c at none. more_fit x c at held ordered run.0 fit))

-- ---- brought up to what is known

module _ (conf : Configuration) (state : State) where
  abbrev IsCurrent : Held → Type 0
  IsCurrent h = (h.plan.conf ≡ conf) × (h.plan.state ≡ state)

  standing_current : (conns : List Conn) (held : List Held) → AllByRecursion IsCurrent (standing conf state conns held)
  standing_current conns held =
      let kept = filter (λ (h : Held). runs_on conns h.conn) held in
      all_mapped IsCurrent (renewed conf state) kept (all_by (λ h. IsCurrent (renewed conf state h)) kept (λ h _. (refl, refl)))

  plans_current : (conns : List Conn) (dps : List DpId) (held : List Held) → AllByRecursion IsCurrent held → AllByRecursion IsCurrent (with_plans conf state conns dps held)
  plans_current conns [] held all = all
  plans_current conns (x ∷ dps) held all =
      plans_current conns dps (with_plan conf state conns x held)
      (by_plan conf state conns (λ hs. AllByRecursion IsCurrent hs) x held all
      (λ c at none. all_joined IsCurrent held (record { conn = c.number; plan = opened conf state x } ∷ []) all ((refl, refl), tt)))

-- ---- all of them

all_run : (conns : List Conn) (dps : List Dp) → AllByRecursion (RunsOn conns) (map (λ d. d.id) (filter (is_at_work conns) dps))
all_run conns [] = tt
all_run conns (d ∷ ds) = by (is_at_work conns d) refl (all_run conns ds)
  where
    by : (b : Bool) → is_at_work conns d ≡ b → AllByRecursion (RunsOn conns) (map (λ (e : Dp). e.id) (filter (is_at_work conns) ds))
        → AllByRecursion (RunsOn conns) (map (λ (e : Dp). e.id) (cond b (d ∷ filter (is_at_work conns) ds) (filter (is_at_work conns) ds)))
    by true works rest = ((λ c at. subst (λ (o : Option Conn). option_map_or (λ (x : Conn). runs x.session.state.stage) o false ≡ true) at works), rest)
    by false off rest = rest

pub all_brought : (w : World) (held : List Held) → AreByNumber w.conns → Fit w.conns held → AreBrought w (brought w held)
all_brought w held ordered fit =
    let conf = w.conf in
    let state = now w in
    let first = standing conf state w.conns held in
    record {
      held = record {
        fit = plans_fit conf state w.conns ordered (running w) first (all_run w.conns conf.dps) (standing_fit conf state w.conns held fit);
        there = λ dp runs c at. plans_there conf state w.conns (running w) first dp runs c at;
        shut = λ n none. plans_open conf state w.conns ordered (running w) first n none (standing_open conf state w.conns held n none);
      };
      fresh = plans_fresh conf state w.conns ordered (running w) first (standing_fresh conf state w.conns held);
      current = plans_current conf state w.conns (running w) first (standing_current conf state w.conns held);
    }
