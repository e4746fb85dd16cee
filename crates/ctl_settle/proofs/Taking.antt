-- What asks and batches leave of how the plans fit.
use Rattle.std.proofs.Common.{◌≡◌, ℕ, ◌==◌, Bool, true, false, Option, Some, None, List, [], ◌∷◌, is_some, refl, inl, inr, sym, ap, subst, ◌∙◌, eqb-true, true≢false, if◌then◌else◌}
use Rattle.std.specs.Prelude.{◌↔◌, IsSomeAnd}
use Rattle.std.specs.Option.{option_map, option_map_or}
use Rattle.std.proofs.lemmas.Bool.{cases_Bool}
use Rattle.std.proofs.lemmas.Option.{same_Some}
use Rattle.net_base.specs.declared.numbers.DpId.{DpId}
use Rattle.of_match.specs.declared.entry.Entry.{Entry}
use Rattle.of_match.specs.FlowTables.{IsInKeyOrder}
use Rattle.of13_codec.specs.declared.message.Message.{Message}
use Rattle.conf_types.specs.declared.datapath.Dp.{Dp}
use Rattle.conf_types.specs.Configuration.{Configuration}
use Rattle.conf_types.specs.State.{State, is_running}
use Rattle.cold_start.specs.Cold.{cold, cold_at}
use Rattle.plan_difference.specs.Difference.{difference}
use Rattle.warm_plan.specs.Kept.{Kept}
use Rattle.neighbour_resolve.specs.Asks.{asks}
use Rattle.ctl_world.specs.declared.conns.Conn.{Conn}
use Rattle.ctl_world.specs.Connections.{change, conn_of, conn_with, with_said}
use Rattle.ctl_world.specs.Saying.{say}
use Rattle.ctl_world.specs.World.{World, now, running}
use Rattle.ctl_world.proofs.Numbered.{changed_other, changed_own, unlike}
use Rattle.ctl_settle.specs.declared.plans.Held.{Held}
use Rattle.ctl_settle.specs.Plans.{AreBrought, AreCurrent, AreFresh, Fit, Fits, IsPlanOf, IsReady, has_run, is_for, plan_for, taken, taken_on, took, with_batch}
use Rattle.ctl_settle.specs.Rest.{AreInOrder}
use Rattle.ctl_settle.specs.Settling.{ask_all, batch, batch_on, say_batch, wanted}
use Rattle.ctl_settle.proofs.Asks.{asks_kept}
use Rattle.ctl_settle.proofs.Batches.{AreByNumber, IsNoted, found_all, noted_case, said_quiet, say_step, step_conf, step_conns, step_none, step_now, step_other, step_own}
use Rattle.ctl_settle.proofs.Fitting.{IsStill, fit_changed, fit_one, its_dp, number_found}
use Rattle.ctl_settle.proofs.PlanPlaces.{all_taken, taken_other, taken_own, taken_some}
use Rattle.ctl_settle.proofs.Waiting.{wanted_order}

-- ---- asks

said_still : IsStill with_said
said_still = record { number = λ c. refl; dp = λ c. refl; stage = λ c. refl; sent = λ c. refl }

module _ (held : List Held) where
  abbrev FitIn : World → Type 0
  FitIn w = Fit w.conns held

  pub said_fit : (number : ℕ) (m : Message) (w : World) → FitIn w → FitIn (say number m w)
  said_fit number m w fit =
      subst (λ (cs : List Conn). Fit cs held) (sym (step_conns number with_said said_quiet w (say number m w) (say_step number m w))) (fit_changed with_said said_still number w.conns held fit)

  pub asks_fit : (w : World) → FitIn w → FitIn (ask_all w)
  asks_fit w fit = asks_kept FitIn said_fit (λ v is. is) w fit

-- ---- a plan is taken

-- the one connection has what the plan wanted, and all else is as it was
pub record IsTaken (w v : World) (c d : Conn) (entries : List Entry) : Type 0 where
  pub conf : v.conf ≡ w.conf
  pub state : now v ≡ now w
  pub others : (n : ℕ) → (n ≡ c.number → ⊥) → conn_with v.conns n ≡ conn_with w.conns n
  pub own : conn_with v.conns c.number ≡ Some d
  pub sent : d.sent ≡ entries
  pub dp : d.dp ≡ c.dp
  pub stage : d.session.state.stage ≡ c.session.state.stage
  pub found : (dp : DpId) (e : Conn) → conn_of v.conns dp ≡ Some e → (b : Conn) × ((conn_of w.conns dp ≡ Some b) × (b.number ≡ e.number))

taken_current : (w v : World) → v.conf ≡ w.conf → now v ≡ now w → (number : ℕ) (held : List Held) → AreCurrent w held → AreCurrent v (taken number held)
taken_current w v conf state number [] all = tt
taken_current w v conf state number (h ∷ hs) all = by (is_for number h) (taken_current w v conf state number hs all.1) (others hs all.1)
  where
    here : (h.plan.conf ≡ v.conf) × (h.plan.state ≡ now v)
    here = (all.0.0 ∙ sym conf, all.0.1 ∙ sym state)

    others : (hs : List Held) → AreCurrent w hs → AreCurrent v hs
    others [] all = tt
    others (x ∷ xs) all = ((all.0.0 ∙ sym conf, all.0.1 ∙ sym state), others xs all.1)

    by : (b : Bool) → AreCurrent v (taken number hs) → AreCurrent v hs → AreCurrent v (if b then took h ∷ hs else h ∷ taken number hs)
    by true more rest = (here, rest)
    by false more rest = (here, more)

module _ (w : World) (held : List Held) (ordered : AreByNumber w.conns) (brought : AreBrought w held) (c : Conn) (p : Kept) (there : conn_with w.conns c.number ≡ Some c) (has : plan_for held c.number ≡ Some p) where
  abbrev left : List Held
  left = taken c.number held

  own_left : plan_for left c.number ≡ Some (all_taken p)
  own_left = taken_own c.number held ∙ ap (option_map all_taken) has

  pub plan_is : IsPlanOf c p
  plan_is = subst (λ q. Fits (Some c) q) has (subst (λ o. Fits o (plan_for held c.number)) there (brought.held.fit c.number))

  module _ (v : World) (d : Conn) (it : IsTaken w v c d p.wanted) where
    taken_fit : Fit v.conns left
    taken_fit =
        let is : IsPlanOf d (all_taken p) = record { sent = sym it.sent; dp = it.dp ∙ plan_is.dp; run = ap has_run it.stage ∙ plan_is.run } in
        fit_one w.conns v.conns held left c.number it.others (λ n differs. taken_other c.number n differs held)
        (subst (λ o. Fits o (plan_for left c.number)) (sym it.own) (subst (λ q. Fits (Some d) q) (sym own_left) is)) brought.held.fit

    taken_there : (dp : DpId) → is_running (running v) dp ≡ true → (e : Conn) → conn_of v.conns dp ≡ Some e → is_some (plan_for left e.number) ≡ true
    taken_there dp runs e at =
        let was = it.found dp e at in
        let some : is_some (plan_for held was.0.number) ≡ true = brought.held.there dp (ap (λ (s : State). is_running s.running dp) (sym it.state) ∙ runs) was.0 was.1.0 in
        taken_some c.number e.number held ∙ ap (λ (n : ℕ). is_some (plan_for held n)) (sym was.1.1) ∙ some

    taken_open : (n : ℕ) → conn_with v.conns n ≡ None → plan_for left n ≡ None
    taken_open n none = elim (cases_Bool (n == c.number)) [
      | inl here ↦ let e : conn_with v.conns n ≡ Some d = ap (conn_with v.conns) (eqb-true n c.number here) ∙ it.own in absurd (cc)
      | inr other ↦
          let differs = unlike n c.number other in
          taken_other c.number n differs held ∙ brought.held.shut n (sym (it.others n differs) ∙ none)
    ]

    taken_fresh : AreFresh v left
    taken_fresh n q is = elim (cases_Bool (n == c.number)) [
      | inl here ↦
          let e : Some (all_taken p) ≡ Some q = sym own_left ∙ ap (plan_for left) (sym (eqb-true n c.number here)) ∙ is in
          let same : all_taken p ≡ q = same_Some (all_taken p) q e in
          subst (λ (k : Kept). k.wanted ≡ cold_at v.conf (now v) k.dp) same (brought.fresh c.number p has ∙ again p.dp)
      | inr other ↦ brought.fresh n q (sym (taken_other c.number n (unlike n c.number other) held) ∙ is) ∙ again q.dp
    ]
      where
        again : (dp : DpId) → cold_at w.conf (now w) dp ≡ cold_at v.conf (now v) dp
        again dp = λ i. cold_at (sym it.conf i) (sym it.state i) dp

    pub taken_brought : AreBrought v left
    taken_brought = record {
      held = record { fit = taken_fit; there = taken_there; shut = taken_open };
      fresh = taken_fresh;
      current = taken_current w v it.conf it.state c.number held brought.current;
    }

-- ---- a batch

module _ (cold_order : (conf : Configuration) (state : State) (d : Dp) → IsInKeyOrder (cold conf state d))
    (equal : (from to : List Entry) → IsInKeyOrder from → IsInKeyOrder to → (difference from to ≡ []) ↔ (from ≡ to)) (dp : DpId) (w : World) (held : List Held) (order : AreInOrder w) (brought : AreBrought w held) where
  module _ (c : Conn) (at : conn_of w.conns dp ≡ Some c) (p : Kept) (has : plan_for held c.number ≡ Some p) where
    there : conn_with w.conns c.number ≡ Some c
    there = number_found w.conns dp c order.numbers at

    is : IsPlanOf c p
    is = plan_is w held order.numbers brought c p there has

    pub wants : p.wanted ≡ wanted w dp
    wants = brought.fresh c.number p has ∙ ap (cold_at w.conf (now w)) (same_Some p.dp dp (sym is.dp ∙ its_dp w.conns dp c at))

    nothing_taken : c.sent ≡ wanted w dp → AreBrought w (taken c.number held)
    nothing_taken same =
        taken_brought w held order.numbers brought c p there has w c
        (record {
          conf = refl;
          state = refl;
          others = λ n differs. refl;
          own = there;
          sent = same ∙ sym wants;
          dp = refl;
          stage = refl;
          found = λ id e found. (e, (found, refl));
        })

    module _ (v : World) (said : IsNoted c.number (wanted w dp) w v) where
      abbrev f : Conn → Conn
      f = said.f

      found : (id : DpId) (e : Conn) → conn_of v.conns id ≡ Some e → (b : Conn) × ((conn_of w.conns id ≡ Some b) × (b.number ≡ e.number))
      found id e at_e = by (conn_of w.conns id) refl
        where
          by : (o : Option Conn) → conn_of w.conns id ≡ o → (b : Conn) × ((conn_of w.conns id ≡ Some b) × (b.number ≡ e.number))
          by None none = let n = step_none c.number f said.quiet w v said.step id none in absurd (cc)
          by (Some b) some =
              elim (cases_Bool (b.number == c.number)) [
                | inl here ↦
                    let own = step_own c.number f said.quiet w v said.step id b order.numbers some (eqb-true b.number c.number here) in
                    let same : f b ≡ e = same_Some (f b) e (sym own ∙ at_e) in
                    (b, (some, sym (said.quiet.number b) ∙ ap (λ (x : Conn). x.number) same))
                | inr other ↦
                    let rest = step_other c.number f said.quiet w v said.step id b some (unlike b.number c.number other) in
                    (b, (some, ap (λ (x : Conn). x.number) (same_Some b e (sym rest ∙ at_e))))
              ]

      said_taken : AreBrought v (taken c.number held)
      said_taken =
          let conns : v.conns ≡ change c.number f w.conns = step_conns c.number f said.quiet w v said.step in
          taken_brought w held order.numbers brought c p there has v (f c)
          (record {
            conf = step_conf c.number f said.quiet w v said.step;
            state = step_now c.number f said.quiet w v said.step;
            others = λ n differs. ap (λ (cs : List Conn). conn_with cs n) conns ∙ changed_other f said.quiet.number c.number n differs w.conns;
            own = ap (λ (cs : List Conn). conn_with cs c.number) conns ∙ changed_own f said.quiet.number c.number w.conns ∙ ap (option_map f) there;
            sent = said.noted c ∙ sym wants;
            dp = said.quiet.dp c;
            stage = said.quiet.stage c;
            found = found;
          })

    not_awaited : AreBrought (say_batch c.number (difference c.sent (wanted w dp)) (wanted w dp) w) (taken c.number held)
    not_awaited =
        let keys : IsInKeyOrder c.sent = found_all (λ x. IsInKeyOrder x.sent) w.conns dp c order.keys at in
        elim (noted_case c.number (difference c.sent (wanted w dp)) (wanted w dp) w) [
          | inl nothing ↦
              subst (λ (v : World). AreBrought v (taken c.number held)) (sym nothing.1)
              (nothing_taken ((equal c.sent (wanted w dp) keys (wanted_order cold_order w dp)).0 nothing.0))
          | inr said ↦ said_taken (say_batch c.number (difference c.sent (wanted w dp)) (wanted w dp) w) said
        ]

    pub ready_on : IsSomeAnd (plan_for held c.number) (λ q. (q.sent ≡ c.sent) × (q.wanted ≡ wanted w dp))
    ready_on = subst (λ o. IsSomeAnd o (λ (q : Kept). (q.sent ≡ c.sent) × (q.wanted ≡ wanted w dp))) (sym has) (is.sent, wants)

  module _ (runs : is_running (running w) dp ≡ true) where
    -- the plan that is there
    by_there : (P : Type 0) (c : Conn) → conn_of w.conns dp ≡ Some c → ((p : Kept) → plan_for held c.number ≡ Some p → P) → P
    by_there P c at each = by (plan_for held c.number) refl
      where
        by : (o : Option Kept) → plan_for held c.number ≡ o → P
        by (Some p) has = each p has
        by None none = absurd (true≢false (sym (brought.held.there dp runs c at) ∙ ap (λ (o : Option Kept). is_some o) none))

    pub are_ready : IsReady w held dp
    are_ready = λ c at. by_there (IsSomeAnd (plan_for held c.number) (λ q. (q.sent ≡ c.sent) × (q.wanted ≡ wanted w dp))) c at (λ p has. ready_on c at p has)

    pub batch_brought : AreBrought (batch dp w) (with_batch dp w held)
    batch_brought = by (conn_of w.conns dp) refl
      where
        on : (c : Conn) → conn_of w.conns dp ≡ Some c → (b : Bool)
            → AreBrought (if b then w else say_batch c.number (difference c.sent (wanted w dp)) (wanted w dp) w) (if b then held else taken c.number held)
        on c at true = brought
        on c at false =
            by_there (AreBrought (say_batch c.number (difference c.sent (wanted w dp)) (wanted w dp) w) (taken c.number held)) c at (λ p has. not_awaited c at p has)

        by : (o : Option Conn) → conn_of w.conns dp ≡ o → AreBrought (option_map_or (batch_on dp w) o w) (option_map_or (taken_on held) o held)
        by None none = brought
        by (Some c) at = on c at (is_some c.session.state.awaited)
