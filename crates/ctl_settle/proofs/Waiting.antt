-- Where a turn has settled, each running datapath has a barrier outstanding or the entries that it is to have.
use Rattle.std.proofs.Common.{◌≡◌, ℕ, ◌==◌, Bool, true, false, Option, Some, None, List, [], ◌∷◌, is_some, refl, inl, inr, sym, ap, subst, ◌∙◌, arith, eqb-true, if◌then◌else◌}
use Rattle.std.specs.Prelude.{◌⊎◌, ◌↔◌}
use Rattle.std.specs.Option.{option_map_or}
use Rattle.std.proofs.lemmas.Bool.{cases_Bool}
use Rattle.std.proofs.lemmas.Bool.Decides.{nat_tests}
use Rattle.net_base.specs.declared.numbers.DpId.{DpId}
use Rattle.of_match.specs.declared.entry.Entry.{Entry}
use Rattle.of_match.specs.FlowTables.{IsInKeyOrder}
use Rattle.of13_codec.specs.declared.message.Message.{Message}
use Rattle.conf_types.specs.declared.datapath.Dp.{Dp}
use Rattle.conf_types.specs.Configuration.{Configuration, dp_with}
use Rattle.conf_types.specs.State.{State, is_running}
use Rattle.cold_start.specs.Cold.{cold}
use Rattle.plan_difference.specs.Difference.{difference}
use Rattle.neighbour_resolve.specs.Asks.{asks, in_order}
use Rattle.ctl_world.specs.declared.conns.Conn.{Conn}
use Rattle.ctl_world.specs.Connections.{conn_of, with_said}
use Rattle.ctl_world.specs.Saying.{say}
use Rattle.ctl_world.specs.World.{World, now, running}
use Rattle.ctl_settle.specs.Settling.{ask_all, batch, batch_on, batches, say_batch, settle, wanted}
use Rattle.ctl_settle.proofs.Asks.{asks_kept}
use Rattle.ctl_settle.proofs.Batches.{AreByNumber, AreInKeyOrder, IsSaid, found_all, said_case, said_quiet, say_step, step_keys, step_none, step_now, step_numbers, step_other, step_own, step_wanted}

abbrev AreOrdered : World → Type 0
AreOrdered w = AreByNumber w.conns × AreInKeyOrder w.conns

-- ---- asks leave the order

said_ordered : (number : ℕ) (m : Message) (w : World) → AreOrdered w → AreOrdered (say number m w)
said_ordered number m w ordered =
    let step = say_step number m w in
    (step_numbers number with_said said_quiet w (say number m w) step ordered.0, step_keys number with_said said_quiet w (say number m w) step (λ c keys. keys) ordered.1)

pub asks_ordered : (w : World) → AreByNumber w.conns → AreInKeyOrder w.conns → AreByNumber (ask_all w).conns × AreInKeyOrder (ask_all w).conns
asks_ordered w numbers keys = asks_kept AreOrdered said_ordered (λ v is. is) w (numbers, keys)

-- ---- batches

-- the datapath has a barrier outstanding, or the entries that it is to have
abbrev IsDone : World → DpId → Type 0
IsDone w dp = (c : Conn) → conn_of w.conns dp ≡ Some c → (is_some c.session.state.awaited ≡ true) ⊎ (c.sent ≡ wanted w dp)

module _ (cold_order : (conf : Configuration) (state : State) (d : Dp) → IsInKeyOrder (cold conf state d)) where
  pub wanted_order : (w : World) (dp : DpId) → IsInKeyOrder (wanted w dp)
  wanted_order w dp = elim (dp_with w.conf.dps dp) as (λ o. IsInKeyOrder (option_map_or (cold w.conf (now w)) o [])) [ Some d ↦ cold_order w.conf (now w) d | None ↦ tt ]

  abbrev pub Case : World → World → Type 0
  Case w v = (v ≡ w) ⊎ ((number : ℕ) × IsSaid number w v)

  on_case : (dp : DpId) (w : World) (c : Conn) → Case w (batch_on dp w c)
  on_case dp w c =
      elim (is_some c.session.state.awaited) as (λ b. Case w (if b then w else say_batch c.number (difference c.sent (wanted w dp)) (wanted w dp) w)) [
        | true ↦ inl refl
        | false ↦ elim (said_case c.number (difference c.sent (wanted w dp)) (wanted w dp) w (wanted_order w dp)) [ inl nothing ↦ inl nothing.1 | inr is ↦ inr (c.number, is) ]
      ]

  pub batch_case : (dp : DpId) (w : World) → Case w (batch dp w)
  batch_case dp w = elim (conn_of w.conns dp) as (λ o. Case w (option_map_or (batch_on dp w) o w)) [ Some c ↦ on_case dp w c | None ↦ inl refl ]

  pub case_ordered : (w v : World) → Case w v → AreOrdered w → AreOrdered v
  case_ordered w v (inl same) ordered = subst AreOrdered (sym same) ordered
  case_ordered w v (inr is) ordered =
      (step_numbers is.0 is.1.f is.1.quiet w v is.1.step ordered.0, step_keys is.0 is.1.f is.1.quiet w v is.1.step (λ c keys. is.1.keys c) ordered.1)

  pub case_running : (w v : World) → Case w v → running v ≡ running w
  case_running w v (inl same) = ap running same
  case_running w v (inr is) = ap (λ (s : State). s.running) (step_now is.0 is.1.f is.1.quiet w v is.1.step)

  said_done : (number : ℕ) (w v : World) → IsSaid number w v → AreByNumber w.conns → (dp : DpId) → IsDone w dp → IsDone v dp
  said_done number w v is ordered dp done d at = by (conn_of w.conns dp) refl
    where
      by : (o : Option Conn) → conn_of w.conns dp ≡ o → (is_some d.session.state.awaited ≡ true) ⊎ (d.sent ≡ wanted v dp)
      by None none = let e = step_none number is.f is.quiet w v is.step dp none in absurd (cc)
      by (Some c) some =
          elim (cases_Bool (c.number == number)) [
            | inl same ↦
                let e = step_own number is.f is.quiet w v is.step dp c ordered some (eqb-true c.number number same) in
                let f_at : Some (is.f c) ≡ Some d = sym e ∙ at in
                let it : is.f c ≡ d = cc in
                inl (ap (λ (x : Conn). is_some x.session.state.awaited) (sym it) ∙ is.asked c)
            | inr other ↦
                let differs : c.number ≡ number → ⊥ = λ n. grind (arith, nat_tests) in
                let e = step_other number is.f is.quiet w v is.step dp c some differs in
                let c_at : Some c ≡ Some d = sym e ∙ at in
                let it : c ≡ d = cc in
                elim (done c some) [
                  | inl waits ↦ inl (ap (λ (x : Conn). is_some x.session.state.awaited) (sym it) ∙ waits)
                  | inr has ↦ inr (ap (λ (x : Conn). x.sent) (sym it) ∙ has ∙ sym (step_wanted number is.f is.quiet w v is.step dp))
                ]
          ]

  case_done : (w v : World) → Case w v → AreByNumber w.conns → (dp : DpId) → IsDone w dp → IsDone v dp
  case_done w v (inl same) ordered dp done = subst (λ (x : World). IsDone x dp) (sym same) done
  case_done w v (inr is) ordered dp done = said_done is.0 w v is.1 ordered dp done

  done_kept : (dps : List DpId) (w : World) → AreOrdered w → (dp : DpId) → IsDone w dp → IsDone (batches dps w) dp
  done_kept [] w ordered dp done = done
  done_kept (x ∷ dps) w ordered dp done =
      done_kept dps (batch x w) (case_ordered w (batch x w) (batch_case x w) ordered) dp (case_done w (batch x w) (batch_case x w) ordered.0 dp done)

  batches_ordered : (dps : List DpId) (w : World) → AreOrdered w → AreOrdered (batches dps w)
  batches_ordered [] w ordered = ordered
  batches_ordered (x ∷ dps) w ordered = batches_ordered dps (batch x w) (case_ordered w (batch x w) (batch_case x w) ordered)

  pub settled_ordered : (w : World) → AreByNumber w.conns → AreInKeyOrder w.conns → AreByNumber (settle w).conns × AreInKeyOrder (settle w).conns
  settled_ordered w numbers keys =
      let v : World = ask_all w in
      batches_ordered (in_order (running v)) v (asks_ordered w numbers keys)

  running_kept : (dps : List DpId) (w : World) → running (batches dps w) ≡ running w
  running_kept [] w = refl
  running_kept (x ∷ dps) w = running_kept dps (batch x w) ∙ case_running w (batch x w) (batch_case x w)

  module _ (equal : (from to : List Entry) → IsInKeyOrder from → IsInKeyOrder to → (difference from to ≡ []) ↔ (from ≡ to)) where
    on_done : (dp : DpId) (w : World) (c : Conn) → AreOrdered w → conn_of w.conns dp ≡ Some c → (b : Bool) → is_some c.session.state.awaited ≡ b
        → IsDone (if b then w else say_batch c.number (difference c.sent (wanted w dp)) (wanted w dp) w) dp
    on_done dp w c ordered some true waits = λ d at.
        let c_at : Some c ≡ Some d = sym some ∙ at in
        let it : c ≡ d = cc in
        inl (ap (λ (x : Conn). is_some x.session.state.awaited) (sym it) ∙ waits)
    on_done dp w c ordered some false waits =
        let commands = difference c.sent (wanted w dp) in
        let keys : IsInKeyOrder c.sent = found_all (λ x. IsInKeyOrder x.sent) w.conns dp c ordered.1 some in
        elim (said_case c.number commands (wanted w dp) w (wanted_order w dp)) [
          | inl nothing ↦ subst (λ (v : World). IsDone v dp) (sym nothing.1) (λ d at.
              let c_at : Some c ≡ Some d = sym some ∙ at in
              let it : c ≡ d = cc in
              inr (ap (λ (x : Conn). x.sent) (sym it) ∙ (equal c.sent (wanted w dp) keys (wanted_order w dp)).0 nothing.0))
          | inr is ↦ λ d at.
              let e = step_own c.number is.f is.quiet w (say_batch c.number commands (wanted w dp) w) is.step dp c ordered.0 some refl in
              let f_at : Some (is.f c) ≡ Some d = sym e ∙ at in
              let it : is.f c ≡ d = cc in
              inl (ap (λ (x : Conn). is_some x.session.state.awaited) (sym it) ∙ is.asked c)
        ]

    one_done : (dp : DpId) (w : World) → AreOrdered w → IsDone (batch dp w) dp
    one_done dp w ordered = by (conn_of w.conns dp) refl
      where
        by : (o : Option Conn) → conn_of w.conns dp ≡ o → IsDone (option_map_or (batch_on dp w) o w) dp
        by None none = λ d at. absurd (cc)
        by (Some c) some = on_done dp w c ordered some (is_some c.session.state.awaited) refl

    each_done : (dps : List DpId) (w : World) → AreOrdered w → (dp : DpId) → is_running dps dp ≡ true → IsDone (batches dps w) dp
    each_done [] w ordered dp runs = absurd (cc)
    each_done (x ∷ dps) w ordered dp runs =
        let after : AreOrdered (batch x w) = case_ordered w (batch x w) (batch_case x w) ordered in
        elim (cases_Bool (x.0 == dp.0)) [
          | inl here ↦
              let same : x ≡ dp = λ i. record { 0 = eqb-true x.0 dp.0 here i } in
              done_kept dps (batch x w) after dp (subst (λ (y : DpId). IsDone (batch y w) dp) (sym same) (one_done dp w ordered))
          | inr other ↦ each_done dps (batch x w) after dp (rw other at runs)
        ]

    pub settled_done : ((ids : List DpId) (dp : DpId) → is_running (in_order ids) dp ≡ is_running ids dp) → (w : World) → AreByNumber w.conns → AreInKeyOrder w.conns
        → (dp : DpId) → is_running (running (settle w)) dp ≡ true → IsDone (settle w) dp
    settled_done same_ids w numbers keys dp runs =
        let v : World = ask_all w in
        let ordered : AreOrdered v = asks_ordered w numbers keys in
        let ids : List DpId = in_order (running v) in
        each_done ids v ordered dp (same_ids (running v) dp ∙ ap (λ (rs : List DpId). is_running rs dp) (sym (running_kept ids v)) ∙ runs)
