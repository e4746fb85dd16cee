-- What a settling leaves of the connections and of what is known.
use Rattle.std.proofs.Common.{◌≡◌, ℕ, zero, suc, ◌==◌, ◌||◌, true, false, cond, Option, Some, None, List, [], ◌∷◌, map, filter, length, is_some, inl, inr, refl, sym, ap, subst, ◌∙◌, true≢false, if◌then◌else◌}
use Rattle.std.specs.Option.{option_map, option_map_or}
use Rattle.std.proofs.lemmas.Bool.{cases_Bool, eqb-true}
use Rattle.net_base.specs.declared.numbers.DpId.{DpId}
use Rattle.of_match.specs.FlowTables.{IsInKeyOrder}
use Rattle.of13_codec.specs.declared.message.Message.{Message}
use Rattle.conf_types.specs.declared.datapath.Dp.{Dp}
use Rattle.conf_types.specs.Configuration.{Configuration}
use Rattle.conf_types.specs.State.{State, is_running}
use Rattle.cold_start.specs.Cold.{cold, cold_at}
use Rattle.plan_difference.specs.Difference.{difference}
use Rattle.neighbour_resolve.specs.declared.neighbour.Due.{Due}
use Rattle.neighbour_resolve.specs.declared.neighbour.Due.TheVariants.{Ask, Gone}
use Rattle.neighbour_resolve.specs.Asks.{AskOn, asks, in_order}
use Rattle.neighbour_resolve.specs.Due.{due_said}
use Rattle.switch_session.specs.declared.state.Stage.{Stage}
use Rattle.switch_session.specs.declared.state.Stage.TheVariants.{Greeting, Features, Ports, Wiping, Running, Shut}
use Rattle.ctl_world.specs.declared.conns.Conn.{Conn}
use Rattle.ctl_world.specs.Connections.{conn_of, with_said}
use Rattle.ctl_world.specs.Saying.{packet_out, say}
use Rattle.ctl_world.specs.World.{World, is_at_work, now, running, runs}
use Rattle.ctl_core.specs.Settlings.{ask_all, ask_due, ask_each, ask_on, batch, batch_on, batches, say_batch, say_due, settle, take_due, wanted}
use Rattle.ctl_core.proofs.Settlings.{AreByNumber, IsQuiet, IsSaid, IsStep, said_case, said_quiet, say_step, step_conf, step_keys, step_none, step_now, step_numbers, step_other, step_own, wanted_order}
use Rattle.ctl_world.proofs.Numbered.{unlike}
use Rattle.ctl_core.proofs.Ordered.{AreOrdered}

-- ---- what runs

at_work : (conns : List Conn) (dps : List Dp) (dp : DpId) → is_running (map (λ d. d.id) (filter (is_at_work conns) dps)) dp ≡ true
    → option_map_or (λ (c : Conn). runs c.session.state.stage) (conn_of conns dp) false ≡ true
at_work conns [] dp runs_it = absurd (true≢false (sym runs_it))
at_work conns (d ∷ ds) dp runs_it =
    elim (cases_Bool (is_at_work conns d)) [
      | inl works ↦ elim (cases_Bool (d.id.0 == dp.0)) [
        | inl same ↦
            let e : d.id ≡ dp = λ i. record { 0 = eqb-true d.id.0 dp.0 same i } in
            subst (λ (id : DpId). option_map_or (λ (c : Conn). runs c.session.state.stage) (conn_of conns id) false ≡ true) e works
        | inr other ↦
            at_work conns ds dp (sym (ap (λ b. is_running (map (λ d. d.id) (cond b (d ∷ filter (is_at_work conns) ds) (filter (is_at_work conns) ds))) dp) works
            ∙ ap (λ b. b || is_running (map (λ d. d.id) (filter (is_at_work conns) ds)) dp) other) ∙ runs_it)
      ]
      | inr idle ↦ at_work conns ds dp (sym (ap (λ b. is_running (map (λ d. d.id) (cond b (d ∷ filter (is_at_work conns) ds) (filter (is_at_work conns) ds))) dp) idle) ∙ runs_it)
    ]

is_stage : (stage : Stage) → runs stage ≡ true → stage ≡ Running
is_stage Greeting is = absurd (true≢false (sym is))
is_stage Features is = absurd (true≢false (sym is))
is_stage Ports is = absurd (true≢false (sym is))
is_stage Wiping is = absurd (true≢false (sym is))
is_stage Running is = refl
is_stage Shut is = absurd (true≢false (sym is))

-- the connection of a datapath that runs has passed its setup
pub running_stage : (w : World) (dp : DpId) (c : Conn) → is_running (running w) dp ≡ true → conn_of w.conns dp ≡ Some c → c.session.state.stage ≡ Running
running_stage w dp c runs_it some =
    is_stage c.session.state.stage (sym (ap (λ o. option_map_or (λ (d : Conn). runs d.session.state.stage) o false) some) ∙ at_work w.conns w.conf.dps dp runs_it)

-- ---- a step that is quiet

abbrev pub number_of : World → DpId → Option ℕ
number_of w dp = option_map (λ (c : Conn). c.number) (conn_of w.conns dp)

step_number : (number : ℕ) (f : Conn → Conn) → IsQuiet f → (w v : World) → IsStep number f w v → AreByNumber w.conns → (dp : DpId) → number_of v dp ≡ number_of w dp
step_number number f quiet w v step ordered dp = by (conn_of w.conns dp) refl
  where
    by : (o : Option Conn) → conn_of w.conns dp ≡ o → number_of v dp ≡ option_map (λ (c : Conn). c.number) o
    by None none = ap (option_map (λ (c : Conn). c.number)) (step_none number f quiet w v step dp none)
    by (Some c) some =
        elim (cases_Bool (c.number == number)) [
          | inl same ↦ ap (option_map (λ (c : Conn). c.number)) (step_own number f quiet w v step dp c ordered some (eqb-true c.number number same)) ∙ ap (λ (n : ℕ). Some n) (quiet.number c)
          | inr other ↦ ap (option_map (λ (c : Conn). c.number)) (step_other number f quiet w v step dp c some (unlike c.number number other))
        ]

-- what a settling keeps of the connections
pub record IsAlike (w v : World) : Type 0 where
  pub ordered : AreOrdered v.conns
  pub numbers : (dp : DpId) → number_of v dp ≡ number_of w dp

alike_after : (w v u : World) → IsAlike w v → IsAlike v u → IsAlike w u
alike_after w v u first second = record { ordered = second.ordered; numbers = λ dp. second.numbers dp ∙ first.numbers dp }

-- ---- asks

say_alike : (number : ℕ) (m : Message) (w : World) → AreOrdered w.conns → IsAlike w (say number m w)
say_alike number m w ordered =
    let step = say_step number m w in
    record {
      ordered = (step_numbers number with_said said_quiet w (say number m w) step ordered.0, step_keys number with_said said_quiet w (say number m w) step (λ c keys. keys) ordered.1);
      numbers = step_number number with_said said_quiet w (say number m w) step ordered.0;
    }

on_alike : (a : AskOn) (w : World) → AreOrdered w.conns → IsAlike w (ask_on a w)
on_alike a w ordered =
    elim (conn_of w.conns a.dp) as (λ o. IsAlike w (option_map_or (λ (c : Conn). say c.number (packet_out a.out) w) o w)) [
      | Some c ↦ say_alike c.number (packet_out a.out) w ordered
      | None ↦ record { ordered = ordered; numbers = λ dp. refl }
    ]

frames_alike : (frames : List AskOn) (w : World) → AreOrdered w.conns → IsAlike w (ask_each frames w)
frames_alike [] w ordered = record { ordered = ordered; numbers = λ dp. refl }
frames_alike (a ∷ more) w ordered =
    let first = on_alike a w ordered in
    alike_after w (ask_on a w) (ask_each more (ask_on a w)) first (frames_alike more (ask_on a w) first.ordered)

due_said_alike : (due : Due) (w : World) → AreOrdered w.conns → IsAlike w (say_due due w)
due_said_alike (Ask group vid ip) w ordered = frames_alike (asks w.conf (running w) group vid ip) w ordered
due_said_alike (Gone group vid ip) w ordered = record { ordered = ordered; numbers = λ dp. refl }

due_alike : (most : ℕ) (w : World) → AreOrdered w.conns → IsAlike w (ask_due most w)
due_alike zero w ordered = record { ordered = ordered; numbers = λ dp. refl }
due_alike (suc most) w ordered =
    elim (due_said w.conf w.moment.0 w.neighbours.neighbours) as (λ o. IsAlike w (option_map_or (λ due. ask_due most (say_due due (take_due w))) o w)) [
      | Some due ↦
          let first = due_said_alike due (take_due w) ordered in
          let rest = due_alike most (say_due due (take_due w)) first.ordered in
          record { ordered = rest.ordered; numbers = λ dp. rest.numbers dp ∙ first.numbers dp }
      | None ↦ record { ordered = ordered; numbers = λ dp. refl }
    ]

pub asks_alike : (w : World) → AreOrdered w.conns → IsAlike w (ask_all w)
asks_alike w ordered = due_alike (length w.neighbours.neighbours) w ordered

-- ---- batches

pub record IsBatched (w v : World) : Type 0 where
  pub alike : IsAlike w v
  pub now : now v ≡ now w
  pub conf : v.conf ≡ w.conf

batched_after : (w v u : World) → IsBatched w v → IsBatched v u → IsBatched w u
batched_after w v u first second = record { alike = alike_after w v u first.alike second.alike; now = second.now ∙ first.now; conf = second.conf ∙ first.conf }

pub batched_running : (w v : World) → IsBatched w v → running v ≡ running w
batched_running w v is = ap (λ (s : State). s.running) is.now

pub batched_wanted : (w v : World) → IsBatched w v → (dp : DpId) → wanted v dp ≡ wanted w dp
batched_wanted w v is dp = ap (λ (cf : Configuration). cold_at cf (now v) dp) is.conf ∙ ap (λ (s : State). cold_at w.conf s dp) is.now

module _ (cold_order : (conf : Configuration) (state : State) (d : Dp) → IsInKeyOrder (cold conf state d)) where
  stays_batched : (w : World) → AreOrdered w.conns → IsBatched w w
  stays_batched w ordered = record { alike = record { ordered = ordered; numbers = λ dp. refl }; now = refl; conf = refl }

  said_batched : (number : ℕ) (w v : World) → IsSaid number w v → AreOrdered w.conns → IsBatched w v
  said_batched number w v is ordered = record {
    alike = record {
      ordered = (step_numbers number is.f is.quiet w v is.step ordered.0, step_keys number is.f is.quiet w v is.step (λ c keys. is.keys c) ordered.1);
      numbers = step_number number is.f is.quiet w v is.step ordered.0;
    };
    now = step_now number is.f is.quiet w v is.step;
    conf = step_conf number is.f is.quiet w v is.step;
  }

  pub batch_batched : (dp : DpId) (w : World) → AreOrdered w.conns → IsBatched w (batch dp w)
  batch_batched dp w ordered =
      elim (conn_of w.conns dp) as (λ o. IsBatched w (option_map_or (batch_on dp w) o w)) [
        | Some c ↦ elim (is_some c.session.state.awaited) as (λ b. IsBatched w (if b then w else say_batch c.number (difference c.sent (wanted w dp)) (wanted w dp) w)) [
          | true ↦ stays_batched w ordered
          | false ↦ elim (said_case c.number (difference c.sent (wanted w dp)) (wanted w dp) w (wanted_order cold_order w dp)) [
            | inl nothing ↦ subst (IsBatched w) (sym nothing.1) (stays_batched w ordered)
            | inr is ↦ said_batched c.number w (say_batch c.number (difference c.sent (wanted w dp)) (wanted w dp) w) is ordered
          ]
        ]
        | None ↦ stays_batched w ordered
      ]

  pub batches_batched : (dps : List DpId) (w : World) → AreOrdered w.conns → IsBatched w (batches dps w)
  batches_batched [] w ordered = stays_batched w ordered
  batches_batched (dp ∷ dps) w ordered =
      let first = batch_batched dp w ordered in
      batched_after w (batch dp w) (batches dps (batch dp w)) first (batches_batched dps (batch dp w) first.alike.ordered)

  pub settled_alike : (w : World) → AreOrdered w.conns → IsAlike w (settle w)
  settled_alike w ordered =
      let v : World = ask_all w in
      let first = asks_alike w ordered in
      alike_after w v (settle w) first (batches_batched (in_order (running v)) v first.ordered).alike
