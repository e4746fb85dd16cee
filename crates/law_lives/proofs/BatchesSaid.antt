-- A settling leaves each life and connection fitting: a batch is said where no barrier is outstanding.
use Rattle.std.proofs.Common.{◌≡◌, ℕ, ◌==◌, Bool, true, false, Option, Some, None, List, [], ◌∷◌, ◌++◌, is_some, refl, sym, ap, subst, ◌∙◌, append_assoc, true≢false, if◌then◌else◌, inl, inr}
use Rattle.std.specs.Option.{option_map_or}
use Rattle.net_base.specs.declared.numbers.DpId.{DpId}
use Rattle.fg_outside.specs.declared.hub.Happening.{Happening}
use Rattle.of_match.specs.declared.entry.Command.{Command}
use Rattle.of_match.specs.declared.entry.Command.TheVariants.{Add, DeleteAll, DeleteStrict}
use Rattle.of_match.specs.declared.entry.Entry.{Entry}
use Rattle.of_match.specs.FlowTables.{IsInKeyOrder}
use Rattle.of_match.proofs.AfterOrder.{all_append}
use Rattle.conf_types.specs.declared.datapath.Dp.{Dp}
use Rattle.conf_types.specs.Configuration.{Configuration}
use Rattle.conf_types.specs.State.{State}
use Rattle.cold_start.specs.Cold.{cold}
use Rattle.neighbour_resolve.specs.Asks.{in_order}
use Rattle.of13_codec.specs.declared.message.Message.{Message}
use Rattle.of13_codec.specs.declared.message.Message.TheVariants as messages
use Rattle.plan_difference.specs.Difference.{difference}
use Rattle.flow_messages.specs.Messages.{command_message}
use Rattle.switch_session.specs.declared.state.Stage.{Stage}
use Rattle.switch_session.specs.declared.state.Stage.TheVariants.{Greeting, Features, Ports, Wiping, Running, Shut}
use Rattle.switch_session.specs.Connections.{next_id}
use Rattle.switch_session.specs.Stages.{State as Session}
use Rattle.ctl_world.specs.declared.conns.Conn.{Conn}
use Rattle.ctl_world.specs.Connections.{conn_of, conn_with, with_asked, with_looked, with_said, with_sent}
use Rattle.ctl_world.specs.Saying.{ask, packet_out, say, say_by}
use Rattle.ctl_world.specs.TablesSaid.{is_of_tables}
use Rattle.ctl_world.specs.World.{World, running}
use Rattle.ctl_core.specs.Settlings.{ask_all, batch, batch_on, batches, say_batch, say_each, settle, wanted}
use Rattle.ctl_world.proofs.Numbered.{is_its}
use Rattle.ctl_core.proofs.Settlings.{batch_case, step_keys, step_numbers}
use Rattle.ctl_core.proofs.Numbered.{of_with}
use Rattle.ctl_core.proofs.Ordered.{AreOrdered, change_ordered, without_ordered}
use Rattle.ctl_core.proofs.Walk.{Steps, asks_kept, wants_by}
use Rattle.law_lives.specs.Lives.{Life, Lives, awaited_said, barrier_said, answered_said, steps_said}
use Rattle.law_lives.specs.Sessions.{MaySay, setup_in}
use Rattle.law_lives.proofs.Meets.{ByStage, HasRun}
use Rattle.law_lives.proofs.Runs.{Calm, Fit, Lived, Of, Runs, of_full, spoken, still, to_full}
use Rattle.law_lives.proofs.Steps.{Kept, asked_lived, changed, said_lived, single}

-- while a batch is said: the datapath runs, and no barrier is outstanding
pub record Batching (l : Life) (c : Conn) : Type 0 where
  pub stands : l.state.stage ≡ Running
  pub dp : l.dp ≡ c.dp
  pub run : HasRun l.steps
  pub free : l.barrier ≡ None
  pub echoes : l.answered ≡ l.asked

-- ---- a message of a command

command_awaits : (m : Command) (xid : ℕ) (a : Option ℕ) → awaited_said (command_message m) xid a ≡ a
command_awaits (Add e) xid a = refl
command_awaits (DeleteStrict key) xid a = refl
command_awaits DeleteAll xid a = refl

command_barrier : (m : Command) (xid : ℕ) (a : Option ℕ) → barrier_said (command_message m) xid a ≡ a
command_barrier (Add e) xid a = refl
command_barrier (DeleteStrict key) xid a = refl
command_barrier DeleteAll xid a = refl

command_answers : (m : Command) (xid : ℕ) (a : List (List ℕ × ℕ)) → answered_said (command_message m) xid a ≡ a
command_answers (Add e) xid a = refl
command_answers (DeleteStrict key) xid a = refl
command_answers DeleteAll xid a = refl

command_steps : (m : Command) (steps : List Message) → steps_said (command_message m) steps ≡ steps ++ command_message m ∷ []
command_steps (Add e) steps = refl
command_steps (DeleteStrict key) steps = refl
command_steps DeleteAll steps = refl

command_tables : (m : Command) → is_of_tables (command_message m) ≡ true
command_tables (Add e) = refl
command_tables (DeleteStrict key) = refl
command_tables DeleteAll = refl

command_may : (m : Command) (number : ℕ) (lives : Lives) → (lives number).barrier ≡ None → MaySay number (command_message m) lives
command_may (Add e) number lives free = free
command_may (DeleteStrict key) number lives free = free
command_may DeleteAll number lives free = free

run_more : (steps : List Message) (m : Message) → is_of_tables m ≡ true → HasRun steps → HasRun (steps ++ m ∷ [])
run_more steps m tables run = (
  run.0 ++ m ∷ [],
  ap (λ (s : List Message). s ++ m ∷ []) run.1 ∙ append_assoc (setup_in Wiping) run.0 (m ∷ []),
  all_append (λ (x : Message). is_of_tables x ≡ true) run.0 (m ∷ []) run.2 (tables, tt),
)

-- ---- whose batch is said

some_not : (a : Option ℕ) → is_some a ≡ true → is_some a ≡ false → ⊥
some_not a some none = true≢false (sym some ∙ none)

awaits_none : (a : Option ℕ) → is_some a ≡ false → a ≡ None
awaits_none None is = refl
awaits_none (Some x) is = absurd (true≢false is)

-- a connection that has a datapath and awaits nothing has passed its setup
free_of : (stage : Stage) (dp : Option DpId) (steps : List Message) (barrier awaited : Option ℕ) → ByStage stage dp steps barrier awaited → is_some dp ≡ true → is_some awaited ≡ false
    → (stage ≡ Running) × HasRun steps × (barrier ≡ None)
free_of Greeting dp steps b a fits has free = absurd (true≢false (sym has ∙ ap (λ (o : Option DpId). is_some o) fits.0))
free_of Features dp steps b a fits has free = absurd (true≢false (sym has ∙ ap (λ (o : Option DpId). is_some o) fits.0))
free_of Ports dp steps b a fits has free = absurd (some_not a fits.2 free)
free_of Wiping dp steps b a fits has free = absurd (some_not a fits.2 free)
free_of Running dp steps b a fits has free = (refl, fits.0, fits.1 ∙ awaits_none a free)
free_of Shut dp steps b a fits has free = absurd fits

has_dp : (dp : DpId) (o : Option DpId) → option_map_or (λ (d : DpId). d.0 == dp.0) o false ≡ true → is_some o ≡ true
has_dp dp (Some d) is = refl
has_dp dp None is = absurd (true≢false (sym is))

-- ---- connections stay by number

abbrev InOrder : World → Type 0
InOrder w = AreOrdered w.conns

said_ordered : (number : ℕ) (m : Message) (w : World) → InOrder w → InOrder (say number m w)
said_ordered number m w ordered =
    elim (conn_with w.conns number) as (λ o. InOrder (option_map_or (say_by with_said m w) o w)) [
      | Some c ↦ change_ordered with_said (λ d. refl) (λ d. refl) c.number w.conns ordered
      | None ↦ ordered
    ]

ordering : Steps InOrder
ordering = record {
  sends = λ number out w ordered. said_ordered number (packet_out out) w ordered;
  asks_echo = λ number w ordered. said_ordered number (messages.EchoRequest []) w ordered;
  closes = λ cause number w at ordered. without_ordered number w.conns ordered;
  looks = λ number w ordered. change_ordered (with_looked w.moment) (λ d. refl) (λ d. refl) number w.conns ordered;
  shows = λ moment w ordered. ordered;
  ages = λ w ordered. ordered;
  wants = λ group w ordered. wants_by InOrder group w ordered ordered;
  tells = λ text w ordered. ordered;
}

asks_ordered : (w : World) → InOrder w → InOrder (ask_all w)
asks_ordered w ordered = asks_kept InOrder ordering (λ v kept. kept) w ordered

module _ (order : (conf : Configuration) (state : State) (d : Dp) → IsInKeyOrder (cold conf state d)) where
  batch_ordered : (dp : DpId) (w : World) → InOrder w → InOrder (batch dp w)
  batch_ordered dp w ordered =
      elim (batch_case order dp w) [
        | inl same ↦ subst InOrder (sym same) ordered
        | inr is ↦ (
          step_numbers is.0 is.1.f is.1.quiet w (batch dp w) is.1.step ordered.0,
          step_keys is.0 is.1.f is.1.quiet w (batch dp w) is.1.step (λ c keys. is.1.keys c) ordered.1,
        )
      ]

module _ (what : Happening) (start : Lives) where
  abbrev Saying : ℕ → World → Type 0
  Saying number w = Runs what start (Fit number Batching true) w.conns w.said

  begun : (number : ℕ) (w : World) (c : Conn) → conn_with w.conns number ≡ Some c → is_some c.dp ≡ true → is_some c.session.state.awaited ≡ false → Kept what start w → Saying number w
  begun number w c some has free kept =
      still what start (Fit number Calm true) (Fit number Batching true) w.conns w.conns w.said
      (λ lives fit.
      let it : Lived Calm (lives number) c = subst (Of Calm (lives number)) some fit.own in
      let l : Life = lives number in
      let state : l.state ≡ c.session.state = it.state in
      let is = free_of l.state.stage l.dp l.steps l.barrier l.state.awaited it.holds.1 (ap (λ (o : Option DpId). is_some o) it.holds.0 ∙ has) (ap (λ (s : Session). is_some s.awaited) state ∙ free) in
      record {
        own = subst (Of Batching l) (sym some)
            (record { open_ = it.open_; bytes = it.bytes; frames = it.frames; last = it.last; state = it.state; holds = record { stands = is.0; dp = it.holds.0; run = is.1; free = is.2; echoes = it.holds.2 } });
        others = fit.others;
        apart = fit.apart;
        alone = fit.alone;
      })
      (of_full what start number w.conns w.said kept)

  one_more : (number : ℕ) (m : Command) (w : World) → Saying number w → Saying number (say number (command_message m) w)
  one_more number m w saying =
      spoken what start number (command_message m) with_said (λ c. refl) Batching Batching true true w
      (λ lives c is it fit.
      let l : Life = lives number in
      let xid : ℕ = next_id c.session.last_xid in (
        command_may m number lives it.holds.free,
        said_lived Batching Batching (command_message m) xid l c (command_awaits m xid l.state.awaited)
            (λ h. record {
              stands = h.stands;
              dp = h.dp;
              run = subst HasRun (sym (command_steps m l.steps)) (run_more l.steps (command_message m) (command_tables m) h.run);
              free = command_barrier m xid l.barrier ∙ h.free;
              echoes = command_answers m xid l.answered ∙ h.echoes;
            })
            it,
        fit.alone,
      ))
      saying

  each_more : (number : ℕ) (commands : List Command) (w : World) → Saying number w → Saying number (say_each number commands w)
  each_more number [] w saying = saying
  each_more number (m ∷ more) w saying = each_more number more (say number (command_message m) w) (one_more number m w saying)

  barrier_said_kept : (number : ℕ) (w : World) → Saying number w → Kept what start (ask number messages.BarrierRequest w)
  barrier_said_kept number w saying =
      let v : World = ask number messages.BarrierRequest w in
      to_full what start number v.conns v.said
      (spoken what start number messages.BarrierRequest with_asked (λ c. refl) Batching Calm true true w
      (λ lives c is it fit.
      let l : Life = lives number in
      let xid : ℕ = next_id c.session.last_xid in (
        it.holds.free,
        asked_lived Batching Calm messages.BarrierRequest l c refl
            (λ h. (
              h.dp,
              subst (λ (s : Stage). ByStage s l.dp (l.steps ++ messages.BarrierRequest ∷ []) (Some xid) (Some xid)) (sym h.stands) (run_more l.steps messages.BarrierRequest refl h.run, refl),
              h.echoes,
            ))
            it,
        fit.alone,
      ))
      saying)

  batch_said : (number : ℕ) (commands : List Command) (entries : List Entry) (w : World) → Saying number w → Kept what start w → Kept what start (say_batch number commands entries w)
  batch_said number [] entries w saying kept = kept
  batch_said number (m ∷ more) entries w saying kept =
      let v : World = ask number messages.BarrierRequest (say_each number (m ∷ more) w) in
      changed what start number (with_sent entries) (λ c. refl) (λ l c it. record { open_ = it.open_; bytes = it.bytes; frames = it.frames; last = it.last; state = it.state; holds = it.holds }) v
      (barrier_said_kept number (say_each number (m ∷ more) w) (each_more number (m ∷ more) w saying))

  batch_kept : (dp : DpId) (w : World) → AreOrdered w.conns → Kept what start w → Kept what start (batch dp w)
  batch_kept dp w ordered kept = by (conn_of w.conns dp) refl
    where
      on : (c : Conn) → conn_of w.conns dp ≡ Some c → (b : Bool) → is_some c.session.state.awaited ≡ b
          → Kept what start (if b then w else say_batch c.number (difference c.sent (wanted w dp)) (wanted w dp) w)
      on c is true waits = kept
      on c is false free =
          batch_said c.number (difference c.sent (wanted w dp)) (wanted w dp) w
          (begun c.number w c (of_with w.conns dp c ordered.0 is) (has_dp dp c.dp (is_its w.conns dp c is)) free kept) kept

      by : (o : Option Conn) → conn_of w.conns dp ≡ o → Kept what start (option_map_or (batch_on dp w) o w)
      by None none = kept
      by (Some c) is = on c is (is_some c.session.state.awaited) refl

  module _ (order : (conf : Configuration) (state : State) (d : Dp) → IsInKeyOrder (cold conf state d)) where
    batches_kept : (dps : List DpId) (w : World) → AreOrdered w.conns → Kept what start w → Kept what start (batches dps w)
    batches_kept [] w ordered kept = kept
    batches_kept (dp ∷ dps) w ordered kept = batches_kept dps (batch dp w) (batch_ordered order dp w ordered) (batch_kept dp w ordered kept)

    pub settle_kept : (w : World) → AreOrdered w.conns → Kept what start w → Kept what start (settle w)
    settle_kept w ordered kept =
        let v : World = ask_all w in
        batches_kept (in_order (running v)) v (asks_ordered w ordered) (asks_kept (Kept what start) (single what start) (λ u k. k) w kept)
