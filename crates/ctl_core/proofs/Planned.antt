-- What is done in a turn leaves the plans those of what was noted on their connections.
use Rattle.std.proofs.Common.{◌≡◌, ℕ, ◌==◌, Bool, true, false, Option, Some, None, List, [], Result, refl, inl, inr, sym, ap, subst, ◌∙◌, true≢false, if◌then◌else◌}
use Rattle.std.specs.Prelude.{◌⊎◌}
use Rattle.std.specs.Option.{option_map, option_map_or}
use Rattle.net_base.specs.declared.numbers.DpId.{DpId}
use Rattle.conf_types.specs.Configuration.{Configuration}
use Rattle.of13_codec.specs.declared.message.Message.{Message}
use Rattle.of13_codec.specs.declared.message.Message.TheVariants as messages
use Rattle.of13_codec.specs.declared.ports.PortDesc.{PortDesc}
use Rattle.flow_messages.specs.Messages.{delete_all}
use Rattle.ctl_settle.specs.Plans.{Kept}
use Rattle.switch_session.specs.declared.closing.Closing.{Closing}
use Rattle.switch_session.specs.declared.closing.Closing.TheVariants.{WrongVersion}
use Rattle.switch_session.specs.declared.ports.PortTold.{PortTold}
use Rattle.switch_session.specs.declared.state.Stage.{Stage}
use Rattle.switch_session.specs.declared.state.Stage.TheVariants.{Greeting, Features, Ports, Wiping, Running, Shut}
use Rattle.switch_session.specs.declared.state.Step.{Step}
use Rattle.switch_session.specs.declared.state.Step.TheVariants as steps
use Rattle.switch_session.specs.Connections.{opened}
use Rattle.switch_session.specs.Replies.{is_awaited_in, stage_after}
use Rattle.switch_session.specs.Stages.{State, awaited, awaits, changed_port, described, heard, heard_in, leads, speaks}
use Rattle.switch_session.specs.Told.{takes, told_of}
use Rattle.switch_session.proofs.ReplyLemmas.{pick}
use Rattle.switch_session.proofs.StageLemmas.{leads_moves}
use Rattle.ctl_world.specs.declared.conns.Conn.{Conn}
use Rattle.ctl_world.specs.Connections.{change, conn_with, is_open, put, with_asked, with_dp, with_heard, with_looked, with_said, without}
use Rattle.ctl_world.specs.Ends.{close, ended, forget_lost}
use Rattle.ctl_world.specs.Saying.{ask, packet_out, say, say_by}
use Rattle.ctl_world.specs.World.{World}
use Rattle.ctl_life.specs.Life.{echo, open_conn, replace, take_dp, turn_away}
use Rattle.ctl_world.proofs.Numbered.{changed_own, put_other, put_own, shut_none, without_other, without_own}
use Rattle.ctl_settle.specs.declared.plans.Held.{Held}
use Rattle.ctl_settle.specs.Plans.{AreHeld, Fit, Fits, has_run, plan_for}
use Rattle.ctl_settle.proofs.Fitting.{fit_at, fit_changed, fit_one}
use Rattle.ctl_core.specs.Hearing.{follow, hear_frame, hear_message, hear_on, introduce, packet, unfit}
use Rattle.ctl_core.specs.Reloading.{reload}
use Rattle.ctl_core.specs.Turns.{pass}
use Rattle.ctl_core.proofs.PacketSteps.{packet_kept}
use Rattle.ctl_core.proofs.Walk.{Steps, begin_kept, pass_kept, reload_kept, replace_kept, wants_by, with_any}

-- ---- what a message does to the stage

-- a connection that ran goes on, or is closed
after_run : (stage : Stage) → has_run stage ≡ true → has_run (stage_after stage) ≡ true
after_run Greeting is = absurd (true≢false (sym is))
after_run Features is = absurd (true≢false (sym is))
after_run Ports is = absurd (true≢false (sym is))
after_run Wiping is = absurd (true≢false (sym is))
after_run Running is = refl
after_run Shut is = refl

moved_run : (stage next : Stage) (it : Bool) → has_run stage ≡ true → (next ≡ stage) ⊎ ((next ≡ Shut) ⊎ ((it ≡ true) × (next ≡ stage_after stage))) → has_run next ≡ true
moved_run stage next it run (inl same) = ap has_run same ∙ run
moved_run stage next it run (inr (inl shut)) = ap has_run shut
moved_run stage next it run (inr (inr after)) = ap has_run after.1 ∙ after_run stage run

run_stays : (s : State) (m : Message) (xid : ℕ) → has_run s.stage ≡ true → has_run (leads s m xid).0.stage ≡ true
run_stays s m xid run = moved_run s.stage (leads s m xid).0.stage (is_awaited_in s.stage s m xid) run (leads_moves s m xid)

shut_stays : (s : State) (m : Message) (xid : ℕ) → s.stage ≡ Shut → (leads s m xid).0.stage ≡ Shut
shut_stays s m xid shut = subst (λ (stage : Stage). (heard_in stage s m xid).0.stage ≡ Shut) (sym shut) shut

-- a switch says what it is before it runs
abbrev tells_dp : Step → Bool
tells_dp steps.Nothing = false
tells_dp steps.AskFeatures = false
tells_dp (steps.Features dp n_tables auxiliary) = true
tells_dp steps.PortsKnown = false
tells_dp steps.Wiped = false
tells_dp steps.Settled = false
tells_dp (steps.PortChanged port) = false
tells_dp steps.Packet = false
tells_dp steps.Echo = false
tells_dp (steps.Close cause) = false

abbrev TellsEarly : State × Step → Type 0
TellsEarly r = tells_dp r.1 ≡ true → has_run r.0.stage ≡ false

never : {P : Type 0} → false ≡ true → P
never is = absurd (true≢false (sym is))

described_tells : (s : State) (more : Bool) (descs : List PortDesc) → TellsEarly (described s more descs)
described_tells s true descs = never
described_tells s false descs = never

awaited_tells : (stage : Stage) (s : State) (m : Message) (xid : ℕ) → TellsEarly (awaited stage s m xid)
awaited_tells Greeting s (messages.Hello version bitmap) xid = pick TellsEarly (speaks version bitmap) _ _ never never
awaited_tells Features s (messages.FeaturesReply reply) xid = λ _. refl
awaited_tells Ports s (messages.PortDescReply more descs) xid = pick TellsEarly (awaits s xid) _ _ (described_tells s more descs) never
awaited_tells Wiping s messages.BarrierReply xid = pick TellsEarly (awaits s xid) _ _ never never
awaited_tells Running s messages.BarrierReply xid = pick TellsEarly (awaits s xid) _ _ never never
awaited_tells Running s (messages.PacketIn packet) xid = never
awaited_tells stage s m xid = never

told_tells : (s : State) (port : PortTold) (b : Bool) → tells_dp (if b then steps.PortChanged port.no else steps.Nothing) ≡ true → has_run s.stage ≡ false
told_tells s port true = never
told_tells s port false = never

changed_tells : (s : State) (reason : ℕ) (port : Option PortTold) → TellsEarly (changed_port s reason port)
changed_tells s reason None = never
changed_tells s reason (Some port) = pick TellsEarly (reason == 1) _ _ never (told_tells s port (takes s.ports port.no))

heard_tells : (s : State) (m : Message) (xid : ℕ) → TellsEarly (heard s m xid)
heard_tells s (messages.Error kind code payload) xid = never
heard_tells s (messages.EchoRequest payload) xid = never
heard_tells s (messages.PortStatus reason port) xid = changed_tells s reason (told_of port)
heard_tells s m xid = awaited_tells s.stage s m xid

heard_in_tells : (stage : Stage) (s : State) (m : Message) (xid : ℕ) → TellsEarly (heard_in stage s m xid)
heard_in_tells Shut s m xid = never
heard_in_tells stage s m xid = heard_tells s m xid

-- ---- one step

module _ (held : List Held) where
  abbrev K : World → Type 0
  K w = Fit w.conns held

  said_kept : (number : ℕ) (m : Message) (w : World) → K w → K (say number m w)
  said_kept number m w kept =
      with_any K (say_by with_said m w) (conn_with w.conns number) w
      (λ c. fit_changed with_said (record { number = λ d. refl; dp = λ d. refl; stage = λ d. refl; sent = λ d. refl }) c.number w.conns held kept) kept

  asked_kept : (number : ℕ) (m : Message) (w : World) → K w → K (ask number m w)
  asked_kept number m w kept =
      with_any K (say_by with_asked m w) (conn_with w.conns number) w
      (λ c. fit_changed with_asked (record { number = λ d. refl; dp = λ d. refl; stage = λ d. refl; sent = λ d. refl }) c.number w.conns held kept) kept

  gone_kept : (number : ℕ) (conns : List Conn) → Fit conns held → Fit (without number conns) held
  gone_kept number conns fit =
      fit_one conns (without number conns) held held number (λ n differs. without_other number n differs conns) (λ n differs. refl)
      (subst (λ o. Fits o (plan_for held number)) (sym (without_own number conns)) tt) fit

  single : Steps K
  single = record {
    sends = λ number out w kept. said_kept number (packet_out out) w kept;
    asks_echo = λ number w kept. said_kept number (messages.EchoRequest []) w kept;
    closes = λ cause number w at kept. gone_kept number w.conns kept;
    looks = λ number w kept. fit_changed (with_looked w.moment) (record { number = λ d. refl; dp = λ d. refl; stage = λ d. refl; sent = λ d. refl }) number w.conns held kept;
    shows = λ moment w kept. kept;
    ages = λ w kept. kept;
    wants = λ group w kept. wants_by K group w kept kept;
    tells = λ text w kept. kept;
  }

  pub closed_fit : (cause : Closing) (number : ℕ) (w : World) → K w → K (close cause number w)
  closed_fit cause number w kept = gone_kept number w.conns kept

  pub ended_fit : (cause : Closing) (number : ℕ) (w : World) → K w → K (ended cause number w)
  ended_fit cause number w kept = gone_kept number w.conns kept

  pub passed_fit : (moment : ℕ) (w : World) → K w → K (pass moment w)
  passed_fit moment w kept = pass_kept K single moment w kept

  pub reloaded_fit : (read : Result Configuration (List ℕ)) (w : World) → K w → K (reload read w)
  reloaded_fit read w kept = reload_kept K single read (λ next v is fits. fits) w kept

  -- ---- what opens

  pub opened_fit : (number : ℕ) (w : World) → is_open w.conns number ≡ false → AreHeld w held → K (open_conn number w)
  opened_fit number w shut are =
      let c : Conn = record { number = number; session = opened w.moment; dp = None; sent = [] } in
      let none = shut_none number w.conns shut in
      said_kept number (messages.Hello 4 (Some 16)) (record w { conns = put c w.conns })
      (fit_one w.conns (put c w.conns) held held number (λ n differs. put_other c n differs w.conns) (λ n differs. refl)
      (subst (λ o. Fits o (plan_for held number)) (sym (put_own c w.conns none)) (subst (λ p. Fits (Some c) p) (sym (are.shut number none)) (inl refl))) are.fit)

  -- ---- one message

  heard_fits : (m : Message) (xid : ℕ) (o : Option Conn) (p : Option Kept) → Fits o p → Fits (option_map (with_heard m xid) o) p
  heard_fits m xid None p fits = tt
  heard_fits m xid (Some c) None (inl none) = inl none
  heard_fits m xid (Some c) None (inr shut) = inr (shut_stays c.session.state m xid shut)
  heard_fits m xid (Some c) (Some p) is = record { sent = is.sent; dp = is.dp; run = run_stays c.session.state m xid is.run }

  heard_kept : (m : Message) (xid number : ℕ) (w : World) → K w → K (forget_lost (record w { conns = change number (with_heard m xid) w.conns }))
  heard_kept m xid number w kept =
      fit_at (with_heard m xid) (λ d. refl) number w.conns held (heard_fits m xid (conn_with w.conns number) (plan_for held number) (kept number)) kept

  taken_fits : (dp : DpId) (o : Option Conn) → Fits o None → Fits (option_map (with_dp dp) o) None
  taken_fits dp None fits = tt
  taken_fits dp (Some c) (inl none) = inl none
  taken_fits dp (Some c) (inr shut) = inr shut

  take_kept : (number : ℕ) (dp : DpId) (w : World) → plan_for held number ≡ None → K w → K (take_dp number dp w)
  take_kept number dp w none kept =
      fit_at (with_dp dp) (λ d. refl) number w.conns held
      (subst (λ p. Fits (option_map (with_dp dp) (conn_with w.conns number)) p) (sym none) (taken_fits dp (conn_with w.conns number) (subst (λ p. Fits (conn_with w.conns number) p) none (kept number)))) kept

  introduce_kept : (number : ℕ) (dp : DpId) (cause : Option Closing) (w : World) → plan_for held number ≡ None → K w → K (introduce number dp cause w)
  introduce_kept number dp (Some cause) w none kept = gone_kept number w.conns kept
  introduce_kept number dp None w none kept =
      asked_kept number messages.PortDescRequest (take_dp number dp (replace dp w)) (take_kept number dp (replace dp w) none (replace_kept K single dp w kept))

  echo_kept : (m : Message) (number xid : ℕ) (w : World) → K w → K (echo m number xid w)
  echo_kept (messages.EchoRequest payload) number xid w kept = kept
  echo_kept m number xid w kept = kept

  turned_kept : (cause : Closing) (number xid : ℕ) (w : World) → K w → K (turn_away cause number xid w)
  turned_kept WrongVersion number xid w kept = gone_kept number w.conns kept
  turned_kept cause number xid w kept = gone_kept number w.conns kept

  follow_kept : (step : Step) (m : Message) (xid number : ℕ) (dp : Option DpId) (w : World) → (tells_dp step ≡ true → plan_for held number ≡ None) → K w → K (follow step m xid number dp w)
  follow_kept steps.Nothing m xid number dp w none kept = kept
  follow_kept steps.AskFeatures m xid number dp w none kept = said_kept number messages.FeaturesRequest w kept
  follow_kept (steps.Features id n_tables auxiliary) m xid number dp w none kept = introduce_kept number id (unfit w.conf id n_tables auxiliary) w (none refl) kept
  follow_kept steps.PortsKnown m xid number dp w none kept = asked_kept number messages.BarrierRequest (say number delete_all w) (said_kept number delete_all w kept)
  follow_kept steps.Wiped m xid number dp w none kept = begin_kept K single dp w kept
  follow_kept steps.Settled m xid number dp w none kept = kept
  follow_kept (steps.PortChanged port) m xid number dp w none kept = kept
  follow_kept steps.Packet m xid number dp w none kept = packet_kept (λ conf conns said. Fit conns held) (λ n out v fits. said_kept n (packet_out out) v fits) m number dp w kept
  follow_kept steps.Echo m xid number dp w none kept = echo_kept m number xid w kept
  follow_kept (steps.Close cause) m xid number dp w none kept = turned_kept cause number xid w kept

  -- where a switch says what it is, no plan is kept of its connection
  none_told : (m : Message) (xid : ℕ) (c : Conn) (p : Option Kept) → Fits (Some (with_heard m xid c)) p → tells_dp (leads c.session.state m xid).1 ≡ true → p ≡ None
  none_told m xid c None fits tells = refl
  none_told m xid c (Some p) is tells = absurd (true≢false (sym is.run ∙ heard_in_tells c.session.state.stage c.session.state m xid tells))

  on_kept : (m : Message) (xid number : ℕ) (w : World) (c : Conn) → conn_with w.conns number ≡ Some c → K w → K (hear_on m xid number w c)
  on_kept m xid number w c at kept =
      let v : World = forget_lost (record w { conns = change number (with_heard m xid) w.conns }) in
      let next : K v = heard_kept m xid number w kept in
      let own : conn_with v.conns number ≡ Some (with_heard m xid c) = changed_own (with_heard m xid) (λ d. refl) number w.conns ∙ ap (option_map (with_heard m xid)) at in
      follow_kept (leads c.session.state m xid).1 m xid number c.dp v (none_told m xid c (plan_for held number) (subst (λ o. Fits o (plan_for held number)) own (next number))) next

  message_kept : (m : Message) (xid number : ℕ) (w : World) → K w → K (hear_message m xid number w)
  message_kept m xid number w kept = by (conn_with w.conns number) refl
    where
      by : (o : Option Conn) → conn_with w.conns number ≡ o → K (option_map_or (hear_on m xid number w) o w)
      by None none = kept
      by (Some c) at = on_kept m xid number w c at kept

  pub frame_fit : (said : Option (Message × ℕ)) (number : ℕ) (w : World) → K w → K (hear_frame said number w)
  frame_fit (Some said) number w kept = message_kept said.0 said.1 number w kept
  frame_fit None number w kept = gone_kept number w.conns kept
