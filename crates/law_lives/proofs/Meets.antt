-- What a message that is heard leaves of a life, by the stage and by the step that is taken.
use Rattle.std.proofs.Common.{◌≡◌, ℕ, ◌==◌, Bool, true, false, Option, Some, None, List, [], ◌++◌, is_some, append-nil, refl, sym, subst, ◌∙◌, if◌then◌else◌}
use Rattle.std.specs.List.{AllByRecursion}
use Rattle.net_base.specs.declared.numbers.DpId.{DpId}
use Rattle.of13_codec.specs.declared.message.Message.{Message}
use Rattle.of13_codec.specs.declared.message.Message.TheVariants as messages
use Rattle.switch_session.specs.declared.closing.Closing.TheVariants.{WrongVersion}
use Rattle.switch_session.specs.declared.ports.PortTold.{PortTold}
use Rattle.switch_session.specs.declared.state.Stage.{Stage}
use Rattle.switch_session.specs.declared.state.Stage.TheVariants.{Greeting, Features, Ports, Wiping, Running, Shut}
use Rattle.switch_session.specs.declared.state.Step.{Step}
use Rattle.switch_session.specs.declared.state.Step.TheVariants as steps
use Rattle.switch_session.specs.Stages.{State, answered, awaits, changed_port, closed, described, is_id, leads, passed, speaks, with_port_told as told_port}
use Rattle.switch_session.specs.Told.{forget, takes, tell, tell_all, told_of}
use Rattle.ctl_world.specs.TablesSaid.{is_of_tables}
use Rattle.law_lives.specs.Lives.{asked_after, barrier_after, dp_after}
use Rattle.law_lives.specs.Sessions.{setup_in}

abbrev pub HasRun : List Message → Type 0
HasRun said = (more : List Message) × (said ≡ setup_in Wiping ++ more) × AllByRecursion (λ m. is_of_tables m ≡ true) more

-- of an open connection, where no message is being followed: the datapath, what was said, the barrier that is outstanding, and what
-- is awaited
abbrev pub ByStage : Stage → Option DpId → List Message → Option ℕ → Option ℕ → Type 0
ByStage Greeting dp said barrier awaited = (dp ≡ None) × (said ≡ setup_in Greeting) × (barrier ≡ None)
ByStage Features dp said barrier awaited = (dp ≡ None) × (said ≡ setup_in Features) × (barrier ≡ None)
ByStage Ports dp said barrier awaited = (said ≡ setup_in Ports) × (barrier ≡ None) × (is_some awaited ≡ true)
ByStage Wiping dp said barrier awaited = (said ≡ setup_in Wiping) × (barrier ≡ awaited) × (is_some awaited ≡ true)
ByStage Running dp said barrier awaited = HasRun said × (barrier ≡ awaited)
ByStage Shut dp said barrier awaited = ⊥

-- ---- behind a message, where this was the datapath, and this was said

abbrev pub GoesOn : (before : Option DpId) → List Message → Stage → Option DpId → Option ℕ → Option ℕ → Type 0
GoesOn before said stage dp barrier awaited = (dp ≡ before) × ByStage stage dp said barrier awaited

abbrev pub After : (before : Option DpId) → List Message → Step → Stage → Option DpId → Option ℕ → Option ℕ → Type 0
After before said steps.Nothing stage dp barrier awaited = GoesOn before said stage dp barrier awaited
After before said steps.AskFeatures stage dp barrier awaited = (stage ≡ Features) × (dp ≡ before) × (dp ≡ None) × (said ≡ setup_in Greeting) × (barrier ≡ None)
After before said (steps.Features id n_tables auxiliary) stage dp barrier awaited =
    (stage ≡ Ports) × (before ≡ None) × (dp ≡ Some id) × (said ≡ setup_in Features) × (barrier ≡ None)
After before said steps.PortsKnown stage dp barrier awaited = (stage ≡ Wiping) × (dp ≡ before) × (said ≡ setup_in Ports) × (barrier ≡ None)
After before said steps.Wiped stage dp barrier awaited = GoesOn before said stage dp barrier awaited
After before said steps.Settled stage dp barrier awaited = GoesOn before said stage dp barrier awaited
After before said (steps.PortChanged port) stage dp barrier awaited = GoesOn before said stage dp barrier awaited
After before said steps.Packet stage dp barrier awaited = GoesOn before said stage dp barrier awaited
After before said steps.Echo stage dp barrier awaited = GoesOn before said stage dp barrier awaited
After before said (steps.Close cause) stage dp barrier awaited = Unit {0}

-- what holds where no echo is asked for
abbrev pub UnlessEcho : Step → Type 0 → Type 0
UnlessEcho steps.Nothing P = P
UnlessEcho steps.AskFeatures P = P
UnlessEcho (steps.Features id n_tables auxiliary) P = P
UnlessEcho steps.PortsKnown P = P
UnlessEcho steps.Wiped P = P
UnlessEcho steps.Settled P = P
UnlessEcho (steps.PortChanged port) P = P
UnlessEcho steps.Packet P = P
UnlessEcho steps.Echo P = Unit {0}
UnlessEcho (steps.Close cause) P = P

none_left : (barrier : Option ℕ) (xid : ℕ) → barrier ≡ None → (if is_id barrier xid then None else barrier) ≡ None
none_left barrier xid none = elim (is_id barrier xid) as (λ b. (if b then None else barrier) ≡ None) [ true ↦ refl | false ↦ none ]

module _ (before : Option DpId) (said : List Message) (asked : List (List ℕ × ℕ)) where
  abbrev Goes : State × Step → Option ℕ → Option DpId → List (List ℕ × ℕ) → Type 0
  Goes r barrier dp now = After before said r.1 r.0.stage dp barrier r.0.awaited × UnlessEcho r.1 (now ≡ asked)

  either : (b : Bool) (r q : State × Step) (barrier : Option ℕ) (dp : Option DpId) (now : List (List ℕ × ℕ)) → Goes r barrier dp now → Goes q barrier dp now → Goes (if b then r else q) barrier dp now
  either true r q barrier dp now here there = here
  either false r q barrier dp now here there = there

  told_goes : (s : State) (port : PortTold) (barrier : Option ℕ) → ByStage s.stage before said barrier s.awaited → Goes (told_port s port) barrier before asked
  told_goes s port barrier fits =
      elim (takes s.ports port.no) as (λ b. Goes (record s { ports = tell s.ports port }, if b then steps.PortChanged port.no else steps.Nothing) barrier before asked) [
        | true ↦ ((refl, fits), refl)
        | false ↦ ((refl, fits), refl)
      ]

  port_goes : (s : State) (reason : ℕ) (o : Option PortTold) (barrier : Option ℕ) → ByStage s.stage before said barrier s.awaited → Goes (changed_port s reason o) barrier before asked
  port_goes s reason None barrier fits = ((refl, fits), refl)
  port_goes s reason (Some port) barrier fits =
      either (reason == 1) (record s { ports = forget s.ports port.no }, steps.PortChanged port.no) (told_port s port) barrier before asked ((refl, fits), refl) (told_goes s port barrier fits)

  by_stage : (stage : Stage) (awaited barrier : Option ℕ) (ports : List PortTold) (m : Message) (xid : ℕ) → ByStage stage before said barrier awaited
      → Goes (leads (record { stage = stage; awaited = awaited; ports = ports }) m xid) (barrier_after m xid barrier) (dp_after stage m before) (asked_after m xid asked)
  by_stage Shut a b ps m xid fits = absurd fits
  by_stage Greeting a b ps (messages.Error kind code payload) xid fits = (tt, refl)
  by_stage Greeting a b ps (messages.EchoRequest payload) xid fits = ((refl, fits), tt)
  by_stage Greeting a b ps (messages.PortStatus reason port) xid fits = port_goes (record { stage = Greeting; awaited = a; ports = ps }) reason (told_of port) b fits
  by_stage Greeting a b ps (messages.Hello version bitmap) xid fits =
      let s : State = record { stage = Greeting; awaited = a; ports = ps } in
      either (speaks version bitmap) (record s { stage = Features }, steps.AskFeatures) (closed s WrongVersion) b before asked ((refl, refl, fits.0, fits.1, fits.2), refl) (tt, refl)
  by_stage Greeting a b ps messages.BarrierReply xid fits = ((refl, (fits.0, fits.1, none_left b xid fits.2)), refl)
  by_stage Greeting a b ps m xid fits = ((refl, fits), refl)
  by_stage Features a b ps (messages.Error kind code payload) xid fits = (tt, refl)
  by_stage Features a b ps (messages.EchoRequest payload) xid fits = ((refl, fits), tt)
  by_stage Features a b ps (messages.PortStatus reason port) xid fits = port_goes (record { stage = Features; awaited = a; ports = ps }) reason (told_of port) b fits
  by_stage Features a b ps (messages.FeaturesReply reply) xid fits = ((refl, fits.0, refl, fits.1, fits.2), refl)
  by_stage Features a b ps messages.BarrierReply xid fits = ((refl, (fits.0, fits.1, none_left b xid fits.2)), refl)
  by_stage Features a b ps m xid fits = ((refl, fits), refl)
  by_stage Ports a b ps (messages.Error kind code payload) xid fits = (tt, refl)
  by_stage Ports a b ps (messages.EchoRequest payload) xid fits = ((refl, fits), tt)
  by_stage Ports a b ps (messages.PortStatus reason port) xid fits = port_goes (record { stage = Ports; awaited = a; ports = ps }) reason (told_of port) b fits
  by_stage Ports a b ps (messages.PortDescReply more ports) xid fits =
      let s : State = record { stage = Ports; awaited = a; ports = ps } in
      let all : List PortTold = tell_all ps ports in
      either (awaits s xid) (described s more ports) (passed s) b before asked
      (either more (record s { ports = all }, steps.Nothing) (record s { stage = Wiping; awaited = None; ports = all }, steps.PortsKnown) b before asked
      ((refl, fits), refl) ((refl, refl, fits.0, fits.1), refl))
      ((refl, fits), refl)
  by_stage Ports a b ps messages.BarrierReply xid fits = ((refl, (fits.0, none_left b xid fits.1, fits.2)), refl)
  by_stage Ports a b ps m xid fits = ((refl, fits), refl)
  by_stage Wiping a b ps (messages.Error kind code payload) xid fits = (tt, refl)
  by_stage Wiping a b ps (messages.EchoRequest payload) xid fits = ((refl, fits), tt)
  by_stage Wiping a b ps (messages.PortStatus reason port) xid fits = port_goes (record { stage = Wiping; awaited = a; ports = ps }) reason (told_of port) b fits
  by_stage Wiping a b ps messages.BarrierReply xid fits =
      let s : State = record { stage = Wiping; awaited = a; ports = ps } in
      subst (λ (x : Option ℕ). Goes (leads s messages.BarrierReply xid) (if is_id x xid then None else x) before asked) (sym fits.1)
      (elim (is_id a xid) as (λ t. Goes (if t then answered s steps.Wiped else passed s) (if t then None else a) before asked) [
        | true ↦ ((refl, (([], fits.0 ∙ sym (append-nil (setup_in Wiping)), tt), refl)), refl)
        | false ↦ ((refl, (fits.0, refl, fits.2)), refl)
      ])
  by_stage Wiping a b ps m xid fits = ((refl, fits), refl)
  by_stage Running a b ps (messages.Error kind code payload) xid fits = (tt, refl)
  by_stage Running a b ps (messages.EchoRequest payload) xid fits = ((refl, fits), tt)
  by_stage Running a b ps (messages.PortStatus reason port) xid fits = port_goes (record { stage = Running; awaited = a; ports = ps }) reason (told_of port) b fits
  by_stage Running a b ps messages.BarrierReply xid fits =
      let s : State = record { stage = Running; awaited = a; ports = ps } in
      subst (λ (x : Option ℕ). Goes (leads s messages.BarrierReply xid) (if is_id x xid then None else x) before asked) (sym fits.1)
      (elim (is_id a xid) as (λ t. Goes (if t then answered s steps.Settled else passed s) (if t then None else a) before asked) [
        | true ↦ ((refl, (fits.0, refl)), refl)
        | false ↦ ((refl, (fits.0, refl)), refl)
      ])
  by_stage Running a b ps (messages.PacketIn packet) xid fits = ((refl, fits), refl)
  by_stage Running a b ps m xid fits = ((refl, fits), refl)

  pub met : (s : State) (m : Message) (xid : ℕ) (barrier : Option ℕ) → ByStage s.stage before said barrier s.awaited
      → After before said (leads s m xid).1 (leads s m xid).0.stage (dp_after s.stage m before) (barrier_after m xid barrier) (leads s m xid).0.awaited
      × UnlessEcho (leads s m xid).1 (asked_after m xid asked ≡ asked)
  met s m xid barrier fits = by_stage s.stage s.awaited barrier s.ports m xid fits
