-- By the stage of a connection, what was said of the tables on it; and what a message that is heard leaves of that.
use Rattle.std.proofs.Common.{◌≡◌, ℕ, ◌==◌, Bool, true, false, Option, Some, None, List, [], ◌∷◌, ◌++◌, nat_lt, refl, sym, subst, ◌∙◌, if◌then◌else◌}
use Rattle.std.specs.List.{AllByRecursion}
use Rattle.std.proofs.lemmas.Option.{none-some}
use Rattle.of_match.specs.declared.entry.Command.TheVariants.{DeleteAll}
use Rattle.of_match.specs.declared.entry.Entry.{Entry}
use Rattle.of_match.proofs.Settling.{wiped}
use Rattle.of13_codec.specs.declared.message.Message.{Message}
use Rattle.of13_codec.specs.declared.message.Message.TheVariants as messages
use Rattle.switch_session.specs.declared.closing.Closing.TheVariants.{WrongVersion}
use Rattle.switch_session.specs.declared.ports.PortTold.{PortTold}
use Rattle.switch_session.specs.declared.state.Stage.{Stage}
use Rattle.switch_session.specs.declared.state.Stage.TheVariants.{Greeting, Features, Ports, Wiping, Running, Shut}
use Rattle.switch_session.specs.declared.state.Step.{Step}
use Rattle.switch_session.specs.declared.state.Step.TheVariants as steps
use Rattle.switch_session.specs.Stages.{State, answered, awaits, changed_port, closed, described, leads, passed, speaks, with_port_told as told_port}
use Rattle.switch_session.specs.Told.{forget, takes, tell, tell_all, told_of}
use Rattle.flow_messages.specs.Commands.{barrier, command, nothing}
use Rattle.flow_messages.specs.Messages.{delete_all}
use Rattle.law_stories.specs.Right.{LeadsTo}
use Rattle.law_stories.proofs.Ways.{Way}

abbrev pub Told : Type 0
Told = List (Message × ℕ)

-- its table is one of a switch
abbrev pub IsLow : Entry → Type 0
IsLow e = nat_lt e.key.table 0xff ≡ true

-- a barrier with this transaction id is the last that was said of the tables
abbrev pub EndsIn : Told → ℕ → Type 0
EndsIn told xid = (before : Told) × (told ≡ before ++ (messages.BarrierRequest, xid) ∷ [])

-- nothing was said of the tables
pub record IsBare (sent : List Entry) (told : Told) : Type 0 where
  pub none : told ≡ []
  pub empty : sent ≡ []

-- the wipe was said, and its barrier is awaited
pub record IsWiping (awaited : Option ℕ) (sent : List Entry) (told : Told) : Type 0 where
  pub wipe : ℕ
  pub xid : ℕ
  pub is : told ≡ (delete_all, wipe) ∷ (messages.BarrierRequest, xid) ∷ []
  pub awaits : awaited ≡ Some xid
  pub empty : sent ≡ []

-- what was said leads to what was noted
pub record IsNoting (awaited : Option ℕ) (sent : List Entry) (told : Told) : Type 0 where
  pub leads : LeadsTo told sent
  pub low : AllByRecursion IsLow sent
  pub last : (xid : ℕ) → awaited ≡ Some xid → EndsIn told xid

abbrev pub Fits : Stage → Option ℕ → List Entry → Told → Type 0
Fits Greeting awaited sent told = IsBare sent told
Fits Features awaited sent told = IsBare sent told
Fits Ports awaited sent told = IsBare sent told
Fits Wiping awaited sent told = IsWiping awaited sent told
Fits Running awaited sent told = IsNoting awaited sent told
Fits Shut awaited sent told = Unit {0}

abbrev pub FitsEach : Way
FitsEach n = Fits

-- ---- what a message that is heard leaves, by the step that is taken

-- in this stage, with nothing said of the tables yet
pub record IsAt (now stage : Stage) (sent : List Entry) (told : Told) : Type 0 where
  pub stands : now ≡ stage
  pub bare : IsBare sent told

abbrev pub After : Step → Stage → Option ℕ → List Entry → Told → Type 0
After steps.Nothing stage awaited sent told = Fits stage awaited sent told
After steps.AskFeatures stage awaited sent told = Fits stage awaited sent told
After (steps.Features id n_tables auxiliary) stage awaited sent told = IsAt stage Ports sent told
After steps.PortsKnown stage awaited sent told = IsAt stage Wiping sent told
After steps.Wiped stage awaited sent told = Fits stage awaited sent told
After steps.Settled stage awaited sent told = Fits stage awaited sent told
After (steps.PortChanged port) stage awaited sent told = Fits stage awaited sent told
After steps.Packet stage awaited sent told = Fits stage awaited sent told
After steps.Echo stage awaited sent told = Fits stage awaited sent told
After (steps.Close cause) stage awaited sent told = Unit {0}

abbrev Goes : State × Step → List Entry → Told → Type 0
Goes r sent told = After r.1 r.0.stage r.0.awaited sent told

-- ---- batches, one behind the other

-- the wipe and its barrier lead to no entries
wiped_leads : (wipe xid : ℕ) → LeadsTo ((delete_all, wipe) ∷ (messages.BarrierRequest, xid) ∷ []) []
wiped_leads wipe xid = ((DeleteAll ∷ []) ∷ [], command _ DeleteAll _ _ _ refl (barrier [] [] nothing), λ held settled (between, wiping, last). last ∙ wiped held between wiping)

wiped_fits : (awaited : Option ℕ) (sent : List Entry) (told : Told) → IsWiping awaited sent told → IsNoting None sent told
wiped_fits awaited sent told is = record {
  leads = subst (λ t. LeadsTo t sent) (sym is.is) (subst (LeadsTo ((delete_all, is.wipe) ∷ (messages.BarrierRequest, is.xid) ∷ [])) (sym is.empty) (wiped_leads is.wipe is.xid));
  low = subst (AllByRecursion IsLow) (sym is.empty) tt;
  last = λ xid some. absurd (none-some xid some);
}

-- ---- what a message that is heard leaves

module _ (sent : List Entry) (told : Told) where
  either : (b : Bool) (r q : State × Step) → Goes r sent told → Goes q sent told → Goes (if b then r else q) sent told
  either true r q here there = here
  either false r q here there = there

  told_fits : (s : State) (port : PortTold) → Fits s.stage s.awaited sent told → Goes (told_port s port) sent told
  told_fits s port fits =
      elim (takes s.ports port.no) as (λ b. Goes (record s { ports = tell s.ports port }, if b then steps.PortChanged port.no else steps.Nothing) sent told) [ true ↦ fits | false ↦ fits ]

  port_fits : (s : State) (reason : ℕ) (o : Option PortTold) → Fits s.stage s.awaited sent told → Goes (changed_port s reason o) sent told
  port_fits s reason None fits = fits
  port_fits s reason (Some port) fits =
      either (reason == 1) (record s { ports = forget s.ports port.no }, steps.PortChanged port.no) (told_port s port) fits (told_fits s port fits)

  by_stage : (stage : Stage) (awaited : Option ℕ) (ports : List PortTold) (m : Message) (xid : ℕ) → Fits stage awaited sent told
      → Goes (leads (record { stage = stage; awaited = awaited; ports = ports }) m xid) sent told
  by_stage Shut a ps m xid fits = fits
  by_stage Greeting a ps (messages.Error kind code payload) xid fits = tt
  by_stage Greeting a ps (messages.EchoRequest payload) xid fits = fits
  by_stage Greeting a ps (messages.PortStatus reason port) xid fits = port_fits (record { stage = Greeting; awaited = a; ports = ps }) reason (told_of port) fits
  by_stage Greeting a ps (messages.Hello version bitmap) xid fits =
      let s : State = record { stage = Greeting; awaited = a; ports = ps } in
      either (speaks version bitmap) (record s { stage = Features }, steps.AskFeatures) (closed s WrongVersion) fits tt
  by_stage Greeting a ps m xid fits = fits
  by_stage Features a ps (messages.Error kind code payload) xid fits = tt
  by_stage Features a ps (messages.EchoRequest payload) xid fits = fits
  by_stage Features a ps (messages.PortStatus reason port) xid fits = port_fits (record { stage = Features; awaited = a; ports = ps }) reason (told_of port) fits
  by_stage Features a ps (messages.FeaturesReply reply) xid fits = record { stands = refl; bare = fits }
  by_stage Features a ps m xid fits = fits
  by_stage Ports a ps (messages.Error kind code payload) xid fits = tt
  by_stage Ports a ps (messages.EchoRequest payload) xid fits = fits
  by_stage Ports a ps (messages.PortStatus reason port) xid fits = port_fits (record { stage = Ports; awaited = a; ports = ps }) reason (told_of port) fits
  by_stage Ports a ps (messages.PortDescReply more ports) xid fits =
      let s : State = record { stage = Ports; awaited = a; ports = ps } in
      let all : List PortTold = tell_all ps ports in
      either (awaits s xid) (described s more ports) (passed s)
      (either more (record s { ports = all }, steps.Nothing) (record s { stage = Wiping; awaited = None; ports = all }, steps.PortsKnown) fits (record { stands = refl; bare = fits })) fits
  by_stage Ports a ps m xid fits = fits
  by_stage Wiping a ps (messages.Error kind code payload) xid fits = tt
  by_stage Wiping a ps (messages.EchoRequest payload) xid fits = fits
  by_stage Wiping a ps (messages.PortStatus reason port) xid fits = port_fits (record { stage = Wiping; awaited = a; ports = ps }) reason (told_of port) fits
  by_stage Wiping a ps messages.BarrierReply xid fits =
      let s : State = record { stage = Wiping; awaited = a; ports = ps } in
      either (awaits s xid) (answered s steps.Wiped) (passed s) (wiped_fits a sent told fits) fits
  by_stage Wiping a ps m xid fits = fits
  by_stage Running a ps (messages.Error kind code payload) xid fits = tt
  by_stage Running a ps (messages.EchoRequest payload) xid fits = fits
  by_stage Running a ps (messages.PortStatus reason port) xid fits = port_fits (record { stage = Running; awaited = a; ports = ps }) reason (told_of port) fits
  by_stage Running a ps messages.BarrierReply xid fits =
      let s : State = record { stage = Running; awaited = a; ports = ps } in
      either (awaits s xid) (answered s steps.Settled) (passed s)
      (record { leads = fits.leads; low = fits.low; last = λ id some. absurd (none-some id some) }) fits
  by_stage Running a ps (messages.PacketIn packet) xid fits = fits
  by_stage Running a ps m xid fits = fits

  pub heard_fits : (s : State) (m : Message) (xid : ℕ) → Fits s.stage s.awaited sent told → Goes (leads s m xid) sent told
  heard_fits s m xid fits = by_stage s.stage s.awaited s.ports m xid fits
