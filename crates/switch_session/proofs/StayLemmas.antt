-- A message that leaves the state of a connection leads to the state that it was in.
use Rattle.std.proofs.Common.{◌≡◌, ℕ, ◌==◌, ◌&&◌, ◌||◌, Bool, true, false, cond, not, Option, Some, None, List, [], ◌∷◌, ◌++◌, length, nat_lt, refl, inl, inr, sym, ap, ◌∙◌, if◌then◌else◌}
use Rattle.std.specs.List.{list_any}
use Rattle.std.proofs.lemmas.Bool.{cases_Bool, eqb-true, false≢true}
use Rattle.of13_codec.specs.declared.message.Message.{Message}
use Rattle.of13_codec.specs.declared.message.Message.TheVariants as messages
use Rattle.switch_session.specs.declared.ports.PortTold.{PortTold}
use Rattle.switch_session.specs.declared.state.Stage.{Stage}
use Rattle.switch_session.specs.declared.state.Stage.TheVariants.{Greeting, Features, Ports, Wiping, Running, Shut}
use Rattle.switch_session.specs.declared.state.Step.TheVariants.{Wiped, Settled}
use Rattle.switch_session.specs.Stages.{State, answered, awaited, awaits, changed_port, described, heard, heard_in, leads, passed}
use Rattle.switch_session.specs.Told.{forget, knows, tell, told_anew, told_of}
use Rattle.switch_session.specs.Staying.{differs, is_passed, is_told, leaves, leaves_ports}

-- ---- ports

none_gone : (n : ℕ) (ports : List PortTold) → knows ports n ≡ false → forget ports n ≡ ports
none_gone n [] none = refl
none_gone n (p ∷ ports) none =
    elim (cases_Bool (p.no == n)) [
      | inl here ↦ absurd (false≢true (sym none ∙ ap (λ b. b || knows ports n) here))
      | inr other ↦
          ap (λ b. cond (not b) (p ∷ forget ports n) (forget ports n)) other ∙ ap (λ ps. p ∷ ps) (none_gone n ports (sym (ap (λ b. b || knows ports n) other) ∙ none))
    ]

is_up_too : (a b : Bool) → (if a then not b else b) ≡ false → a ≡ b
is_up_too true true same = refl
is_up_too true false same = same
is_up_too false true same = sym same
is_up_too false false same = refl

or_none : (a b : Bool) → (a || b) ≡ false → (a ≡ false) × (b ≡ false)
or_none true b none = absurd (false≢true (sym none))
or_none false b none = (refl, none)

told_so : (port : PortTold) (ports : List PortTold) → list_any (differs port) ports ≡ false → told_anew ports port ≡ ports
told_so port [] none = refl
told_so port (p ∷ ports) none =
    elim (cases_Bool (p.no == port.no)) [
      | inl here ↦
          let no : p.no ≡ port.no = eqb-true p.no port.no here in
          let all : ((if port.up then not p.up else p.up) || list_any (differs port) ports) ≡ false = sym (ap (λ b. (b && (if port.up then not p.up else p.up)) || list_any (differs port) ports) here) ∙ none in
          let both = or_none (if port.up then not p.up else p.up) (list_any (differs port) ports) all in
          let up : port.up ≡ p.up = is_up_too port.up p.up both.0 in
          ap (λ b. (if b then port else p) ∷ told_anew ports port) here ∙ (λ i. record { no = sym no i; up = up i } ∷ told_so port ports both.1 i)
      | inr other ↦
          let rest : list_any (differs port) ports ≡ false = sym (ap (λ b. (b && (if port.up then not p.up else p.up)) || list_any (differs port) ports) other) ∙ none in
          ap (λ b. (if b then port else p) ∷ told_anew ports port) other ∙ ap (λ ps. p ∷ ps) (told_so port ports rest)
    ]

not_true : (b : Bool) → not b ≡ true → b ≡ false
not_true true is = sym is
not_true false is = refl

tells_nothing : (port : PortTold) (ports : List PortTold) → is_told ports port ≡ true → tell ports port ≡ ports
unfolding tell
tells_nothing port ports is = by (knows ports port.no) (nat_lt (length ports) 4096) is
  where
    by : (known room : Bool) → (if known then not (list_any (differs port) ports) else not room) ≡ true
        → (if known then told_anew ports port else (if room then ports ++ port ∷ [] else ports)) ≡ ports
    by true room same = told_so port ports (not_true (list_any (differs port) ports) same)
    by false true full = absurd (false≢true full)
    by false false full = refl

ports_left : (s : State) (reason : ℕ) (o : Option PortTold) → leaves_ports s.ports reason o ≡ true → (changed_port s reason o).0 ≡ s
ports_left s reason None is = refl
ports_left s reason (Some port) is = by (reason == 1) refl is
  where
    by : (b : Bool) → (reason == 1) ≡ b → (if b then not (knows s.ports port.no) else is_told s.ports port) ≡ true → (changed_port s reason (Some port)).0 ≡ s
    by true gone is = rw gone (ap (λ ports. record s { ports = ports }) (none_gone port.no s.ports (not_true (knows s.ports port.no) is)))
    by false told is = rw told (ap (λ ports. record s { ports = ports }) (tells_nothing port s.ports is))

-- ---- the stages

stage_left : (stage : Stage) (s : State) (m : Message) (xid : ℕ) → is_passed stage s m xid ≡ true → (awaited stage s m xid).0 ≡ s
stage_left Greeting s (messages.Hello version bitmap) xid is = absurd (false≢true is)
stage_left Features s (messages.FeaturesReply reply) xid is = absurd (false≢true is)
stage_left Ports s (messages.PortDescReply more ports) xid is = ap (λ b. (if b then described s more ports else passed s).0) (not_true (awaits s xid) is)
stage_left Wiping s messages.BarrierReply xid is = ap (λ b. (if b then answered s Wiped else passed s).0) (not_true (awaits s xid) is)
stage_left Running s messages.BarrierReply xid is = ap (λ b. (if b then answered s Settled else passed s).0) (not_true (awaits s xid) is)
stage_left Running s (messages.PacketIn packet) xid is = refl
stage_left stage s m xid is = refl

heard_left : (s : State) (m : Message) (xid : ℕ) → leaves s m xid ≡ true → (heard s m xid).0 ≡ s
heard_left s (messages.Error kind code payload) xid is = absurd (false≢true is)
heard_left s (messages.EchoRequest payload) xid is = refl
heard_left s (messages.PortStatus reason port) xid is = ports_left s reason (told_of port) is
heard_left s m xid is = stage_left s.stage s m xid is

pub left : (s : State) (m : Message) (xid : ℕ) → leaves s m xid ≡ true → (leads s m xid).0 ≡ s
left s m xid is =
    let same = heard_left s m xid is in
    elim s.stage as (λ stage. (heard_in stage s m xid).0 ≡ s) [
      | Greeting ↦ same
      | Features ↦ same
      | Ports ↦ same
      | Wiping ↦ same
      | Running ↦ same
      | Shut ↦ refl
    ]
