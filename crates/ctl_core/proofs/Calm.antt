-- A message that leaves the state of its connection takes a step that changes at most what a packet tells.
use Rattle.std.proofs.Common.{◌≡◌, ℕ, ◌==◌, not, Bool, true, false, Option, Some, None, refl, sym, true≢false, if◌then◌else◌}
use Rattle.of13_codec.specs.declared.message.Message.{Message}
use Rattle.of13_codec.specs.declared.message.Message.TheVariants.{Hello, Error, EchoRequest, FeaturesReply, PacketIn, PortStatus, PortDescReply, BarrierReply}
use Rattle.switch_session.specs.declared.ports.PortTold.{PortTold}
use Rattle.switch_session.specs.declared.state.Stage.{Stage}
use Rattle.switch_session.specs.declared.state.Stage.TheVariants.{Greeting, Features, Ports, Wiping, Running, Shut}
use Rattle.switch_session.specs.declared.state.Step.{Step}
use Rattle.switch_session.specs.declared.state.Step.TheVariants as steps
use Rattle.switch_session.specs.Stages.{State, answered, awaited, awaits, changed_port, described, heard, heard_in, leads, passed, with_port_told}
use Rattle.switch_session.specs.Staying.{is_passed, leaves}
use Rattle.switch_session.specs.Told.{forget, takes, told_of}
use Rattle.ctl_core.specs.Told.{is_calm}

told_calm : (s : State) (port : PortTold) → is_calm (with_port_told s port).1 ≡ true
told_calm s port = elim (takes s.ports port.no) as (λ b. is_calm (if b then steps.PortChanged port.no else steps.Nothing) ≡ true) [ true ↦ refl | false ↦ refl ]

changed_calm : (s : State) (reason : ℕ) (o : Option PortTold) → is_calm (changed_port s reason o).1 ≡ true
changed_calm s reason None = refl
changed_calm s reason (Some port) =
    elim (reason == 1) as (λ b. is_calm (if b then (record s { ports = forget s.ports port.no }, steps.PortChanged port.no) else with_port_told s port).1 ≡ true) [ true ↦ refl | false ↦ told_calm s port ]

-- what isn't awaited is passed over
passed_calm : (b : Bool) (s : State) (other : State × Step) → not b ≡ true → is_calm (if b then other else passed s).1 ≡ true
passed_calm true s other is = absurd (true≢false (sym is))
passed_calm false s other is = refl

awaited_calm : (stage : Stage) (s : State) (m : Message) (xid : ℕ) → is_passed stage s m xid ≡ true → is_calm (awaited stage s m xid).1 ≡ true
awaited_calm Greeting s (Hello version bitmap) xid is = absurd (true≢false (sym is))
awaited_calm Features s (FeaturesReply reply) xid is = absurd (true≢false (sym is))
awaited_calm Ports s (PortDescReply more ports) xid is = passed_calm (awaits s xid) s (described s more ports) is
awaited_calm Wiping s BarrierReply xid is = passed_calm (awaits s xid) s (answered s steps.Wiped) is
awaited_calm Running s BarrierReply xid is = passed_calm (awaits s xid) s (answered s steps.Settled) is
awaited_calm Running s (PacketIn packet) xid is = refl
awaited_calm stage s m xid is = refl

heard_calm : (s : State) (m : Message) (xid : ℕ) → leaves s m xid ≡ true → is_calm (heard s m xid).1 ≡ true
heard_calm s (Error kind code payload) xid is = absurd (true≢false (sym is))
heard_calm s (EchoRequest payload) xid is = refl
heard_calm s (PortStatus reason port) xid is = changed_calm s reason (told_of port)
heard_calm s m xid is = awaited_calm s.stage s m xid is

in_calm : (stage : Stage) (s : State) (m : Message) (xid : ℕ) → is_calm (heard s m xid).1 ≡ true → is_calm (heard_in stage s m xid).1 ≡ true
in_calm Shut s m xid is = refl
in_calm stage s m xid is = is

pub leaves_calm : (s : State) (m : Message) (xid : ℕ) → leaves s m xid ≡ true → is_calm (leads s m xid).1 ≡ true
leaves_calm s m xid is = in_calm s.stage s m xid (heard_calm s m xid is)
