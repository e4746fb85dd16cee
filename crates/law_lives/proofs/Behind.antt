-- A packet counts on a connection whose tables are wiped, and leaves it; a switch that says what it is is asked for its ports.
use Rattle.std.proofs.Common.{◌≡◌, ℕ, ◌==◌, Bool, true, false, Option, Some, None, List, refl, sym, ap, subst, ◌∙◌, true≢false, if◌then◌else◌}
use Rattle.of13_codec.specs.declared.message.Message.{Message}
use Rattle.of13_codec.specs.declared.message.Message.TheVariants as messages
use Rattle.of13_codec.specs.declared.packet_in.PacketIn.{PacketIn}
use Rattle.of13_codec.specs.declared.ports.PortDesc.{PortDesc}
use Rattle.switch_session.specs.declared.closing.Closing.TheVariants.{WrongVersion}
use Rattle.switch_session.specs.declared.ports.PortTold.{PortTold}
use Rattle.switch_session.specs.declared.state.Stage.{Stage}
use Rattle.switch_session.specs.declared.state.Stage.TheVariants as stages
use Rattle.switch_session.specs.declared.state.Step.{Step}
use Rattle.switch_session.specs.declared.state.Step.TheVariants as steps
use Rattle.switch_session.specs.Stages.{State, answered, awaited, awaits, changed_port, closed, described, heard, heard_in, leads, passed, speaks, with_port_told}
use Rattle.switch_session.specs.Told.{forget, takes, told_of}
use Rattle.ctl_world.specs.World.{runs}

-- what a step says of the state before, the message, and the state behind
abbrev pub Behind : State → Message → State → Step → Type 0
Behind s m next steps.Packet = (p : PacketIn) × (m ≡ messages.PacketIn p) × (s.stage ≡ stages.Running) × (next ≡ s)
Behind s m next (steps.Features id n_tables auxiliary) = next.stage ≡ stages.Ports
Behind s m next other = Unit {0}

abbrev Led : State → Message → State × Step → Type 0
Led s m led = Behind s m led.0 led.1

greeted_led : (s : State) (m : Message) (b : Bool) → Led s m (if b then (record s { stage = stages.Features }, steps.AskFeatures) else closed s WrongVersion)
greeted_led s m true = tt
greeted_led s m false = tt

described_led : (s : State) (m : Message) (more : Bool) (ports : List PortDesc) → Led s m (described s more ports)
described_led s m true ports = tt
described_led s m false ports = tt

awaited_led : (stage : Stage) (s : State) (m : Message) (xid : ℕ) → s.stage ≡ stage → Led s m (awaited stage s m xid)
awaited_led stages.Greeting s (messages.Hello version bitmap) xid at = greeted_led s (messages.Hello version bitmap) (speaks version bitmap)
awaited_led stages.Features s (messages.FeaturesReply reply) xid at = refl
awaited_led stages.Ports s (messages.PortDescReply more ports) xid at =
    elim (awaits s xid) as (λ b. Led s (messages.PortDescReply more ports) (if b then described s more ports else passed s)) [
      | true ↦ described_led s (messages.PortDescReply more ports) more ports
      | false ↦ tt
    ]
awaited_led stages.Wiping s messages.BarrierReply xid at =
    elim (awaits s xid) as (λ b. Led s messages.BarrierReply (if b then answered s steps.Wiped else passed s)) [ true ↦ tt | false ↦ tt ]
awaited_led stages.Running s messages.BarrierReply xid at =
    elim (awaits s xid) as (λ b. Led s messages.BarrierReply (if b then answered s steps.Settled else passed s)) [ true ↦ tt | false ↦ tt ]
awaited_led stages.Running s (messages.PacketIn packet) xid at = (packet, refl, at, refl)
awaited_led stage s m xid at = tt

port_led : (s : State) (m : Message) (reason : ℕ) (o : Option PortTold) → Led s m (changed_port s reason o)
port_led s m reason None = tt
port_led s m reason (Some port) =
    elim (reason == 1) as (λ b. Led s m (if b then (record s { ports = forget s.ports port.no }, steps.PortChanged port.no) else with_port_told s port)) [
      | true ↦ tt
      | false ↦ elim (takes s.ports port.no) as (λ b. Behind s m (with_port_told s port).0 (if b then steps.PortChanged port.no else steps.Nothing)) [ true ↦ tt | false ↦ tt ]
    ]

heard_led : (s : State) (m : Message) (xid : ℕ) → Led s m (heard s m xid)
heard_led s (messages.Error kind code payload) xid = tt
heard_led s (messages.EchoRequest payload) xid = tt
heard_led s (messages.PortStatus reason port) xid = port_led s (messages.PortStatus reason port) reason (told_of port)
heard_led s m xid = awaited_led s.stage s m xid refl

in_led : (stage : Stage) (s : State) (m : Message) (xid : ℕ) → Led s m (heard_in stage s m xid)
in_led stages.Shut s m xid = tt
in_led stage s m xid = heard_led s m xid

pub step_led : (s : State) (m : Message) (xid : ℕ) → Behind s m (leads s m xid).0 (leads s m xid).1
step_led s m xid = in_led s.stage s m xid

-- a packet is one there
pub runs_is : (stage : Stage) → runs stage ≡ true → stage ≡ stages.Running
runs_is stages.Greeting is = absurd (true≢false (sym is))
runs_is stages.Features is = absurd (true≢false (sym is))
runs_is stages.Ports is = absurd (true≢false (sym is))
runs_is stages.Wiping is = absurd (true≢false (sym is))
runs_is stages.Running is = refl
runs_is stages.Shut is = absurd (true≢false (sym is))

pub packet_led : (s : State) (p : PacketIn) (xid : ℕ) → runs s.stage ≡ true → (leads s (messages.PacketIn p) xid).1 ≡ steps.Packet
packet_led s p xid is =
    let at : s.stage ≡ stages.Running = runs_is s.stage is in
    ap (λ (stage : Stage). (heard_in stage s (messages.PacketIn p) xid).1) at ∙ ap (λ (stage : Stage). (awaited stage s (messages.PacketIn p) xid).1) at
