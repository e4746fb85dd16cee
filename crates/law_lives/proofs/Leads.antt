-- By which message a connection is closed, or comes to be a datapath's.
use Rattle.std.proofs.Common.{◌≡◌, ℕ, ◌==◌, Bool, true, false, Option, Some, None, List, refl, if◌then◌else◌}
use Rattle.conf_types.specs.Configuration.{Configuration}
use Rattle.of13_codec.specs.declared.features.FeaturesReply.{FeaturesReply}
use Rattle.of13_codec.specs.declared.message.Message.{Message}
use Rattle.of13_codec.specs.declared.message.Message.TheVariants as messages
use Rattle.of13_codec.specs.declared.ports.PortDesc.{PortDesc}
use Rattle.switch_session.specs.declared.closing.Closing.TheVariants.{WrongVersion}
use Rattle.switch_session.specs.declared.ports.PortTold.{PortTold}
use Rattle.switch_session.specs.declared.state.Stage.{Stage}
use Rattle.switch_session.specs.declared.state.Stage.TheVariants as stages
use Rattle.switch_session.specs.declared.state.Step.{Step}
use Rattle.switch_session.specs.declared.state.Step.TheVariants as steps
use Rattle.switch_session.specs.Stages.{State, answered, awaited, awaits, changed_port, closed, described, heard, heard_in, leads, passed, speaks, with_port_told}
use Rattle.switch_session.specs.Told.{forget, takes, told_of}
use Rattle.law_lives.specs.Causes.{IsOfMessage}

-- what a step says of the message that led to it
abbrev pub OfStep : Configuration → Message → Step → Type 0
OfStep conf m (steps.Close cause) = IsOfMessage conf m cause
OfStep conf m (steps.Features id n_tables auxiliary) =
    (reply : FeaturesReply) × (m ≡ messages.FeaturesReply reply) × (reply.dp ≡ id) × (reply.n_tables ≡ n_tables) × (reply.auxiliary ≡ auxiliary)
OfStep conf m other = Unit {0}

module _ (conf : Configuration) where
  greeted_of : (s : State) (version : ℕ) (bitmap : Option ℕ) (b : Bool) → speaks version bitmap ≡ b
      → OfStep conf (messages.Hello version bitmap) (if b then (record s { stage = stages.Features }, steps.AskFeatures) else closed s WrongVersion).1
  greeted_of s version bitmap true is = tt
  greeted_of s version bitmap false is = (refl, is)

  described_of : (s : State) (m : Message) (more : Bool) (ports : List PortDesc) → OfStep conf m (described s more ports).1
  described_of s m true ports = tt
  described_of s m false ports = tt

  awaited_of : (stage : Stage) (s : State) (m : Message) (xid : ℕ) → OfStep conf m (awaited stage s m xid).1
  awaited_of stages.Greeting s (messages.Hello version bitmap) xid = greeted_of s version bitmap (speaks version bitmap) refl
  awaited_of stages.Features s (messages.FeaturesReply reply) xid = (reply, refl, refl, refl, refl)
  awaited_of stages.Ports s (messages.PortDescReply more ports) xid =
      elim (awaits s xid) as (λ b. OfStep conf (messages.PortDescReply more ports) (if b then described s more ports else passed s).1) [
        | true ↦ described_of s (messages.PortDescReply more ports) more ports
        | false ↦ tt
      ]
  awaited_of stages.Wiping s messages.BarrierReply xid =
      elim (awaits s xid) as (λ b. OfStep conf messages.BarrierReply (if b then answered s steps.Wiped else passed s).1) [ true ↦ tt | false ↦ tt ]
  awaited_of stages.Running s messages.BarrierReply xid =
      elim (awaits s xid) as (λ b. OfStep conf messages.BarrierReply (if b then answered s steps.Settled else passed s).1) [ true ↦ tt | false ↦ tt ]
  awaited_of stages.Running s (messages.PacketIn packet) xid = tt
  awaited_of stage s m xid = tt

  port_of : (s : State) (m : Message) (reason : ℕ) (o : Option PortTold) → OfStep conf m (changed_port s reason o).1
  port_of s m reason None = tt
  port_of s m reason (Some port) =
      elim (reason == 1) as (λ b. OfStep conf m (if b then (record s { ports = forget s.ports port.no }, steps.PortChanged port.no) else with_port_told s port).1) [
        | true ↦ tt
        | false ↦ elim (takes s.ports port.no) as (λ b. OfStep conf m (if b then steps.PortChanged port.no else steps.Nothing)) [ true ↦ tt | false ↦ tt ]
      ]

  heard_of : (s : State) (m : Message) (xid : ℕ) → OfStep conf m (heard s m xid).1
  heard_of s (messages.Error kind code payload) xid = refl
  heard_of s (messages.EchoRequest payload) xid = tt
  heard_of s (messages.PortStatus reason port) xid = port_of s (messages.PortStatus reason port) reason (told_of port)
  heard_of s m xid = awaited_of s.stage s m xid

  in_of : (stage : Stage) (s : State) (m : Message) (xid : ℕ) → OfStep conf m (heard_in stage s m xid).1
  in_of stages.Shut s m xid = tt
  in_of stage s m xid = heard_of s m xid

  pub step_of : (s : State) (m : Message) (xid : ℕ) → OfStep conf m (leads s m xid).1
  step_of s m xid = in_of s.stage s m xid
