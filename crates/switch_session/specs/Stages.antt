-- What a message does to a connection: the controller's side of the setup (OpenFlow 1.3, 6.3) and of what follows it.
use Rattle.std.specs.Prelude.{ℕ, Bool, false, not, ◌==◌, nat_le, if◌then◌else◌, List, Option, Some, None, bit_and}
use Rattle.of13_codec.specs.declared.message.Message.{Message}
use Rattle.of13_codec.specs.declared.message.Message.TheVariants.{Hello, Error, EchoRequest, FeaturesReply as Reply, PacketIn, PortStatus, PortDescReply, BarrierReply}
use Rattle.of13_codec.specs.declared.features.FeaturesReply.{FeaturesReply}
use Rattle.of13_codec.specs.declared.ports.PortDesc.{PortDesc}
use Rattle.switch_session.specs.declared.closing.Closing.{Closing}
use Rattle.switch_session.specs.declared.closing.Closing.TheVariants.{WrongVersion, SwitchError}
use Rattle.switch_session.specs.declared.ports.PortTold.{PortTold}
use Rattle.switch_session.specs.declared.state.Stage.{Stage}
use Rattle.switch_session.specs.declared.state.Stage.TheVariants.{Greeting, Features, Ports, Wiping, Running, Shut}
use Rattle.switch_session.specs.declared.state.State.{State as Kept}
use Rattle.switch_session.specs.declared.state.Step.{Step}
use Rattle.switch_session.specs.declared.state.Step.TheVariants.{Nothing, AskFeatures, Features as Introduced, PortsKnown, Wiped, Settled, PortChanged, Packet, Echo, Close}
use Rattle.switch_session.specs.Told.{told_of, takes, tell, forget, tell_all}

-- the stage, the transaction id of the barrier or port request that is outstanding, and the ports that were told
abbrev pub State : Type 0
State = Kept

-- a HELLO speaks OpenFlow 1.3, version 4: by the bitmap of its versions, where it has one, and else where its version
-- isn't lower (7.5.1)
abbrev pub speaks : (version : ℕ) → (bitmap : Option ℕ) → Bool
speaks version (Some bitmap) = not (bit_and bitmap 16 == 0)
speaks version None = nat_le 4 version

-- the transaction id is that of the outstanding barrier or port request
abbrev pub is_id : Option ℕ → ℕ → Bool
is_id (Some awaited) xid = awaited == xid
is_id None xid = false

abbrev pub awaits : State → ℕ → Bool
awaits s xid = is_id s.awaited xid

abbrev pub passed : State → State × Step
passed s = (s, Nothing)

abbrev pub closed : State → Closing → State × Step
closed s closing = (record s { stage = Shut }, Close closing)

-- ---- What each message does where it counts

-- HELLO (7.5.1)
abbrev pub greeted : State → (version : ℕ) → (bitmap : Option ℕ) → State × Step
greeted s version bitmap =
    if speaks version bitmap then (record s { stage = Features }, AskFeatures) else closed s WrongVersion

-- FEATURES_REPLY (7.3.1)
abbrev pub introduced : State → FeaturesReply → State × Step
introduced s reply = (record s { stage = Ports }, Introduced reply.dp reply.n_tables reply.auxiliary)

-- a part of the reply with the ports' descriptions (7.3.5.7); with the last one all are told
abbrev pub described : State → (more : Bool) → List PortDesc → State × Step
described s more ports =
    let all = tell_all s.ports ports in
    if more then (record s { ports = all }, Nothing) else (record s { stage = Wiping; awaited = None; ports = all }, PortsKnown)

-- BARRIER_REPLY (7.3.8)
abbrev pub answered : State → Step → State × Step
answered s step = (record s { stage = Running; awaited = None }, step)

-- a port that is there is told; a new one is passed over where as many as may be are told
abbrev pub with_port_told : State → PortTold → State × Step
with_port_told s port = (record s { ports = tell s.ports port }, if takes s.ports port.no then PortChanged port.no else Nothing)

-- PORT_STATUS (7.4.3): reason 1, DELETE, takes the port out, any other tells it; what is no port is passed over
abbrev pub changed_port : State → (reason : ℕ) → Option PortTold → State × Step
changed_port s reason None = passed s
changed_port s reason (Some port) =
    if reason == 1 then (record s { ports = forget s.ports port.no }, PortChanged port.no) else with_port_told s port

abbrev pub changed : State → (reason : ℕ) → PortDesc → State × Step
changed s reason port = changed_port s reason (told_of port)

-- ---- Which messages count when

-- what each stage awaits; anything else is passed over
abbrev pub awaited : Stage → State → Message → (xid : ℕ) → State × Step
awaited Greeting s (Hello version bitmap) xid = greeted s version bitmap
awaited Features s (Reply reply) xid = introduced s reply
awaited Ports s (PortDescReply more ports) xid = if awaits s xid then described s more ports else passed s
awaited Wiping s BarrierReply xid = if awaits s xid then answered s Wiped else passed s
awaited Running s BarrierReply xid = if awaits s xid then answered s Settled else passed s
awaited Running s (PacketIn packet) xid = (s, Packet)
awaited stage s message xid = passed s

-- what counts in every stage
abbrev pub heard : State → Message → (xid : ℕ) → State × Step
heard s (Error kind code payload) xid = closed s (SwitchError kind code)
heard s (EchoRequest payload) xid = (s, Echo)
heard s (PortStatus reason port) xid = changed s reason port
heard s message xid = awaited s.stage s message xid

-- a connection that was closed hears nothing
abbrev pub heard_in : Stage → State → Message → (xid : ℕ) → State × Step
heard_in Shut s message xid = passed s
heard_in stage s message xid = heard s message xid

-- the next state and the step
abbrev pub leads : State → Message → (xid : ℕ) → State × Step
leads s message xid = heard_in s.stage s message xid
