-- Which messages leave the state of a connection as it is, by a look at the message, the stage and the ports told.
use Rattle.std.specs.Prelude.{ℕ, ◌==◌, ◌&&◌, not, nat_lt, Bool, true, false, if◌then◌else◌, List, length, Option, Some, None}
use Rattle.std.specs.List.{list_any}
use Rattle.of13_codec.specs.declared.message.Message.{Message}
use Rattle.of13_codec.specs.declared.message.Message.TheVariants.{Hello, Error, EchoRequest, FeaturesReply, PortStatus, PortDescReply, BarrierReply}
use Rattle.switch_session.specs.declared.ports.PortTold.{PortTold}
use Rattle.switch_session.specs.declared.state.Stage.{Stage}
use Rattle.switch_session.specs.declared.state.Stage.TheVariants.{Greeting, Features, Ports, Wiping, Running}
use Rattle.switch_session.specs.Stages.{State, awaits}
use Rattle.switch_session.specs.Told.{knows, told_of}

-- the port was told, and otherwise
abbrev pub differs : PortTold → PortTold → Bool
differs port told = told.no == port.no && (if port.up then not told.up else told.up)

-- the port was told so, or is a further one where 4,096 are told
abbrev pub is_told : List PortTold → PortTold → Bool
is_told ports port = if knows ports port.no then not (list_any (differs port) ports) else not (nat_lt (length ports) 4096)

-- a PORT_STATUS of what is no port, of one that isn't told and is gone, or of one that was told so
abbrev pub leaves_ports : List PortTold → (reason : ℕ) → Option PortTold → Bool
leaves_ports ports reason None = true
leaves_ports ports reason (Some port) = if reason == 1 then not (knows ports port.no) else is_told ports port

-- what isn't awaited
abbrev pub is_passed : Stage → State → Message → (xid : ℕ) → Bool
is_passed Greeting s (Hello version bitmap) xid = false
is_passed Features s (FeaturesReply reply) xid = false
is_passed Ports s (PortDescReply more ports) xid = not (awaits s xid)
is_passed Wiping s BarrierReply xid = not (awaits s xid)
is_passed Running s BarrierReply xid = not (awaits s xid)
is_passed stage s message xid = true

abbrev pub leaves : State → Message → (xid : ℕ) → Bool
leaves s (Error kind code payload) xid = false
leaves s (EchoRequest payload) xid = true
leaves s (PortStatus reason port) xid = leaves_ports s.ports reason (told_of port)
leaves s message xid = is_passed s.stage s message xid
