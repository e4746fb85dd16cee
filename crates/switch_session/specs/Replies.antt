-- Which messages are replies to what a connection awaits, and which move it on.
use Rattle.std.specs.Prelude.{ℕ, Bool, true, false, not, ◌&&◌}
use Rattle.of13_codec.specs.declared.message.Message.{Message}
use Rattle.of13_codec.specs.declared.message.Message.TheVariants.{Hello, FeaturesReply, PortDescReply, BarrierReply}
use Rattle.switch_session.specs.declared.state.Stage.{Stage}
use Rattle.switch_session.specs.declared.state.Stage.TheVariants.{Greeting, Features, Ports, Wiping, Running, Shut}
use Rattle.switch_session.specs.Stages.{State, awaits}

-- the last part of the ports' descriptions, where the ports were asked for, and else a BARRIER_REPLY
abbrev pub is_reply_in : Stage → Message → Bool
is_reply_in Ports (PortDescReply more ports) = not more
is_reply_in Wiping BarrierReply = true
is_reply_in Running BarrierReply = true
is_reply_in stage message = false

-- the stage behind this one, as a connection is set up
abbrev pub stage_after : Stage → Stage
stage_after Greeting = Features
stage_after Features = Ports
stage_after Ports = Wiping
stage_after Wiping = Running
stage_after Running = Running
stage_after Shut = Shut

-- what a stage awaits: a HELLO, a FEATURES_REPLY with whatever transaction id, or a reply with the one that is outstanding
abbrev pub is_awaited_in : Stage → State → Message → (xid : ℕ) → Bool
is_awaited_in Greeting s (Hello version bitmap) xid = true
is_awaited_in Features s (FeaturesReply reply) xid = true
is_awaited_in stage s message xid = is_reply_in stage message && awaits s xid
