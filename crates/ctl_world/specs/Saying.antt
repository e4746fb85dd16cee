-- What is said on connections.
use Rattle.std.specs.Prelude.{ℕ, List, [], ◌∷◌, ◌++◌}
use Rattle.std.specs.Option.{option_map_or}
use Rattle.neighbour_resolve.specs.declared.asks.Outgoing.{Outgoing}
use Rattle.of_match.specs.declared.action.TheConstants.{CONTROLLER}
use Rattle.of13_codec.specs.declared.message.Message.{Message}
use Rattle.of13_codec.specs.declared.message.Message.TheVariants as messages
use Rattle.switch_session.specs.Connections.{next_id}
use Rattle.ctl_world.specs.declared.conns.Conn.{Conn}
use Rattle.ctl_world.specs.declared.said.Said.{Said}
use Rattle.ctl_world.specs.declared.said.Said.TheVariants as said
use Rattle.ctl_world.specs.Connections.{change, conn_with, with_asked, with_said}
use Rattle.ctl_world.specs.World.{World}

-- these are said behind what the turn has said before
abbrev pub add_said : List Said → World → World
add_said more w = record w { said = w.said ++ more }

abbrev pub say_by : (Conn → Conn) → Message → World → Conn → World
say_by f m w c = record w { conns = change c.number f w.conns; said = w.said ++ said.Message c.number m (next_id c.session.last_xid) ∷ [] }

-- a message with the next transaction id of the connection, where that is open
abbrev pub say : ℕ → Message → World → World
say number m w = option_map_or (say_by with_said m w) (conn_with w.conns number) w

-- one whose reply is awaited: a barrier, or the request for the ports
abbrev pub ask : ℕ → Message → World → World
ask number m w = option_map_or (say_by with_asked m w) (conn_with w.conns number) w

-- one that repeats a transaction id that was heard
abbrev pub repeat : ℕ → Message → (xid : ℕ) → World → World
repeat number m xid w = add_said (said.Message number m xid ∷ []) w

-- a frame that a switch is told to send (PACKET_OUT, 7.3.7): no buffered packet, and it comes from the controller
abbrev pub packet_out : Outgoing → Message
packet_out out = messages.PacketOut (record { buffer = 0xffffffff; in_port = CONTROLLER; actions = out.actions; payload = out.frame })
