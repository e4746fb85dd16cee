-- Which frames switches are told to send.
use Rattle.std.specs.Prelude.{◌≡◌, ℕ, ◌==◌, ◌&&◌, Bool, true, if◌then◌else◌, List, [], ◌∷◌, ◌++◌, Option, Some, None}
use Rattle.std.specs.List.{flat_map}
use Rattle.std.specs.Option.{option_and_then, option_map_or}
use Rattle.net_base.specs.declared.numbers.DpId.{DpId}
use Rattle.conf_types.specs.State.{is_running}
use Rattle.of_match.specs.declared.action.TheConstants.{CONTROLLER}
use Rattle.of_match.specs.InPort.{in_port}
use Rattle.of13_codec.specs.declared.message.Message.{Message}
use Rattle.of13_codec.specs.declared.message.Message.TheVariants as messages
use Rattle.of13_codec.specs.declared.packet_in.PacketIn.{PacketIn}
use Rattle.of13_codec.specs.declared.packet_out.PacketOut.{PacketOut}
use Rattle.flow_messages.specs.declared.messages.TheConstants.{COOKIE}
use Rattle.pkt_view.specs.Frame.{FrameParts, parts}
use Rattle.neighbour_resolve.specs.declared.asks.Outgoing.{Outgoing}
use Rattle.neighbour_resolve.specs.declared.neighbour.Due.{Due}
use Rattle.neighbour_resolve.specs.declared.neighbour.Due.TheVariants.{Ask, Gone}
use Rattle.neighbour_resolve.specs.Answers.{answer}
use Rattle.neighbour_resolve.specs.Asks.{AskOn, asks}
use Rattle.neighbour_resolve.specs.Counted.{counted_vid}
use Rattle.neighbour_resolve.specs.Runs.{Settles}
use Rattle.ctl_world.specs.declared.conns.Conn.{Conn}
use Rattle.ctl_world.specs.declared.said.Said.{Said}
use Rattle.ctl_world.specs.declared.said.Said.TheVariants as said
use Rattle.ctl_world.specs.Connections.{conn_of, conn_with}
use Rattle.ctl_world.specs.World.{World, running, runs}
use Rattle.ctl_packets.specs.Packets.{gateways, outgoing}
use Rattle.ctl_core.specs.Settlings.{settle}
use Rattle.ctl_core.specs.Hearing.{hear_frame}
use Rattle.law_lives.specs.Steps.{Heard}
use Rattle.law_stories.specs.Settlings.{Settling}

-- ---- what is said of it

-- a PACKET_OUT, and the connection on which it is said (OpenFlow 1.3, 7.3.7)
pub record Out : Type 0 where
  pub on : ℕ
  pub message : PacketOut

abbrev pub outs_by : (on : ℕ) → Message → List Out
outs_by on (messages.PacketOut m) = record { on = on; message = m } ∷ []
outs_by on other = []

abbrev pub outs_in : Said → List Out
outs_in (said.Message number m xid) = outs_by number m
outs_in other = []

abbrev pub outs : List Said → List Out
outs all = flat_map outs_in all

-- a frame that a switch is told to send, which comes from the controller
abbrev pub sends : (on : ℕ) → Outgoing → Out
sends on out = record { on = on; message = record { buffer = 0xffffffff; in_port = CONTROLLER; actions = out.actions; payload = out.frame } }

-- ---- in a settling

-- on the connection of its datapath
abbrev pub ask_outs : World → AskOn → List Out
ask_outs w a = option_map_or (λ c. sends c.number a.out ∷ []) (conn_of w.conns a.dp) []

-- one for each running datapath of the group with edge ports of the VLAN; of a neighbour that is given up none
abbrev pub due_outs : World → Due → List Out
due_outs w (Ask group vid ip) = flat_map (ask_outs w) (asks w.conf (running w) group vid ip)
due_outs w (Gone group vid ip) = []

-- the neighbours that are due are asked or given up, one after the other, until none is; and no other frame is sent
pub record AsksTheDue (s : Settling) : Type 0 where
  pub due : List Due
  pub settled : Settles s.before.conf s.before.moment.0 s.before.neighbours.neighbours due (settle s.before).neighbours.neighbours
  pub outs : outs (settle s.before).said ≡ outs s.before.said ++ flat_map (due_outs s.before) due

-- ---- when a frame is heard

-- the answer to a packet that came in by a port, with one tag, of a VLAN that the port is an edge member of
abbrev pub answers_at : DpId → (on : ℕ) → World → (port : ℕ) → FrameParts → List Out
answers_at dp on w port frame =
    option_map_or (λ vid. option_map_or (λ out. sends on out ∷ []) (outgoing w.conf dp port vid (answer w.conf dp port frame)) []) (counted_vid w.conf dp port frame) []

abbrev pub answers_by : PacketIn → DpId → (on : ℕ) → World → (port : ℕ) → List Out
answers_by m dp on w port = option_map_or (answers_at dp on w port) (parts m.payload) []

-- of a datapath that runs, from the table of what gateways answer, with the cookie of this controller
abbrev pub answers_in : PacketIn → DpId → (on : ℕ) → World → List Out
answers_in m dp on w =
    if m.cookie == COOKIE && is_running (running w) dp && m.table == gateways then option_map_or (answers_by m dp on w) (in_port m.fields) [] else []

-- on a connection whose tables are wiped
abbrev pub answers_on : Message → (on : ℕ) → World → Conn → List Out
answers_on (messages.PacketIn m) on w c = if runs c.session.state.stage then option_map_or (λ dp. answers_in m dp on w) c.dp [] else []
answers_on other on w c = []

abbrev pub answers : Option (Message × ℕ) → (on : ℕ) → World → List Out
answers (Some heard) on w = option_map_or (answers_on heard.0 on w) (conn_with w.conns on) []
answers None on w = []

-- the answer that is due, and no other frame
abbrev pub AnswersTheHeard : Heard → Type 0
AnswersTheHeard f = outs (hear_frame f.says f.on f.before).said ≡ outs f.before.said ++ answers f.says f.on f.before
