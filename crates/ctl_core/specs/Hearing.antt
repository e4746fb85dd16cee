-- What a frame does that a switch sent.
use Rattle.std.specs.Prelude.{true, ℕ, zero, suc, ◌==◌, is_some, nat_lt, not, if◌then◌else◌, List, [], ◌∷◌, Option, Some, None}
use Rattle.std.specs.List.{list_any}
use Rattle.std.specs.Option.{option_map_or}
use Rattle.net_base.specs.declared.numbers.DpId.{DpId}
use Rattle.net_base.specs.declared.numbers.Moment.{Moment}
use Rattle.conf_types.specs.declared.vlan.Route.{Route}
use Rattle.conf_types.specs.declared.vlan.Vlan.{Vlan}
use Rattle.conf_types.specs.Configuration.{Configuration, dp_with}
use Rattle.conf_types.specs.Groups.{group_of}
use Rattle.of13_codec.specs.declared.message.Message.{Message}
use Rattle.of13_codec.specs.declared.message.Message.TheVariants as messages
use Rattle.neighbour_resolve.specs.Table.{Table as Neighbours, after_told, stays, unresolved}
use Rattle.flow_messages.specs.Messages.{delete_all}
use Rattle.switch_session.specs.declared.closing.Closing.{Closing}
use Rattle.switch_session.specs.declared.closing.Closing.TheVariants.{BadFrame, UnknownDp, TooFewTables, Auxiliary}
use Rattle.switch_session.specs.declared.state.Step.{Step}
use Rattle.switch_session.specs.declared.state.Step.TheVariants as steps
use Rattle.switch_session.specs.Stages.{leads}
use Rattle.ctl_world.specs.declared.conns.Conn.{Conn}
use Rattle.ctl_world.specs.declared.frames.Front.{Front}
use Rattle.ctl_world.specs.declared.frames.Front.TheVariants.{Part, Frame, Bad}
use Rattle.ctl_world.specs.Connections.{change, conn_with, with_heard}
use Rattle.ctl_world.specs.Frames.{front}
use Rattle.ctl_world.specs.Ends.{close, forget_lost}
use Rattle.ctl_world.specs.Saying.{ask, say}
use Rattle.ctl_world.specs.World.{World, running}
use Rattle.ctl_life.specs.Life.{echo, has_frame, read, replace, says, take_dp, turn_away, unread}
use Rattle.ctl_packets.specs.Packets.{packet_in}
use Rattle.ctl_settle.specs.Settling.{settle}

-- ---- the setup of a connection (OpenFlow 1.3, 6.3)

-- why a switch that says what it is, is turned away
abbrev pub unfit : Configuration → DpId → (n_tables auxiliary : ℕ) → Option Closing
unfit conf dp n_tables auxiliary =
    if not (is_some (dp_with conf.dps dp)) then Some UnknownDp
    else if nat_lt n_tables 9 then Some TooFewTables
    else if not (auxiliary == 0) then Some Auxiliary
    else None

abbrev pub introduce : (number : ℕ) → DpId → Option Closing → World → World
introduce number dp (Some cause) w = close cause number w
introduce number dp None w = ask number messages.PortDescRequest (take_dp number dp (replace dp w))

-- the tables are wiped, with a barrier behind that
abbrev pub wipe : (number : ℕ) → World → World
wipe number w = ask number messages.BarrierRequest (say number delete_all w)

-- ---- the gateways of routes

abbrev pub want_routes : (group : DpId) → (vid : ℕ) → List Route → Moment → Neighbours → Neighbours
want_routes group vid [] moment table = table
want_routes group vid (r ∷ rs) moment table =
    want_routes group vid rs moment (after_told (stays true) (unresolved group vid r.gw moment) table)

-- VLAN by VLAN, in the order of their routes, they are wanted
abbrev pub want_gateways : (group : DpId) → List Vlan → Moment → Neighbours → Neighbours
want_gateways group [] moment table = table
want_gateways group (v ∷ vs) moment table = want_gateways group vs moment (want_routes group v.vid v.routes moment table)

-- in a group of which a datapath runs
abbrev pub want_in : (group : DpId) → World → World
want_in group w =
    if list_any (λ dp. (group_of w.conf dp).0 == group.0) (running w)
    then record w { neighbours = want_gateways group w.conf.vlans w.moment w.neighbours }
    else w

-- the datapath begins to run
abbrev pub begin : Option DpId → World → World
begin None w = w
begin (Some dp) w = want_in (group_of w.conf dp) w

-- ---- one message

abbrev pub packet : Message → (number : ℕ) → Option DpId → World → World
packet (messages.PacketIn m) number (Some dp) w = packet_in m number dp w
packet m number dp w = w

-- what follows from the step that a connection took
abbrev pub follow : Step → Message → (xid : ℕ) → (number : ℕ) → Option DpId → World → World
follow steps.Nothing m xid number dp w = w
follow steps.AskFeatures m xid number dp w = say number messages.FeaturesRequest w
follow (steps.Features id n_tables auxiliary) m xid number dp w = introduce number id (unfit w.conf id n_tables auxiliary) w
follow steps.PortsKnown m xid number dp w = wipe number w
follow steps.Wiped m xid number dp w = begin dp w
follow steps.Settled m xid number dp w = w
follow (steps.PortChanged port) m xid number dp w = w
follow steps.Packet m xid number dp w = packet m number dp w
follow steps.Echo m xid number dp w = echo m number xid w
follow (steps.Close cause) m xid number dp w = turn_away cause number xid w

abbrev pub hear_on : Message → (xid number : ℕ) → World → Conn → World
hear_on m xid number w c =
    follow (leads c.session.state m xid).1 m xid number c.dp (forget_lost (record w { conns = change number (with_heard m xid) w.conns }))

-- the connection takes its step, what was known through ports that went down is forgotten, and what follows is done
abbrev pub hear_message : Message → (xid : ℕ) → (number : ℕ) → World → World
hear_message m xid number w = option_map_or (hear_on m xid number w) (conn_with w.conns number) w

-- a frame that spells no message closes its connection
abbrev pub hear_frame : Option (Message × ℕ) → (number : ℕ) → World → World
hear_frame (Some said) number w = hear_message said.0 said.1 number w
hear_frame None number w = close BadFrame number w

-- ---- frames in the bytes that came (OpenFlow 1.3, 7.1)

-- a header that tells less than its own length closes the connection; a frame and a closing settle
abbrev pub hear_front : Front → (number : ℕ) → World → World
hear_front Part number w = w
hear_front (Frame frame) number w = settle (hear_frame (says frame) number w)
hear_front Bad number w = settle (close BadFrame number w)

abbrev pub hear_next : (number : ℕ) → World → World
hear_next number w = hear_front (front (unread number w)) number (read number w)

-- each frame, so many at most; behind one that closed the connection nothing is heard
abbrev pub hear_frames : (most : ℕ) → (number : ℕ) → World → World
hear_frames zero number w = w
hear_frames (suc most) number w = if has_frame number w then hear_frames most number (hear_next number w) else hear_next number w
