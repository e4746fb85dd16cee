-- What the bytes that came on a connection name.
use Rattle.std.proofs.Common.{◌≡◌, ℕ, zero, suc, Bool, true, false, ◌==◌, if◌then◌else◌, List, [], ◌∷◌, ◌++◌, length, Option, Some, None, refl, sym, ◌∙◌}
use Rattle.std.specs.List.{list_any}
use Rattle.conf_types.specs.declared.address.Ip.{Ip}
use Rattle.net_base.specs.declared.address.Mac.{Mac}
use Rattle.net_base.specs.declared.numbers.DpId.{DpId}
use Rattle.net_base.specs.declared.numbers.Moment.{Moment}
use Rattle.conf_types.specs.declared.vlan.Route.{Route}
use Rattle.conf_types.specs.declared.vlan.Vlan.{Vlan}
use Rattle.conf_types.specs.Groups.{group_of}
use Rattle.conf_types.specs.Valid.{IsValid}
use Rattle.conf_types.specs.Changes.{mac_of_neighbour}
use Rattle.neighbour_resolve.specs.Table as neighbours
use Rattle.of13_codec.specs.declared.message.Message.{Message}
use Rattle.of13_codec.specs.declared.message.Message.TheVariants as messages
use Rattle.flow_messages.specs.Messages.{delete_all}
use Rattle.switch_session.specs.declared.closing.Closing.{Closing}
use Rattle.switch_session.specs.declared.closing.Closing.TheVariants.{BadFrame, WrongVersion}
use Rattle.switch_session.specs.declared.state.Step.{Step}
use Rattle.switch_session.specs.declared.state.Step.TheVariants as steps
use Rattle.switch_session.specs.Stages.{leads}
use Rattle.ctl_world.specs.declared.conns.Conn.{Conn}
use Rattle.ctl_world.specs.declared.frames.Front.{Front}
use Rattle.ctl_world.specs.declared.frames.Front.TheVariants.{Part, Frame, Bad}
use Rattle.ctl_world.specs.declared.said.Said.TheVariants as said
use Rattle.ctl_world.specs.Connections.{change as changed, conn_with, with_heard}
use Rattle.ctl_world.specs.Ends.{close, forget_lost}
use Rattle.ctl_world.specs.Frames.{front, with_read}
use Rattle.ctl_world.specs.Saying.{ask, say}
use Rattle.ctl_world.specs.World.{World, running}
use Rattle.ctl_life.specs.Life.{echo, feed, has_frame, read, replace, says, take_dp, tell_version, turn_away, unread}
use Rattle.ctl_core.specs.Settlings.{settle}
use Rattle.ctl_core.specs.Hearing.{begin, follow, hear_frame, hear_frames, hear_front, hear_next, hear_on, introduce, packet, unfit, want_gateways, want_in, want_routes, wipe}
use Rattle.law_names.specs.Ends.{by_change, by_end, by_replace, by_take}
use Rattle.law_changes.specs.Frames.{by_frame, by_frames, by_front, by_introduce, by_message_on, by_next, by_packet, by_piece, by_step}
use Rattle.law_names.specs.Names.{Names}
use Rattle.law_changes.specs.Settlings.{by_settling}
use Rattle.law_names.proofs.Neighbours.{wanted_same}
use Rattle.law_names.proofs.Packets.{packet_named}
use Rattle.law_changes.proofs.Settled.{settle_named}
use Rattle.law_names.proofs.Stepped.{added_quiet, ask_quiet, change_named, close_named, feed_quiet, join, kept_quiet, neighbours_named, nothing, of_either, of_option, replace_named, say_quiet, still, take_named, then_quiet}

-- ---- gateways that are wanted

module _ (group : DpId) (vid : ℕ) (ip : Ip) where
  abbrev known : neighbours.Table → Option Mac
  known table = mac_of_neighbour table.neighbours group vid ip

  routes_same : (g : DpId) (v : ℕ) (rs : List Route) (moment : Moment) (table : neighbours.Table) → known (want_routes g v rs moment table) ≡ known table
  routes_same g v [] moment table = refl
  routes_same g v (r ∷ rs) moment table =
      let told = neighbours.unresolved g v r.gw moment in
      routes_same g v rs moment (neighbours.after_told (neighbours.stays true) told table) ∙ wanted_same group vid ip told refl table.neighbours (neighbours.outcome table told)

  gateways_same : (g : DpId) (vs : List Vlan) (moment : Moment) (table : neighbours.Table) → known (want_gateways g vs moment table) ≡ known table
  gateways_same g [] moment table = refl
  gateways_same g (v ∷ vs) moment table = gateways_same g vs moment (want_routes g v.vid v.routes moment table) ∙ routes_same g v.vid v.routes moment table

want_in_quiet : (group : DpId) (w : World) → Names w (want_in group w) []
want_in_quiet group w =
    let table = want_gateways group w.conf.vlans w.moment w.neighbours in
    of_either w (record w { neighbours = table }) w [] (list_any (λ dp. (group_of w.conf dp).0 == group.0) (running w))
    (neighbours_named w table [] (λ g v i other. absurd (other (sym (gateways_same g v i group w.conf.vlans w.moment w.neighbours))))) (nothing w)

begin_quiet : (dp : Option DpId) (w : World) → Names w (begin dp w) []
begin_quiet None w = nothing w
begin_quiet (Some dp) w = want_in_quiet (group_of w.conf dp) w

-- ---- one message

introduce_named : (number : ℕ) (dp : DpId) (cause : Option Closing) (w : World) → IsValid w.conf → Names w (introduce number dp cause w) (by_introduce number dp cause w)
introduce_named number dp (Some cause) w valid = close_named cause number w valid
introduce_named number dp None w valid =
    let replaced : World = replace dp w in
    let first = replace_named dp w valid in
    let taken : World = take_dp number dp replaced in
    join w replaced (ask number messages.PortDescRequest taken) (by_replace dp w) (by_take number dp replaced) first
    (then_quiet replaced taken (ask number messages.PortDescRequest taken) (by_take number dp replaced) (take_named number dp replaced (still w replaced (by_replace dp w) first valid)) (ask_quiet number messages.PortDescRequest taken))

wipe_quiet : (number : ℕ) (w : World) → Names w (wipe number w) []
wipe_quiet number w = join w (say number delete_all w) (wipe number w) [] [] (say_quiet number delete_all w) (ask_quiet number messages.BarrierRequest (say number delete_all w))

echo_quiet : (m : Message) (number xid : ℕ) (w : World) → Names w (echo m number xid w) []
echo_quiet (messages.EchoRequest payload) number xid w = added_quiet (said.Message number (messages.EchoReply payload) xid ∷ []) w
echo_quiet m number xid w = nothing w

packet_of_named : (m : Message) (number : ℕ) (dp : Option DpId) (w : World) → Names w (packet m number dp w) (by_packet m dp w)
packet_of_named (messages.PacketIn m) number (Some dp) w = packet_named m number dp w
packet_of_named m number dp w = nothing w

turn_away_named : (cause : Closing) (number xid : ℕ) (w : World) → IsValid w.conf → Names w (turn_away cause number xid w) (by_end number w)
turn_away_named WrongVersion number xid w valid =
    let told : World = tell_version WrongVersion number xid w in
    join w told (close WrongVersion number told) [] (by_end number told) (added_quiet (said.Message number (messages.Error 0 0 []) xid ∷ []) w) (close_named WrongVersion number told valid)
turn_away_named cause number xid w valid = close_named cause number w valid

follow_named : (step : Step) (m : Message) (xid number : ℕ) (dp : Option DpId) (w : World) → IsValid w.conf → Names w (follow step m xid number dp w) (by_step step m number dp w)
follow_named steps.Nothing m xid number dp w valid = nothing w
follow_named steps.AskFeatures m xid number dp w valid = say_quiet number messages.FeaturesRequest w
follow_named (steps.Features id n_tables auxiliary) m xid number dp w valid = introduce_named number id (unfit w.conf id n_tables auxiliary) w valid
follow_named steps.PortsKnown m xid number dp w valid = wipe_quiet number w
follow_named steps.Wiped m xid number dp w valid = begin_quiet dp w
follow_named steps.Settled m xid number dp w valid = nothing w
follow_named (steps.PortChanged port) m xid number dp w valid = nothing w
follow_named steps.Packet m xid number dp w valid = packet_of_named m number dp w
follow_named steps.Echo m xid number dp w valid = echo_quiet m number xid w
follow_named (steps.Close cause) m xid number dp w valid = turn_away_named cause number xid w valid

hear_on_named : (m : Message) (xid number : ℕ) (w : World) (c : Conn) → IsValid w.conf → Names w (hear_on m xid number w c) (by_message_on m xid number w c)
hear_on_named m xid number w c valid =
    let stepped : World = forget_lost (record w { conns = changed number (with_heard m xid) w.conns }) in
    let step : Step = (leads c.session.state m xid).1 in
    join w stepped (follow step m xid number c.dp stepped) (by_change number (with_heard m xid) w) (by_step step m number c.dp stepped)
    (change_named number (with_heard m xid) (λ d. refl) w valid) (follow_named step m xid number c.dp stepped valid)

pub frame_named : (said : Option (Message × ℕ)) (number : ℕ) (w : World) → IsValid w.conf → Names w (hear_frame said number w) (by_frame said number w)
frame_named (Some said) number w valid =
    of_option w (hear_on said.0 said.1 number w) (by_message_on said.0 said.1 number w) (conn_with w.conns number) (λ c. hear_on_named said.0 said.1 number w c valid)
frame_named None number w valid = close_named BadFrame number w valid

-- ---- the bytes

read_quiet : (number : ℕ) (w : World) → Names w (read number w) []
read_quiet number w = kept_quiet number with_read (λ c. refl) (λ c. refl) w

front_named : (f : Front) (number : ℕ) (w : World) → IsValid w.conf → Names w (hear_front f number w) (by_front f number w)
front_named Part number w valid = nothing w
front_named (Frame frame) number w valid =
    let heard : World = hear_frame (says frame) number w in
    join w heard (settle heard) (by_frame (says frame) number w) (by_settling heard) (frame_named (says frame) number w valid) (settle_named heard)
front_named Bad number w valid =
    let closed : World = close BadFrame number w in
    join w closed (settle closed) (by_end number w) (by_settling closed) (close_named BadFrame number w valid) (settle_named closed)

next_named : (number : ℕ) (w : World) → IsValid w.conf → Names w (hear_next number w) (by_next number w)
next_named number w valid =
    let left : World = read number w in
    join w left (hear_front (front (unread number w)) number left) [] (by_next number w) (read_quiet number w) (front_named (front (unread number w)) number left valid)

pub frames_named : (most number : ℕ) (w : World) → IsValid w.conf → Names w (hear_frames most number w) (by_frames most number w)
frames_named zero number w valid = nothing w
frames_named (suc most) number w valid = by (has_frame number w) (λ v. frames_named most number v)
  where
    first : Names w (hear_next number w) (by_next number w)
    first = next_named number w valid

    by : (b : Bool) → ((v : World) → IsValid v.conf → Names v (hear_frames most number v) (by_frames most number v))
        → Names w (if b then hear_frames most number (hear_next number w) else hear_next number w) (if b then by_next number w ++ by_frames most number (hear_next number w) else by_next number w)
    by true more =
        let next : World = hear_next number w in
        join w next (hear_frames most number next) (by_next number w) (by_frames most number next) first (more next (still w next (by_next number w) first valid))
    by false more = first

pub piece_named : (number : ℕ) (piece : List ℕ) (w : World) → IsValid w.conf → Names w (hear_frames (length (unread number (feed number piece w))) number (feed number piece w)) (by_piece number piece w)
piece_named number piece w valid =
    let fed : World = feed number piece w in
    join w fed (hear_frames (length (unread number fed)) number fed) [] (by_piece number piece w) (feed_quiet number piece w) (frames_named (length (unread number fed)) number fed valid)
