-- What a packet names that a switch sent to the controller.
use Rattle.std.proofs.Common.{ℕ, false, ◌==◌, ◌&&◌, ◌*◌, List, [], ◌∷◌}
use Rattle.std.specs.Option.{option_map_or}
use Rattle.conf_types.specs.declared.address.Ip.{Ip}
use Rattle.net_base.specs.declared.numbers.DpId.{DpId}
use Rattle.conf_types.specs.Configuration.{vlan_with}
use Rattle.conf_types.specs.declared.vlan.Vlan.{Vlan}
use Rattle.conf_types.specs.Groups.{group_of}
use Rattle.conf_types.specs.State.{is_running}
use Rattle.of_match.specs.InPort.{in_port}
use Rattle.of13_codec.specs.declared.packet_in.PacketIn.{PacketIn}
use Rattle.flow_messages.specs.declared.messages.TheConstants.{COOKIE}
use Rattle.pkt_view.specs.Frame.{FrameParts, parts}
use Rattle.neighbour_resolve.specs.declared.asks.Outgoing.{Outgoing}
use Rattle.neighbour_resolve.specs.declared.hearing.Sender.{Sender}
use Rattle.neighbour_resolve.specs.Answers.{answer}
use Rattle.neighbour_resolve.specs.Counted.{counted_vid}
use Rattle.neighbour_resolve.specs.Hearing.{heard_sender}
use Rattle.neighbour_resolve.specs.Table.{resolved, stays}
use Rattle.ctl_world.specs.Saying.{packet_out, say}
use Rattle.ctl_world.specs.World.{World, running}
use Rattle.ctl_packets.specs.Packets.{destination, gateways, glean, glean_at, glean_in, glean_to, hear_neighbour, hear_sender, is_for_gateway, is_resolved, is_route_table, learn, least_time, network_vlan, outgoing, packet_at, packet_by, packet_in, packet_of_table, reply, sources, want}
use Rattle.conf_types.specs.declared.change.Change.{Change}
use Rattle.conf_types.specs.declared.change.Change.TheVariants as change
use Rattle.law_names.specs.Names.{Names}
use Rattle.law_names.specs.Packets.{by_packet_in, by_parts, by_port, by_table}
use Rattle.law_names.proofs.Stepped.{learn_named, nothing, of_either, of_option, of_two, quiet_option, say_quiet, some, then_quiet, told_named, want_quiet}

glean_in_quiet : (group : DpId) (ip : Ip) (w : World) (vid : ℕ) → Names w (glean_in group ip w vid) []
glean_in_quiet group ip w vid = of_either w w (want group vid ip w) [] (is_resolved w.neighbours.neighbours group vid ip) (nothing w) (want_quiet group vid ip w)

glean_at_quiet : (dp : DpId) (frame : FrameParts) (w : World) (v : Vlan) → Names w (glean_at dp frame w v) []
glean_at_quiet dp frame w v =
    let group : DpId = group_of w.conf dp in
    of_either w (option_map_or (λ ip. glean_to group v.vid ip w) (destination frame.upper) w) w [] (is_for_gateway v frame)
    (quiet_option w (λ ip. glean_to group v.vid ip w) (destination frame.upper) (λ ip. quiet_option w (glean_in group ip w) (network_vlan w.conf v.vid ip) (λ vid. glean_in_quiet group ip w vid))) (nothing w)

glean_quiet : (dp : DpId) (vid : ℕ) (frame : FrameParts) (w : World) → Names w (glean dp vid frame w) []
glean_quiet dp vid frame w = quiet_option w (glean_at dp frame w) (vlan_with w.conf.vlans vid) (λ v. glean_at_quiet dp frame w v)

heard_named : (dp : DpId) (vid : ℕ) (frame : FrameParts) (w : World) → Names w (hear_neighbour dp vid frame w) (option_map_or (λ s. change.Neighbour (group_of w.conf dp) vid s.ip ∷ []) (heard_sender w.conf vid frame) [])
heard_named dp vid frame w =
    let group : DpId = group_of w.conf dp in
    of_option w (hear_sender dp vid w) (λ (s : Sender). change.Neighbour group vid s.ip ∷ []) (heard_sender w.conf vid frame)
    (λ s. told_named (stays false) (resolved group vid s.ip s.mac (least_time w.conf group w.conf.dps * 1000) w.moment) w)

reply_quiet : (number : ℕ) (dp : DpId) (port vid : ℕ) (frame : FrameParts) (w : World) → Names w (reply number dp port vid frame w) []
reply_quiet number dp port vid frame w =
    quiet_option w (λ (out : Outgoing). say number (packet_out out) w) (outgoing w.conf dp port vid (answer w.conf dp port frame)) (λ out. say_quiet number (packet_out out) w)

table_named : (table number : ℕ) (dp : DpId) (port vid : ℕ) (frame : FrameParts) (w : World) → Names w (packet_of_table table number dp port vid frame w) (by_table table dp vid frame w)
table_named table number dp port vid frame w =
    let heard : World = hear_neighbour dp vid frame w in
    let names : List Change = option_map_or (λ s. change.Neighbour (group_of w.conf dp) vid s.ip ∷ []) (heard_sender w.conf vid frame) [] in
    of_two w (learn dp port vid frame.src w) _ (change.Host (group_of w.conf dp) vid frame.src ∷ []) _ (table == sources) (learn_named dp port vid frame.src w)
    (of_two w (glean dp vid frame w) _ [] _ (is_route_table table frame.upper) (glean_quiet dp vid frame w)
    (of_two w (reply number dp port vid frame heard) w names [] (table == gateways) (then_quiet w heard (reply number dp port vid frame heard) names (heard_named dp vid frame w) (reply_quiet number dp port vid frame heard)) (nothing w)))

at_named : (m : PacketIn) (number : ℕ) (dp : DpId) (w : World) (port : ℕ) (frame : FrameParts) → Names w (packet_at m number dp w port frame) (by_parts m dp w port frame)
at_named m number dp w port frame =
    of_option w (λ vid. packet_of_table m.table number dp port vid frame w) (λ vid. by_table m.table dp vid frame w) (counted_vid w.conf dp port frame) (λ vid. table_named m.table number dp port vid frame w)

by_named : (m : PacketIn) (number : ℕ) (dp : DpId) (w : World) (port : ℕ) → Names w (packet_by m number dp w port) (by_port m dp w port)
by_named m number dp w port = of_option w (packet_at m number dp w port) (by_parts m dp w port) (parts m.payload) (λ frame. at_named m number dp w port frame)

pub packet_named : (m : PacketIn) (number : ℕ) (dp : DpId) (w : World) → Names w (packet_in m number dp w) (by_packet_in m dp w)
packet_named m number dp w =
    of_either w (option_map_or (packet_by m number dp w) (in_port m.fields) w) w (by_packet_in m dp w) (m.cookie == COOKIE && is_running (running w) dp)
    (of_option w (packet_by m number dp w) (by_port m dp w) (in_port m.fields) (λ port. by_named m number dp w port)) (some w w (by_packet_in m dp w) (nothing w))
