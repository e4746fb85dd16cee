-- What a packet does keeps whatever hangs on the configuration, the connections and what was said alone, and is kept by each
-- message that goes out with a packet.
use Rattle.std.specs.Prelude.{ℕ, ◌==◌, ◌&&◌, Option, Some, List, if◌then◌else◌}
use Rattle.std.specs.Option.{option_map_or}
use Rattle.conf_types.specs.declared.address.Ip.{Ip}
use Rattle.net_base.specs.declared.address.Mac.{Mac}
use Rattle.net_base.specs.declared.numbers.DpId.{DpId}
use Rattle.of_match.specs.InPort.{in_port}
use Rattle.conf_types.specs.declared.state.HostRec.{HostRec}
use Rattle.conf_types.specs.declared.vlan.Vlan.{Vlan}
use Rattle.conf_types.specs.Configuration.{Configuration, vlan_with}
use Rattle.conf_types.specs.Groups.{group_of}
use Rattle.conf_types.specs.Links.{is_up}
use Rattle.conf_types.specs.State.{is_running}
use Rattle.host_learn.specs.Learning.{learned}
use Rattle.of13_codec.specs.declared.message.Message.{Message}
use Rattle.of13_codec.specs.declared.message.Message.TheVariants as messages
use Rattle.of13_codec.specs.declared.packet_in.PacketIn.{PacketIn}
use Rattle.flow_messages.specs.declared.messages.TheConstants.{COOKIE}
use Rattle.pkt_view.specs.Frame.{FrameParts, parts}
use Rattle.neighbour_resolve.specs.declared.asks.Outgoing.{Outgoing}
use Rattle.neighbour_resolve.specs.Answers.{answer}
use Rattle.neighbour_resolve.specs.Counted.{counted_vid}
use Rattle.neighbour_resolve.specs.Hearing.{heard_sender}
use Rattle.ctl_world.specs.declared.conns.Conn.{Conn}
use Rattle.ctl_world.specs.declared.said.Said.{Said}
use Rattle.ctl_world.specs.Saying.{packet_out, say}
use Rattle.ctl_world.specs.World.{World, running, ups}
use Rattle.ctl_packets.specs.Packets.{destination, gateways, glean, glean_at, glean_in, glean_to, hear_neighbour, hear_sender, is_for_gateway, is_resolved, is_route_table, learn, network_vlan, outgoing, packet_at, packet_by, packet_in, packet_of_table, reply, sources, want}
use Rattle.ctl_core.specs.Hearing.{packet}
use Rattle.ctl_core.proofs.Walk.{either, with_any}

module _ (J : Configuration → List Conn → List Said → Type 0)
    (says : (number : ℕ) (out : Outgoing) (w : World) → J w.conf w.conns w.said → J (say number (packet_out out) w).conf (say number (packet_out out) w).conns (say number (packet_out out) w).said) where
  abbrev Kept : World → Type 0
  Kept w = J w.conf w.conns w.said

  learn_kept : (dp : DpId) (port vid : ℕ) (mac : Mac) (w : World) → Kept w → Kept (learn dp port vid mac w)
  learn_kept dp port vid mac w holds =
      let heard : HostRec = record { dp = dp; port = port; vid = vid; mac = mac; learned = w.moment } in
      either Kept (is_up (ups w) dp port) (record w { hosts = learned w.conf w.hosts heard }) w holds holds

  glean_in_kept : (group : DpId) (ip : Ip) (w : World) (vid : ℕ) → Kept w → Kept (glean_in group ip w vid)
  glean_in_kept group ip w vid holds = either Kept (is_resolved w.neighbours.neighbours group vid ip) w (want group vid ip w) holds holds

  glean_to_kept : (group : DpId) (vid : ℕ) (ip : Ip) (w : World) → Kept w → Kept (glean_to group vid ip w)
  glean_to_kept group vid ip w holds = with_any Kept (glean_in group ip w) (network_vlan w.conf vid ip) w (λ v. glean_in_kept group ip w v holds) holds

  glean_at_kept : (dp : DpId) (frame : FrameParts) (w : World) (v : Vlan) → Kept w → Kept (glean_at dp frame w v)
  glean_at_kept dp frame w v holds =
      let to : Ip → World = λ ip. glean_to (group_of w.conf dp) v.vid ip w in
      either Kept (is_for_gateway v frame) (option_map_or to (destination frame.upper) w) w
      (with_any Kept to (destination frame.upper) w (λ ip. glean_to_kept (group_of w.conf dp) v.vid ip w holds) holds) holds

  glean_kept : (dp : DpId) (vid : ℕ) (frame : FrameParts) (w : World) → Kept w → Kept (glean dp vid frame w)
  glean_kept dp vid frame w holds = with_any Kept (glean_at dp frame w) (vlan_with w.conf.vlans vid) w (λ v. glean_at_kept dp frame w v holds) holds

  hear_kept : (dp : DpId) (vid : ℕ) (frame : FrameParts) (w : World) → Kept w → Kept (hear_neighbour dp vid frame w)
  hear_kept dp vid frame w holds = with_any Kept (hear_sender dp vid w) (heard_sender w.conf vid frame) w (λ s. holds) holds

  reply_kept : (number : ℕ) (dp : DpId) (port vid : ℕ) (frame : FrameParts) (w : World) → Kept w → Kept (reply number dp port vid frame w)
  reply_kept number dp port vid frame w holds =
      with_any Kept (λ out. say number (packet_out out) w) (outgoing w.conf dp port vid (answer w.conf dp port frame)) w (λ out. says number out w holds) holds

  table_kept : (table number : ℕ) (dp : DpId) (port vid : ℕ) (frame : FrameParts) (w : World) → Kept w → Kept (packet_of_table table number dp port vid frame w)
  table_kept table number dp port vid frame w holds =
      let learned : World = learn dp port vid frame.src w in
      let gleaned : World = glean dp vid frame w in
      let answered : World = reply number dp port vid frame (hear_neighbour dp vid frame w) in
      either Kept (table == sources) learned (if is_route_table table frame.upper then gleaned else if table == gateways then answered else w) (learn_kept dp port vid frame.src w holds)
      (either Kept (is_route_table table frame.upper) gleaned (if table == gateways then answered else w) (glean_kept dp vid frame w holds)
      (either Kept (table == gateways) answered w (reply_kept number dp port vid frame (hear_neighbour dp vid frame w) (hear_kept dp vid frame w holds)) holds))

  at_kept : (m : PacketIn) (number : ℕ) (dp : DpId) (w : World) (port : ℕ) (frame : FrameParts) → Kept w → Kept (packet_at m number dp w port frame)
  at_kept m number dp w port frame holds =
      with_any Kept (λ vid. packet_of_table m.table number dp port vid frame w) (counted_vid w.conf dp port frame) w (λ vid. table_kept m.table number dp port vid frame w holds) holds

  by_kept : (m : PacketIn) (number : ℕ) (dp : DpId) (w : World) (port : ℕ) → Kept w → Kept (packet_by m number dp w port)
  by_kept m number dp w port holds = with_any Kept (packet_at m number dp w port) (parts m.payload) w (λ frame. at_kept m number dp w port frame holds) holds

  packet_in_kept : (m : PacketIn) (number : ℕ) (dp : DpId) (w : World) → Kept w → Kept (packet_in m number dp w)
  packet_in_kept m number dp w holds =
      either Kept (m.cookie == COOKIE && is_running (running w) dp) (option_map_or (packet_by m number dp w) (in_port m.fields) w) w
      (with_any Kept (packet_by m number dp w) (in_port m.fields) w (λ port. by_kept m number dp w port holds) holds) holds

  pub packet_kept : (m : Message) (number : ℕ) (dp : Option DpId) (w : World) → Kept w → Kept (packet m number dp w)
  packet_kept (messages.PacketIn m) number (Some dp) w holds = packet_in_kept m number dp w holds
  packet_kept m number dp w holds = holds
