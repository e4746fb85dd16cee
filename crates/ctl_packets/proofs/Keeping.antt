-- What a packet does keeps whatever each message that goes out with a packet keeps, and each change of what is known of hosts and
-- neighbours.
use Rattle.std.specs.Prelude.{Bool, true, false, None, ℕ, Option, Some, if◌then◌else◌, ◌==◌, ◌&&◌}
use Rattle.std.specs.Option.{option_map_or}
use Rattle.net_base.specs.declared.numbers.DpId.{DpId}
use Rattle.conf_types.specs.declared.address.Ip.{Ip}
use Rattle.conf_types.specs.declared.vlan.Vlan.{Vlan}
use Rattle.conf_types.specs.Configuration.{vlan_with}
use Rattle.conf_types.specs.Groups.{group_of}
use Rattle.pkt_view.specs.Frame.{FrameParts, parts}
use Rattle.neighbour_resolve.specs.Hearing.{heard_sender}
use Rattle.neighbour_resolve.specs.Table.{Table as Neighbours}
use Rattle.ctl_world.specs.World.{World, running, ups}
use Rattle.ctl_packets.specs.Packets.{destination, glean, glean_at, glean_in, glean_to, hear_neighbour, hear_sender, is_for_gateway, is_resolved, is_route_table, network_vlan, want, gateways, learn, outgoing, packet_at, packet_by, packet_in, packet_of_table, reply, sources}
use Rattle.net_base.specs.declared.address.Mac.{Mac}
use Rattle.of_match.specs.InPort.{in_port}
use Rattle.conf_types.specs.declared.state.HostRec.{HostRec}
use Rattle.conf_types.specs.Links.{is_up}
use Rattle.conf_types.specs.State.{is_running}
use Rattle.host_learn.specs.Learning.{learned}
use Rattle.host_learn.specs.Table.{Table as Hosts}
use Rattle.of13_codec.specs.declared.packet_in.PacketIn.{PacketIn}
use Rattle.flow_messages.specs.declared.messages.TheConstants.{COOKIE}
use Rattle.neighbour_resolve.specs.declared.asks.Outgoing.{Outgoing}
use Rattle.neighbour_resolve.specs.Answers.{answer}
use Rattle.neighbour_resolve.specs.Counted.{counted_vid}
use Rattle.ctl_world.specs.Saying.{packet_out, say}

module _ (K : World → Type 0) where
  either : (b : Bool) (v w : World) → K v → K w → K (if b then v else w)
  either true v w one other = one
  either false v w one other = other

  pub with_any : {A : Type 0} (f : A → World) (o : Option A) (w : World) → ((a : A) → K (f a)) → K w → K (option_map_or f o w)
  with_any f (Some a) w each none = each a
  with_any f None w each none = none

module _ (K : World → Type 0) (meets : (neighbours : Neighbours) (w : World) → K w → K (record w { neighbours = neighbours })) where
  glean_in_kept : (group : DpId) (ip : Ip) (w : World) (vid : ℕ) → K w → K (glean_in group ip w vid)
  glean_in_kept group ip w vid holds =
      either K (is_resolved w.neighbours.neighbours group vid ip) w (want group vid ip w) holds (meets (want group vid ip w).neighbours w holds)

  glean_to_kept : (group : DpId) (vid : ℕ) (ip : Ip) (w : World) → K w → K (glean_to group vid ip w)
  glean_to_kept group vid ip w holds = with_any K (glean_in group ip w) (network_vlan w.conf vid ip) w (λ v. glean_in_kept group ip w v holds) holds

  glean_at_kept : (dp : DpId) (frame : FrameParts) (w : World) (v : Vlan) → K w → K (glean_at dp frame w v)
  glean_at_kept dp frame w v holds =
      let to : Ip → World = λ ip. glean_to (group_of w.conf dp) v.vid ip w in
      either K (is_for_gateway v frame) (option_map_or to (destination frame.upper) w) w
      (with_any K to (destination frame.upper) w (λ ip. glean_to_kept (group_of w.conf dp) v.vid ip w holds) holds) holds

  pub glean_kept : (dp : DpId) (vid : ℕ) (frame : FrameParts) (w : World) → K w → K (glean dp vid frame w)
  glean_kept dp vid frame w holds = with_any K (glean_at dp frame w) (vlan_with w.conf.vlans vid) w (λ v. glean_at_kept dp frame w v holds) holds

  pub hear_kept : (dp : DpId) (vid : ℕ) (frame : FrameParts) (w : World) → K w → K (hear_neighbour dp vid frame w)
  hear_kept dp vid frame w holds =
      with_any K (hear_sender dp vid w) (heard_sender w.conf vid frame) w (λ s. meets (hear_sender dp vid w s).neighbours w holds) holds

module _ (K : World → Type 0) (sends : (number : ℕ) (out : Outgoing) (w : World) → K w → K (say number (packet_out out) w))
    (knows : (hosts : Hosts) (neighbours : Neighbours) (w : World) → K w → K (record w { hosts = hosts; neighbours = neighbours })) where
  meets : (neighbours : Neighbours) (w : World) → K w → K (record w { neighbours = neighbours })
  meets neighbours w holds = knows w.hosts neighbours w holds

  learn_kept : (dp : DpId) (port vid : ℕ) (mac : Mac) (w : World) → K w → K (learn dp port vid mac w)
  learn_kept dp port vid mac w holds =
      let heard : HostRec = record { dp = dp; port = port; vid = vid; mac = mac; learned = w.moment } in
      let hosts : Hosts = learned w.conf w.hosts heard in
      either K (is_up (ups w) dp port) (record w { hosts = hosts }) w (knows hosts w.neighbours w holds) holds

  reply_kept : (number : ℕ) (dp : DpId) (port vid : ℕ) (frame : FrameParts) (w : World) → K w → K (reply number dp port vid frame w)
  reply_kept number dp port vid frame w holds =
      with_any K (λ out. say number (packet_out out) w) (outgoing w.conf dp port vid (answer w.conf dp port frame)) w (λ out. sends number out w holds) holds

  table_kept : (table number : ℕ) (dp : DpId) (port vid : ℕ) (frame : FrameParts) (w : World) → K w → K (packet_of_table table number dp port vid frame w)
  table_kept table number dp port vid frame w holds =
      let learned : World = learn dp port vid frame.src w in
      let gleaned : World = glean dp vid frame w in
      let answered : World = reply number dp port vid frame (hear_neighbour dp vid frame w) in
      either K (table == sources) learned (if is_route_table table frame.upper then gleaned else if table == gateways then answered else w) (learn_kept dp port vid frame.src w holds)
      (either K (is_route_table table frame.upper) gleaned (if table == gateways then answered else w) (glean_kept K meets dp vid frame w holds)
      (either K (table == gateways) answered w (reply_kept number dp port vid frame (hear_neighbour dp vid frame w) (hear_kept K meets dp vid frame w holds)) holds))

  at_kept : (m : PacketIn) (number : ℕ) (dp : DpId) (w : World) (port : ℕ) (frame : FrameParts) → K w → K (packet_at m number dp w port frame)
  at_kept m number dp w port frame holds =
      with_any K (λ vid. packet_of_table m.table number dp port vid frame w) (counted_vid w.conf dp port frame) w (λ vid. table_kept m.table number dp port vid frame w holds) holds

  by_kept : (m : PacketIn) (number : ℕ) (dp : DpId) (w : World) (port : ℕ) → K w → K (packet_by m number dp w port)
  by_kept m number dp w port holds = with_any K (packet_at m number dp w port) (parts m.payload) w (λ frame. at_kept m number dp w port frame holds) holds

  pub packet_in_kept : (m : PacketIn) (number : ℕ) (dp : DpId) (w : World) → K w → K (packet_in m number dp w)
  packet_in_kept m number dp w holds =
      either K (m.cookie == COOKIE && is_running (running w) dp) (option_map_or (packet_by m number dp w) (in_port m.fields) w) w
      (with_any K (packet_by m number dp w) (in_port m.fields) w (λ port. by_kept m number dp w port holds) holds) holds
