-- A packet that comes behind such a change.
use Rattle.std.proofs.Common.{ℕ, ◌==◌, ◌&&◌, List, refl, ap, if◌then◌else◌}
use Rattle.std.specs.Option.{option_map_or}
use Rattle.conf_types.specs.declared.address.Ip.{Ip}
use Rattle.net_base.specs.declared.address.Mac.{Mac}
use Rattle.net_base.specs.declared.numbers.DpId.{DpId}
use Rattle.of_match.specs.InPort.{in_port}
use Rattle.conf_types.specs.declared.state.HostRec.{HostRec}
use Rattle.conf_types.specs.declared.state.UpRec.{UpRec}
use Rattle.conf_types.specs.declared.vlan.Vlan.{Vlan}
use Rattle.conf_types.specs.Configuration.{vlan_with}
use Rattle.conf_types.specs.Groups.{group_of}
use Rattle.conf_types.specs.Links.{is_up}
use Rattle.conf_types.specs.State.{is_running}
use Rattle.host_learn.specs.Learning.{learned}
use Rattle.of13_codec.specs.declared.packet_in.PacketIn.{PacketIn}
use Rattle.flow_messages.specs.declared.messages.TheConstants.{COOKIE}
use Rattle.pkt_view.specs.Frame.{FrameParts, parts}
use Rattle.neighbour_resolve.specs.Answers.{answer}
use Rattle.neighbour_resolve.specs.Counted.{counted_vid}
use Rattle.neighbour_resolve.specs.Hearing.{heard_sender}
use Rattle.ctl_world.specs.Saying.{packet_out, say}
use Rattle.ctl_world.specs.World.{World, running, ups}
use Rattle.ctl_packets.specs.Packets.{destination, gateways, glean, glean_at, glean_in, glean_to, hear_neighbour, hear_sender, is_for_gateway, is_resolved, is_route_table, learn, network_vlan, outgoing, packet_at, packet_by, packet_in, packet_of_table, reply, sources, want}
use Rattle.law_recordings.proofs.Touches.{Keeps, Touch, any, both, either, itself, over, running_kept, say_keeps, touched, ups_kept}

module _ (t : Touch) where
  learn_keeps : (dp : DpId) (port vid : ℕ) (mac : Mac) → Keeps t (learn dp port vid mac)
  learn_keeps dp port vid mac w =
      let heard : HostRec = record { dp = dp; port = port; vid = vid; mac = mac; learned = w.moment } in
      let known : World → World = λ v. record v { hosts = learned w.conf w.hosts heard } in
      over t w.moment (learn dp port vid mac (touched t w)) (if is_up (ups w) dp port then known (touched t w) else touched t w) (learn dp port vid mac w)
      (ap (λ (up : List UpRec). if is_up up dp port then known (touched t w) else touched t w) (ups_kept t w))
      (either t w.moment (is_up (ups w) dp port) (known (touched t w)) (touched t w) (known w) w (record { is = refl; moment = refl }) (itself t w))

  want_keeps : (group : DpId) (vid : ℕ) (ip : Ip) → Keeps t (want group vid ip)
  want_keeps group vid ip w = record { is = refl; moment = refl }

  glean_in_keeps : (group : DpId) (ip : Ip) (vid : ℕ) → Keeps t (λ w. glean_in group ip w vid)
  glean_in_keeps group ip vid w =
      either t w.moment (is_resolved w.neighbours.neighbours group vid ip) (touched t w) (want group vid ip (touched t w)) w (want group vid ip w) (itself t w)
      (want_keeps group vid ip w)

  glean_to_keeps : (group : DpId) (vid : ℕ) (ip : Ip) → Keeps t (glean_to group vid ip)
  glean_to_keeps group vid ip w =
      any t w (network_vlan w.conf vid ip) (glean_in group ip (touched t w)) (glean_in group ip w) (λ v. glean_in_keeps group ip v w)

  glean_at_keeps : (dp : DpId) (frame : FrameParts) (v : Vlan) → Keeps t (λ w. glean_at dp frame w v)
  glean_at_keeps dp frame v w =
      let to : World → Ip → World = λ u ip. glean_to (group_of w.conf dp) v.vid ip u in
      either t w.moment (is_for_gateway v frame) (option_map_or (to (touched t w)) (destination frame.upper) (touched t w)) (touched t w)
      (option_map_or (to w) (destination frame.upper) w) w
      (any t w (destination frame.upper) (to (touched t w)) (to w) (λ ip. glean_to_keeps (group_of w.conf dp) v.vid ip w)) (itself t w)

  glean_keeps : (dp : DpId) (vid : ℕ) (frame : FrameParts) → Keeps t (glean dp vid frame)
  glean_keeps dp vid frame w = any t w (vlan_with w.conf.vlans vid) (glean_at dp frame (touched t w)) (glean_at dp frame w) (λ v. glean_at_keeps dp frame v w)

  hear_keeps : (dp : DpId) (vid : ℕ) (frame : FrameParts) → Keeps t (hear_neighbour dp vid frame)
  hear_keeps dp vid frame w = any t w (heard_sender w.conf vid frame) (hear_sender dp vid (touched t w)) (hear_sender dp vid w) (λ s. record { is = refl; moment = refl })

  reply_keeps : (number : ℕ) (dp : DpId) (port vid : ℕ) (frame : FrameParts) → Keeps t (reply number dp port vid frame)
  reply_keeps number dp port vid frame w =
      any t w (outgoing w.conf dp port vid (answer w.conf dp port frame)) (λ out. say number (packet_out out) (touched t w)) (λ out. say number (packet_out out) w)
      (λ out. say_keeps t number (packet_out out) w)

  table_keeps : (table number : ℕ) (dp : DpId) (port vid : ℕ) (frame : FrameParts) → Keeps t (packet_of_table table number dp port vid frame)
  table_keeps table number dp port vid frame w =
      let v : World = touched t w in
      let learns : World → World = learn dp port vid frame.src in
      let gleans : World → World = glean dp vid frame in
      let answers : World → World = λ u. reply number dp port vid frame (hear_neighbour dp vid frame u) in
      either t w.moment (table == sources) (learns v) (if is_route_table table frame.upper then gleans v else if table == gateways then answers v else v)
      (learns w) (if is_route_table table frame.upper then gleans w else if table == gateways then answers w else w) (learn_keeps dp port vid frame.src w)
      (either t w.moment (is_route_table table frame.upper) (gleans v) (if table == gateways then answers v else v) (gleans w) (if table == gateways then answers w else w) (glean_keeps dp vid frame w)
      (either t w.moment (table == gateways) (answers v) v (answers w) w
      (both t (hear_neighbour dp vid frame) (reply number dp port vid frame) (hear_keeps dp vid frame) (reply_keeps number dp port vid frame) w) (itself t w)))

  at_keeps : (m : PacketIn) (number : ℕ) (dp : DpId) (port : ℕ) (frame : FrameParts) → Keeps t (λ w. packet_at m number dp w port frame)
  at_keeps m number dp port frame w =
      any t w (counted_vid w.conf dp port frame) (λ vid. packet_of_table m.table number dp port vid frame (touched t w)) (λ vid. packet_of_table m.table number dp port vid frame w)
      (λ vid. table_keeps m.table number dp port vid frame w)

  by_keeps : (m : PacketIn) (number : ℕ) (dp : DpId) (port : ℕ) → Keeps t (λ w. packet_by m number dp w port)
  by_keeps m number dp port w =
      any t w (parts m.payload) (packet_at m number dp (touched t w) port) (packet_at m number dp w port) (λ frame. at_keeps m number dp port frame w)

  pub packet_in_keeps : (m : PacketIn) (number : ℕ) (dp : DpId) → Keeps t (packet_in m number dp)
  packet_in_keeps m number dp w =
      let by : World → World = λ u. option_map_or (packet_by m number dp u) (in_port m.fields) u in
      let counts : List DpId → World = λ dps. if m.cookie == COOKIE && is_running dps dp then by (touched t w) else touched t w in
      over t w.moment (packet_in m number dp (touched t w)) (counts (running w)) (packet_in m number dp w)
      (ap counts (running_kept t w))
      (either t w.moment (m.cookie == COOKIE && is_running (running w) dp) (by (touched t w)) (touched t w) (by w) w
      (any t w (in_port m.fields) (packet_by m number dp (touched t w)) (packet_by m number dp w) (λ port. by_keeps m number dp port w)) (itself t w))
