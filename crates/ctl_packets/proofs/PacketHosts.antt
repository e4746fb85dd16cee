-- What a packet lets learn: the host that it tells of, and nothing else changes the hosts.
use Rattle.std.proofs.Common.{◌≡◌, ℕ, ◌==◌, ◌&&◌, ◌*◌, Bool, true, false, Option, Some, None, refl, ap, ◌∙◌, if◌then◌else◌}
use Rattle.std.specs.Option.{option_and_then, option_map_or}
use Rattle.net_base.specs.declared.numbers.DpId.{DpId}
use Rattle.of_match.specs.InPort.{in_port}
use Rattle.conf_types.specs.declared.state.HostRec.{HostRec}
use Rattle.conf_types.specs.Links.{is_up}
use Rattle.conf_types.specs.State.{is_running}
use Rattle.host_learn.specs.Learning.{learned}
use Rattle.host_learn.specs.Table.{Table as Hosts}
use Rattle.of13_codec.specs.declared.message.Message.{Message}
use Rattle.of13_codec.specs.declared.packet_in.PacketIn.{PacketIn}
use Rattle.flow_messages.specs.declared.messages.TheConstants.{COOKIE}
use Rattle.pkt_view.specs.Frame.{FrameParts, parts}
use Rattle.neighbour_resolve.specs.Answers.{answer}
use Rattle.neighbour_resolve.specs.Counted.{counted_vid}
use Rattle.ctl_world.specs.Connections.{conn_with, with_said}
use Rattle.ctl_world.specs.Saying.{packet_out, say, say_by}
use Rattle.ctl_world.specs.World.{World, running, ups}
use Rattle.ctl_packets.specs.Packets.{gateways, glean, hear_neighbour, is_route_table, learn, outgoing, packet_at, packet_by, packet_in, packet_of_table, reply, sources}
use Rattle.ctl_packets.specs.Told.{told_at, told_by, told_in}
use Rattle.ctl_packets.proofs.Keeping.{glean_kept, hear_kept, with_any}

-- the table behind, where a host is told or none
abbrev pub hosts_told : World → Option HostRec → Hosts
hosts_told w o = option_map_or (learned w.conf w.hosts) o w.hosts

pub say_hosts : (number : ℕ) (m : Message) (w : World) → (say number m w).hosts ≡ w.hosts
say_hosts number m w = elim (conn_with w.conns number) as (λ o. (option_map_or (say_by with_said m w) o w).hosts ≡ w.hosts) [ Some c ↦ refl | None ↦ refl ]

module _ (w : World) where
  abbrev Same : World → Type 0
  Same v = v.hosts ≡ w.hosts

  glean_same : (dp : DpId) (vid : ℕ) (frame : FrameParts) → Same (glean dp vid frame w)
  glean_same dp vid frame = glean_kept Same (λ neighbours v same. same) dp vid frame w refl

  heard_same : (dp : DpId) (vid : ℕ) (frame : FrameParts) → Same (hear_neighbour dp vid frame w)
  heard_same dp vid frame = hear_kept Same (λ neighbours v same. same) dp vid frame w refl

reply_same : (number : ℕ) (dp : DpId) (port vid : ℕ) (frame : FrameParts) (w : World) → (reply number dp port vid frame w).hosts ≡ w.hosts
reply_same number dp port vid frame w =
    with_any (Same w) (λ out. say number (packet_out out) w) (outgoing w.conf dp port vid (answer w.conf dp port frame)) w (λ out. say_hosts number (packet_out out) w) refl

module _ (m : PacketIn) (number : ℕ) (dp : DpId) (w : World) where
  -- of the table of sources, or not
  abbrev told_of : Bool → Option ℕ → Option HostRec
  told_of b o = if b then option_and_then (told_by m dp w) o else None

  abbrev of_parts : Bool → ℕ → Option FrameParts → Option HostRec
  of_parts b port o = if b then option_and_then (told_at dp w port) o else None

  abbrev of_vid : Bool → ℕ → FrameParts → Option ℕ → Option HostRec
  of_vid b port frame o =
      if b then option_and_then (λ vid. if is_up (ups w) dp port then Some (record { dp = dp; port = port; vid = vid; mac = frame.src; learned = w.moment }) else None) o else None

  table_hosts : (table port vid : ℕ) (frame : FrameParts) (b : Bool) → (table == sources) ≡ b
      → (if b then learn dp port vid frame.src w else if is_route_table table frame.upper then glean dp vid frame w else if table == gateways then reply number dp port vid frame (hear_neighbour dp vid frame w) else w).hosts
      ≡ hosts_told w (of_vid b port frame (Some vid))
  table_hosts table port vid frame true is =
      let l : HostRec = record { dp = dp; port = port; vid = vid; mac = frame.src; learned = w.moment } in
      elim (is_up (ups w) dp port) as (λ c. (if c then record w { hosts = learned w.conf w.hosts l } else w).hosts ≡ hosts_told w (if c then Some l else None)) [ true ↦ refl | false ↦ refl ]
  table_hosts table port vid frame false is =
      let gleaned : World = glean dp vid frame w in
      let heard : World = hear_neighbour dp vid frame w in
      let answered : World = reply number dp port vid frame heard in
      elim (is_route_table table frame.upper) as (λ c. (if c then gleaned else if table == gateways then answered else w).hosts ≡ w.hosts) [
        | true ↦ glean_same w dp vid frame
        | false ↦ elim (table == gateways) as (λ c. (if c then answered else w).hosts ≡ w.hosts) [ true ↦ reply_same number dp port vid frame heard ∙ heard_same w dp vid frame | false ↦ refl ]
      ]

  vid_hosts : (port : ℕ) (frame : FrameParts) (b : Bool) → (m.table == sources) ≡ b → (o : Option ℕ)
      → (option_map_or (λ vid. packet_of_table m.table number dp port vid frame w) o w).hosts ≡ hosts_told w (of_vid b port frame o)
  vid_hosts port frame true is None = refl
  vid_hosts port frame false is None = refl
  vid_hosts port frame true is (Some vid) =
      ap (λ (c : Bool). (if c then learn dp port vid frame.src w else if is_route_table m.table frame.upper then glean dp vid frame w else if m.table == gateways then reply number dp port vid frame (hear_neighbour dp vid frame w) else w).hosts) is
      ∙ table_hosts m.table port vid frame true is
  vid_hosts port frame false is (Some vid) =
      ap (λ (c : Bool). (if c then learn dp port vid frame.src w else if is_route_table m.table frame.upper then glean dp vid frame w else if m.table == gateways then reply number dp port vid frame (hear_neighbour dp vid frame w) else w).hosts) is
      ∙ table_hosts m.table port vid frame false is

  parts_hosts : (port : ℕ) (b : Bool) → (m.table == sources) ≡ b → (o : Option FrameParts) → (option_map_or (packet_at m number dp w port) o w).hosts ≡ hosts_told w (of_parts b port o)
  parts_hosts port true is None = refl
  parts_hosts port false is None = refl
  parts_hosts port true is (Some frame) = vid_hosts port frame true is (counted_vid w.conf dp port frame)
  parts_hosts port false is (Some frame) = vid_hosts port frame false is (counted_vid w.conf dp port frame)

  port_hosts : (b : Bool) → (m.table == sources) ≡ b → (o : Option ℕ) → (option_map_or (packet_by m number dp w) o w).hosts ≡ hosts_told w (told_of b o)
  port_hosts true is None = refl
  port_hosts false is None = refl
  port_hosts true is (Some port) = parts_hosts port true is (parts m.payload)
  port_hosts false is (Some port) = parts_hosts port false is (parts m.payload)

  pub packet_hosts : (packet_in m number dp w).hosts ≡ hosts_told w (told_in m dp w)
  packet_hosts =
      elim (m.cookie == COOKIE && is_running (running w) dp) as
      (λ a. (if a then option_map_or (packet_by m number dp w) (in_port m.fields) w else w).hosts ≡ hosts_told w (if a && m.table == sources then option_and_then (told_by m dp w) (in_port m.fields) else None)) [
        | true ↦ port_hosts (m.table == sources) refl (in_port m.fields)
        | false ↦ refl
      ]
