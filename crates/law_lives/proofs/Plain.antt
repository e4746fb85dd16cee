-- What each elementary step of a turn keeps, but for what a Moment does, the rest of the turn keeps: so the clock stands still, and no
-- ECHO_REQUEST is said.
use Rattle.std.proofs.Common.{◌≡◌, ℕ, zero, suc, ◌==◌, ◌&&◌, Bool, true, false, Option, Some, None, List, [], ◌∷◌, ◌++◌, Result, Ok, Err, codes, length, map, is_some, refl, if◌then◌else◌}
use Rattle.std.specs.Option.{option_map_or}
use Rattle.conf_types.specs.declared.address.Ip.{Ip}
use Rattle.net_base.specs.declared.address.Mac.{Mac}
use Rattle.net_base.specs.declared.numbers.DpId.{DpId}
use Rattle.of_match.specs.InPort.{in_port}
use Rattle.of_match.specs.declared.entry.Command.{Command}
use Rattle.of_match.specs.declared.entry.Command.TheVariants.{Add, DeleteAll, DeleteStrict}
use Rattle.of_match.specs.declared.entry.Entry.{Entry}
use Rattle.conf_types.specs.Configuration.{Configuration, vlan_with}
use Rattle.conf_types.specs.Groups.{group_of}
use Rattle.conf_types.specs.Links.{is_up}
use Rattle.conf_types.specs.State.{is_running}
use Rattle.host_learn.specs.Learning.{learned}
use Rattle.host_learn.specs.Table.{Table as Hosts}
use Rattle.of13_codec.specs.declared.message.Message.{Message}
use Rattle.of13_codec.specs.declared.message.Message.TheVariants as messages
use Rattle.of13_codec.specs.declared.packet_in.PacketIn.{PacketIn}
use Rattle.flow_messages.specs.declared.messages.TheConstants.{COOKIE}
use Rattle.flow_messages.specs.Messages.{command_message, delete_all}
use Rattle.pkt_view.specs.Frame.{FrameParts, parts}
use Rattle.plan_difference.specs.Difference.{difference}
use Rattle.neighbour_resolve.specs.declared.neighbour.Due.{Due}
use Rattle.neighbour_resolve.specs.declared.neighbour.Due.TheVariants.{Ask, Gone}
use Rattle.neighbour_resolve.specs.Answers.{answer}
use Rattle.neighbour_resolve.specs.Asks.{AskOn, asks, in_order}
use Rattle.neighbour_resolve.specs.Counted.{counted_vid}
use Rattle.neighbour_resolve.specs.Due.{due_said}
use Rattle.neighbour_resolve.specs.Hearing.{heard_sender}
use Rattle.neighbour_resolve.specs.Table.{Table as Neighbours, after_told, stays, unresolved}
use Rattle.switch_session.specs.declared.closing.Closing.{Closing}
use Rattle.switch_session.specs.declared.closing.Closing.TheVariants.{BadFrame, Replaced, UnknownDp, WrongVersion}
use Rattle.switch_session.specs.declared.state.Step.{Step}
use Rattle.switch_session.specs.declared.state.Step.TheVariants as steps
use Rattle.switch_session.specs.Stages.{leads}
use Rattle.ctl_world.specs.declared.conns.Conn.{Conn}
use Rattle.ctl_world.specs.declared.said.Said.TheVariants as told
use Rattle.ctl_world.specs.Connections.{change, conn_of, conn_with, is_open, with_heard}
use Rattle.ctl_world.specs.declared.frames.Front.{Front}
use Rattle.ctl_world.specs.declared.frames.Front.TheVariants.{Part, Frame, Bad}
use Rattle.ctl_world.specs.Ends.{close, forget_lost}
use Rattle.ctl_world.specs.Frames.{front}
use Rattle.ctl_world.specs.Saying.{add_said, ask, packet_out, repeat, say}
use Rattle.ctl_world.specs.World.{World, running, ups}
use Rattle.ctl_packets.specs.Packets.{destination, gateways, glean, glean_at, glean_in, glean_to, hear_neighbour, hear_sender, is_for_gateway, is_resolved, is_route_table, learn, network_vlan, outgoing, packet_at, packet_by, packet_of_table, reply, sources, want}
use Rattle.ctl_core.specs.Settlings.{ask_all, ask_due, ask_each, ask_on, batch, batch_on, batches, note_sent, say_batch, say_due, say_each, settle, take_due, wanted}
use Rattle.ctl_life.specs.Life.{echo, has_frame, read, replace, says, take_dp, turn_away, unread}
use Rattle.ctl_core.specs.Hearing.{begin, follow, hear_frame, hear_frames, hear_front, hear_next, hear_on, introduce, packet, unfit, want_gateways, want_in}
use Rattle.ctl_core.specs.Reloading.{close_each, close_stray, reload, renew, strays, want_each}
use Rattle.ctl_core.proofs.Walk.{either, wants_by, with_any}

-- ---- the elementary steps

-- an ECHO_REQUEST (OpenFlow 1.3, 7.5.2)
abbrev pub is_probe : Message → Bool
is_probe (messages.EchoRequest payload) = true
is_probe m = false

pub record Plainly (K : World → Type 0) : Type 0 where
  pub says : (number : ℕ) (m : Message) → is_probe m ≡ false → (w : World) → K w → K (say number m w)
  pub asks : (number : ℕ) (m : Message) → is_probe m ≡ false → (w : World) → K w → K (ask number m w)
  pub repeats : (number : ℕ) (m : Message) → is_probe m ≡ false → (xid : ℕ) (w : World) → K w → K (repeat number m xid w)
  pub closes : (cause : Closing) (number : ℕ) (w : World) → K w → K (close cause number w)
  pub tells : (text : List ℕ) (w : World) → K w → K (add_said (told.Line text ∷ []) w)
  pub hears : (m : Message) (xid number : ℕ) (w : World) → K w → K (forget_lost (record w { conns = change number (with_heard m xid) w.conns }))
  pub takes : (number : ℕ) (dp : DpId) (w : World) → K w → K (take_dp number dp w)
  pub notes : (number : ℕ) (entries : List Entry) (w : World) → K w → K (note_sent number entries w)
  pub reads : (number : ℕ) (w : World) → K w → K (read number w)
  pub hosts : (table : Hosts) (w : World) → K w → K (record w { hosts = table })
  pub neighbours : (table : Neighbours) (w : World) → K w → K (record w { neighbours = table })
  pub renews : (next : Configuration) (w : World) → K w → K (renew next w)

module _ (Shows : World → Type 0) (plain : Plainly Shows) where
  wants_show : (group : DpId) (w : World) → Shows w → Shows (want_in group w)
  wants_show group w is = wants_by Shows group w (plain.neighbours (want_gateways group w.conf.vlans w.moment w.neighbours) w is) is

  -- ---- packets

  learn_shows : (dp : DpId) (port vid : ℕ) (mac : Mac) (w : World) → Shows w → Shows (learn dp port vid mac w)
  learn_shows dp port vid mac w is =
      either Shows (is_up (ups w) dp port) (record w { hosts = learned w.conf w.hosts (record { dp = dp; port = port; vid = vid; mac = mac; learned = w.moment }) }) w
      (plain.hosts (learned w.conf w.hosts (record { dp = dp; port = port; vid = vid; mac = mac; learned = w.moment })) w is) is

  glean_to_shows : (group : DpId) (vid : ℕ) (ip : Ip) (w : World) → Shows w → Shows (glean_to group vid ip w)
  glean_to_shows group vid ip w is =
      with_any Shows (glean_in group ip w) (network_vlan w.conf vid ip) w (λ v. either Shows (is_resolved w.neighbours.neighbours group v ip) w (want group v ip w) is (plain.neighbours (after_told (stays true) (unresolved group v ip w.moment) w.neighbours) w is)) is

  glean_shows : (dp : DpId) (vid : ℕ) (frame : FrameParts) (w : World) → Shows w → Shows (glean dp vid frame w)
  glean_shows dp vid frame w is =
      with_any Shows (glean_at dp frame w) (vlan_with w.conf.vlans vid) w
      (λ v. let to : Ip → World = λ ip. glean_to (group_of w.conf dp) v.vid ip w in
      either Shows (is_for_gateway v frame) (option_map_or to (destination frame.upper) w) w
      (with_any Shows to (destination frame.upper) w (λ ip. glean_to_shows (group_of w.conf dp) v.vid ip w is) is) is)
      is

  hear_shows : (dp : DpId) (vid : ℕ) (frame : FrameParts) (w : World) → Shows w → Shows (hear_neighbour dp vid frame w)
  hear_shows dp vid frame w is = with_any Shows (hear_sender dp vid w) (heard_sender w.conf vid frame) w (λ s. plain.neighbours (hear_sender dp vid w s).neighbours w is) is

  reply_shows : (number : ℕ) (dp : DpId) (port vid : ℕ) (frame : FrameParts) (w : World) → Shows w → Shows (reply number dp port vid frame w)
  reply_shows number dp port vid frame w is =
      with_any Shows (λ out. say number (packet_out out) w) (outgoing w.conf dp port vid (answer w.conf dp port frame)) w (λ out. plain.says number (packet_out out) refl w is) is

  table_shows : (table number : ℕ) (dp : DpId) (port vid : ℕ) (frame : FrameParts) (w : World) → Shows w → Shows (packet_of_table table number dp port vid frame w)
  table_shows table number dp port vid frame w is =
      let learned : World = learn dp port vid frame.src w in
      let gleaned : World = glean dp vid frame w in
      let answered : World = reply number dp port vid frame (hear_neighbour dp vid frame w) in
      either Shows (table == sources) learned (if is_route_table table frame.upper then gleaned else if table == gateways then answered else w) (learn_shows dp port vid frame.src w is)
      (either Shows (is_route_table table frame.upper) gleaned (if table == gateways then answered else w) (glean_shows dp vid frame w is)
      (either Shows (table == gateways) answered w (reply_shows number dp port vid frame (hear_neighbour dp vid frame w) (hear_shows dp vid frame w is)) is))

  by_shows : (m : PacketIn) (number : ℕ) (dp : DpId) (w : World) (port : ℕ) → Shows w → Shows (packet_by m number dp w port)
  by_shows m number dp w port is =
      with_any Shows (packet_at m number dp w port) (parts m.payload) w
      (λ frame. with_any Shows (λ vid. packet_of_table m.table number dp port vid frame w) (counted_vid w.conf dp port frame) w (λ vid. table_shows m.table number dp port vid frame w is) is) is

  packet_shows : (m : Message) (number : ℕ) (dp : Option DpId) (w : World) → Shows w → Shows (packet m number dp w)
  packet_shows (messages.PacketIn m) number (Some dp) w is =
      either Shows (m.cookie == COOKIE && is_running (running w) dp) (option_map_or (packet_by m number dp w) (in_port m.fields) w) w
      (with_any Shows (packet_by m number dp w) (in_port m.fields) w (λ port. by_shows m number dp w port is) is) is
  packet_shows m number dp w is = is

  -- ---- one message

  replaced_shows : (dp : DpId) (w : World) → Shows w → Shows (replace dp w)
  replaced_shows dp w is = with_any Shows (λ (c : Conn). close Replaced c.number w) (conn_of w.conns dp) w (λ c. plain.closes Replaced c.number w is) is

  introduced_shows : (number : ℕ) (dp : DpId) (cause : Option Closing) (w : World) → Shows w → Shows (introduce number dp cause w)
  introduced_shows number dp (Some cause) w is = plain.closes cause number w is
  introduced_shows number dp None w is = plain.asks number messages.PortDescRequest refl (take_dp number dp (replace dp w)) (plain.takes number dp (replace dp w) (replaced_shows dp w is))

  begun_shows : (dp : Option DpId) (w : World) → Shows w → Shows (begin dp w)
  begun_shows None w is = is
  begun_shows (Some dp) w is = wants_show (group_of w.conf dp) w is

  echo_shows : (m : Message) (number xid : ℕ) (w : World) → Shows w → Shows (echo m number xid w)
  echo_shows (messages.EchoRequest payload) number xid w is = plain.repeats number (messages.EchoReply payload) refl xid w is
  echo_shows m number xid w is = is

  away_shows : (cause : Closing) (number xid : ℕ) (w : World) → Shows w → Shows (turn_away cause number xid w)
  away_shows WrongVersion number xid w is = plain.closes WrongVersion number (repeat number (messages.Error 0 0 []) xid w) (plain.repeats number (messages.Error 0 0 []) refl xid w is)
  away_shows cause number xid w is = plain.closes cause number w is

  follow_shows : (step : Step) (m : Message) (xid number : ℕ) (dp : Option DpId) (w : World) → Shows w → Shows (follow step m xid number dp w)
  follow_shows steps.Nothing m xid number dp w is = is
  follow_shows steps.AskFeatures m xid number dp w is = plain.says number messages.FeaturesRequest refl w is
  follow_shows (steps.Features id n_tables auxiliary) m xid number dp w is = introduced_shows number id (unfit w.conf id n_tables auxiliary) w is
  follow_shows steps.PortsKnown m xid number dp w is = plain.asks number messages.BarrierRequest refl (say number delete_all w) (plain.says number delete_all refl w is)
  follow_shows steps.Wiped m xid number dp w is = begun_shows dp w is
  follow_shows steps.Settled m xid number dp w is = is
  follow_shows (steps.PortChanged port) m xid number dp w is = is
  follow_shows steps.Packet m xid number dp w is = packet_shows m number dp w is
  follow_shows steps.Echo m xid number dp w is = echo_shows m number xid w is
  follow_shows (steps.Close cause) m xid number dp w is = away_shows cause number xid w is

  pub heard_shows : (said : Option (Message × ℕ)) (number : ℕ) (w : World) → Shows w → Shows (hear_frame said number w)
  heard_shows None number w is = plain.closes BadFrame number w is
  heard_shows (Some said) number w is =
      with_any Shows (hear_on said.0 said.1 number w) (conn_with w.conns number) w
      (λ c. follow_shows (leads c.session.state said.0 said.1).1 said.0 said.1 number c.dp (forget_lost (record w { conns = change number (with_heard said.0 said.1) w.conns }))
      (plain.hears said.0 said.1 number w is))
      is

  -- ---- a settling

  on_shows : (a : AskOn) (w : World) → Shows w → Shows (ask_on a w)
  on_shows a w is = with_any Shows (λ (c : Conn). say c.number (packet_out a.out) w) (conn_of w.conns a.dp) w (λ c. plain.says c.number (packet_out a.out) refl w is) is

  each_shows : (frames : List AskOn) (w : World) → Shows w → Shows (ask_each frames w)
  each_shows [] w is = is
  each_shows (a ∷ more) w is = each_shows more (ask_on a w) (on_shows a w is)

  due_shows : (due : Due) (w : World) → Shows w → Shows (say_due due w)
  due_shows (Ask group vid ip) w is = each_shows (asks w.conf (running w) group vid ip) w is
  due_shows (Gone group vid ip) w is = is

  taken_shows : (w : World) → Shows w → Shows (take_due w)
  taken_shows w is = plain.neighbours (take_due w).neighbours w is

  asks_show : (most : ℕ) (w : World) → Shows w → Shows (ask_due most w)
  asks_show zero w is = is
  asks_show (suc most) w is =
      with_any Shows (λ due. ask_due most (say_due due (take_due w))) (due_said w.conf w.moment.0 w.neighbours.neighbours) w
      (λ due. asks_show most (say_due due (take_due w)) (due_shows due (take_due w) (taken_shows w is))) is

  command_plain : (c : Command) → is_probe (command_message c) ≡ false
  command_plain (Add e) = refl
  command_plain (DeleteStrict key) = refl
  command_plain DeleteAll = refl

  commands_show : (number : ℕ) (commands : List Command) (w : World) → Shows w → Shows (say_each number commands w)
  commands_show number [] w is = is
  commands_show number (c ∷ more) w is = commands_show number more (say number (command_message c) w) (plain.says number (command_message c) (command_plain c) w is)

  batch_shows : (number : ℕ) (commands : List Command) (entries : List Entry) (w : World) → Shows w → Shows (say_batch number commands entries w)
  batch_shows number [] entries w is = is
  batch_shows number (c ∷ more) entries w is =
      let v : World = ask number messages.BarrierRequest (say_each number (c ∷ more) w) in
      plain.notes number entries v (plain.asks number messages.BarrierRequest refl (say_each number (c ∷ more) w) (commands_show number (c ∷ more) w is))

  batches_show : (dps : List DpId) (w : World) → Shows w → Shows (batches dps w)
  batches_show [] w is = is
  batches_show (dp ∷ dps) w is =
      batches_show dps (batch dp w)
      (with_any Shows (batch_on dp w) (conn_of w.conns dp) w
      (λ c. either Shows (is_some c.session.state.awaited) w (say_batch c.number (difference c.sent (wanted w dp)) (wanted w dp) w) is
      (batch_shows c.number (difference c.sent (wanted w dp)) (wanted w dp) w is))
      is)

  pub settled_shows : (w : World) → Shows w → Shows (settle w)
  settled_shows w is = batches_show (in_order (running (ask_all w))) (ask_all w) (asks_show (length w.neighbours.neighbours) w is)

  -- ---- a reload

  strays_show : (numbers : List ℕ) (w : World) → Shows w → Shows (close_each numbers w)
  strays_show [] w is = is
  strays_show (number ∷ numbers) w is = strays_show numbers (close_stray number w) (either Shows (is_open w.conns number) (close UnknownDp number w) w (plain.closes UnknownDp number w is) is)

  want_each_shows : (groups : List DpId) (w : World) → Shows w → Shows (want_each groups w)
  want_each_shows [] w is = is
  want_each_shows (group ∷ groups) w is = want_each_shows groups (want_in group w) (wants_show group w is)

  pub reload_shows : (read : Result Configuration (List ℕ)) (w : World) → Shows w → Shows (reload read w)
  reload_shows (Ok next) w is =
      let left : World = renew next (close_each (strays next w.conns) w) in
      want_each_shows (in_order (map (group_of left.conf) (running left))) left
      (plain.renews next (close_each (strays next w.conns) w) (strays_show (strays next w.conns) w is))
  reload_shows (Err cause) w is = plain.tells (codes "reload: " ++ cause) w is

  -- ---- the frames of a piece

  front_shows : (f : Front) (number : ℕ) (w : World) → Shows w → Shows (hear_front f number w)
  front_shows Part number w is = is
  front_shows (Frame frame) number w is = settled_shows (hear_frame (says frame) number w) (heard_shows (says frame) number w is)
  front_shows Bad number w is = settled_shows (hear_frame None number w) (heard_shows None number w is)

  pub frames_show : (most number : ℕ) (w : World) → Shows w → Shows (hear_frames most number w)
  frames_show zero number w is = is
  frames_show (suc most) number w is =
      let next : Shows (hear_next number w) = front_shows (front (unread number w)) number (read number w) (plain.reads number w is) in
      elim (has_frame number w) as (λ b. Shows (if b then hear_frames most number (hear_next number w) else hear_next number w)) [
        | true ↦ frames_show most number (hear_next number w) next
        | false ↦ next
      ]
