-- No step but that of asks makes a neighbour one that was asked as often as it may be.
use Rattle.std.proofs.Common.{◌≡◌, ℕ, zero, suc, ◌*◌, ◌==◌, ◌&&◌, Bool, true, false, cond, Option, Some, None, List, [], ◌∷◌, ◌++◌, map, filter, refl, sym, ap, ◌∙◌, arith, true≢false, if◌then◌else◌}
use Rattle.std.specs.Prelude.{Contains}
use Rattle.std.specs.Option.{option_map_or}
use Rattle.conf_types.specs.declared.address.Ip.{Ip}
use Rattle.net_base.specs.declared.address.Mac.{Mac}
use Rattle.net_base.specs.declared.numbers.DpId.{DpId}
use Rattle.net_base.specs.declared.numbers.Moment.{Moment}
use Rattle.conf_types.specs.declared.state.HostRec.{HostRec}
use Rattle.conf_types.specs.declared.state.NeighRec.{NeighRec}
use Rattle.conf_types.specs.declared.vlan.Route.{Route}
use Rattle.conf_types.specs.declared.vlan.Vlan.{Vlan}
use Rattle.conf_types.specs.Configuration.{vlan_with}
use Rattle.conf_types.specs.Groups.{group_of}
use Rattle.conf_types.specs.Links.{is_up}
use Rattle.conf_types.specs.State.{is_running}
use Rattle.flow_messages.specs.declared.messages.TheConstants.{COOKIE}
use Rattle.flow_messages.specs.Messages.{delete_all}
use Rattle.host_learn.specs.Learning.{learned}
use Rattle.law_runs.specs.Members.{tail_of}
use Rattle.neighbour_resolve.specs.declared.neighbour.Want.{Want}
use Rattle.neighbour_resolve.specs.declared.neighbour.Want.TheVariants as wants
use Rattle.neighbour_resolve.specs.Answers.{answer}
use Rattle.neighbour_resolve.specs.Counted.{counted_vid}
use Rattle.neighbour_resolve.specs.Due.{is_spent}
use Rattle.neighbour_resolve.specs.Hearing.{heard_sender}
use Rattle.neighbour_resolve.specs.Table.{Table, after_told, gives_way, neighbours_after, outcome, resolved, stays, unresolved}
use Rattle.of_match.specs.InPort.{in_port}
use Rattle.of13_codec.specs.declared.message.Message.{Message}
use Rattle.of13_codec.specs.declared.message.Message.TheVariants as messages
use Rattle.of13_codec.specs.declared.packet_in.PacketIn.{PacketIn}
use Rattle.pkt_view.specs.Frame.{FrameParts, parts}
use Rattle.switch_session.specs.declared.closing.Closing.{Closing}
use Rattle.switch_session.specs.declared.closing.Closing.TheVariants.{BadFrame}
use Rattle.ctl_world.specs.declared.conns.Conn.{Conn}
use Rattle.ctl_world.specs.Connections.{change, conn_with, put, with_asked, with_dp, with_heard, with_said, without}
use Rattle.ctl_world.specs.Ends.{close, ended, forget_lost, is_reached}
use Rattle.ctl_world.specs.Saying.{packet_out, say, say_by}
use Rattle.ctl_world.specs.World.{World, running, ups}
use Rattle.switch_session.specs.Connections.{opened}
use Rattle.ctl_life.specs.Life.{open_conn}
use Rattle.ctl_packets.specs.Packets.{destination, gateways, glean, glean_at, glean_in, glean_to, hear_neighbour, hear_sender, is_for_gateway, is_resolved, is_route_table, learn, least_time, network_vlan, outgoing, packet_at, packet_by, packet_in, packet_of_table, reply, sources, want}
use Rattle.ctl_core.specs.Hearing.{hear_frame, packet, want_gateways, want_routes}
use Rattle.ctl_core.specs.Turns.{pass}
use Rattle.ctl_core.proofs.Walk.{Setup, Steps, either, heard_kept, pass_kept, wants_by, with_any}

pub within_all : {A : Type 0} (keep : A → Bool) (xs : List A) (x : A) → Contains (filter keep xs) x → Contains xs x
within_all keep [] x here = here
within_all {A = A} keep (y ∷ ys) x here = by (keep y) (within_all keep ys x) here
  where
    by : (b : Bool) → (Contains (filter keep ys) x → Contains ys x) → Contains (cond b (y ∷ filter keep ys) (filter keep ys)) x → Contains (y ∷ ys) x
    by true more (zero, lt, is) = (zero, omega arith, is)
    by true more (suc k, lt, is) = tail_of y ys x (more (k, omega (arith, lt), is))
    by false more here = tail_of y ys x (more here)

module _ (was : List NeighRec) where
  -- those of them that are spent stood among these
  abbrev pub AreOld : List NeighRec → Type 0
  AreOld ns = (n : NeighRec) → Contains ns n → is_spent n ≡ true → Contains was n

  abbrev Kept : World → Type 0
  Kept w = AreOld w.neighbours.neighbours

  -- ---- lists

  old_filtered : (keep : NeighRec → Bool) (ns : List NeighRec) → AreOld ns → AreOld (filter keep ns)
  old_filtered keep ns old = λ n here spent. old n (within_all keep ns n here) spent

  module _ (told : NeighRec) (fresh : is_spent told ≡ false) where
    not_told : (n : NeighRec) → told ≡ n → is_spent n ≡ true → ⊥
    not_told n is spent = true≢false (sym spent ∙ sym (ap is_spent is) ∙ fresh)

    old_replaced : (gives : NeighRec → Bool) (ns : List NeighRec) (n : NeighRec) → is_spent n ≡ true → Contains (map (λ m. if gives m then told else m) ns) n → Contains ns n
    old_replaced gives [] n spent here = here
    old_replaced gives (x ∷ xs) n spent (zero, lt, is) = by (gives x) is
      where
        by : (b : Bool) → (if b then told else x) ≡ n → Contains (x ∷ xs) n
        by true e = absurd (not_told n e spent)
        by false e = (zero, omega arith, e)
    old_replaced gives (x ∷ xs) n spent (suc k, lt, is) = tail_of x xs n (old_replaced gives xs n spent (k, omega (arith, lt), is))

    old_added : (ns : List NeighRec) (n : NeighRec) → is_spent n ≡ true → Contains (ns ++ told ∷ []) n → Contains ns n
    old_added [] n spent (zero, lt, is) = absurd (not_told n is spent)
    old_added [] n spent (suc k, lt, is) = absurd (omega (arith, lt))
    old_added (x ∷ xs) n spent (zero, lt, is) = (zero, omega arith, is)
    old_added (x ∷ xs) n spent (suc k, lt, is) = tail_of x xs n (old_added xs n spent (k, omega (arith, lt), is))

    old_after : (keeps : NeighRec → Bool) (ns : List NeighRec) (o : Want) → AreOld ns → AreOld (neighbours_after keeps told ns o)
    old_after keeps ns wants.Known old = λ n here spent. old n (old_replaced (gives_way keeps told) ns n spent here) spent
    old_after keeps ns wants.Full old = old
    old_after keeps ns wants.Added old = λ n here spent. old n (old_added ns n spent here) spent

    old_told : (keeps : NeighRec → Bool) (table : Table) → AreOld table.neighbours → AreOld (after_told keeps told table).neighbours
    old_told keeps table old = old_after keeps table.neighbours (outcome table told) old

  -- ---- gateways are wanted

  old_routes : (group : DpId) (vid : ℕ) (rs : List Route) (moment : Moment) (table : Table) → AreOld table.neighbours → AreOld (want_routes group vid rs moment table).neighbours
  old_routes group vid [] moment table old = old
  old_routes group vid (r ∷ rs) moment table old =
      old_routes group vid rs moment (after_told (stays true) (unresolved group vid r.gw moment) table) (old_told (unresolved group vid r.gw moment) refl (stays true) table old)

  old_gateways : (group : DpId) (vs : List Vlan) (moment : Moment) (table : Table) → AreOld table.neighbours → AreOld (want_gateways group vs moment table).neighbours
  old_gateways group [] moment table old = old
  old_gateways group (v ∷ vs) moment table old = old_gateways group vs moment (want_routes group v.vid v.routes moment table) (old_routes group v.vid v.routes moment table old)

  -- ---- the elementary steps

  says : (f : Conn → Conn) (number : ℕ) (m : Message) (w : World) → Kept w → Kept (option_map_or (say_by f m w) (conn_with w.conns number) w)
  says f number m w old = with_any Kept (say_by f m w) (conn_with w.conns number) w (λ c. old) old

  forgets : (w : World) → Kept w → Kept (forget_lost w)
  forgets w old = old_filtered (is_reached w.conf (running w)) w.neighbours.neighbours old

  pub single : Steps Kept
  single = record {
    sends = λ number out w old. says with_said number (packet_out out) w old;
    asks_echo = λ number w old. says with_said number (messages.EchoRequest []) w old;
    closes = λ cause number w at old. forgets (record w { conns = without number w.conns }) old;
    looks = λ number w old. old;
    shows = λ moment w old. old;
    ages = λ w old. old;
    wants = λ group w old. wants_by Kept group w (old_gateways group w.conf.vlans w.moment w.neighbours old) old;
    tells = λ text w old. old;
  }

  setup : Setup Kept
  setup = record {
    hears = λ m xid number w old. forgets (record w { conns = change number (with_heard m xid) w.conns }) old;
    features = λ number w old. says with_said number messages.FeaturesRequest w old;
    takes = λ number dp w old. forgets (record w { conns = change number (with_dp dp) w.conns }) old;
    ports = λ number w old. says with_asked number messages.PortDescRequest w old;
    wipes = λ number w old. says with_asked number messages.BarrierRequest (say number delete_all w) (says with_said number delete_all w old);
    answers = λ number payload xid w at old. old;
    refuses = λ number xid w at old. old;
  }

  -- ---- packets

  glean_in_old : (group : DpId) (ip : Ip) (w : World) (vid : ℕ) → Kept w → Kept (glean_in group ip w vid)
  glean_in_old group ip w vid old =
      either Kept (is_resolved w.neighbours.neighbours group vid ip) w (want group vid ip w) old (old_told (unresolved group vid ip w.moment) refl (stays true) w.neighbours old)

  glean_to_old : (group : DpId) (vid : ℕ) (ip : Ip) (w : World) → Kept w → Kept (glean_to group vid ip w)
  glean_to_old group vid ip w old = with_any Kept (glean_in group ip w) (network_vlan w.conf vid ip) w (λ v. glean_in_old group ip w v old) old

  glean_at_old : (dp : DpId) (frame : FrameParts) (w : World) (v : Vlan) → Kept w → Kept (glean_at dp frame w v)
  glean_at_old dp frame w v old =
      let to : Ip → World = λ ip. glean_to (group_of w.conf dp) v.vid ip w in
      either Kept (is_for_gateway v frame) (option_map_or to (destination frame.upper) w) w
      (with_any Kept to (destination frame.upper) w (λ ip. glean_to_old (group_of w.conf dp) v.vid ip w old) old) old

  glean_old : (dp : DpId) (vid : ℕ) (frame : FrameParts) (w : World) → Kept w → Kept (glean dp vid frame w)
  glean_old dp vid frame w old = with_any Kept (glean_at dp frame w) (vlan_with w.conf.vlans vid) w (λ v. glean_at_old dp frame w v old) old

  hear_old : (dp : DpId) (vid : ℕ) (frame : FrameParts) (w : World) → Kept w → Kept (hear_neighbour dp vid frame w)
  hear_old dp vid frame w old =
      with_any Kept (hear_sender dp vid w) (heard_sender w.conf vid frame) w
      (λ s. old_told (resolved (group_of w.conf dp) vid s.ip s.mac (least_time w.conf (group_of w.conf dp) w.conf.dps * 1000) w.moment) refl (stays false) w.neighbours old) old

  learn_old : (dp : DpId) (port vid : ℕ) (mac : Mac) (w : World) → Kept w → Kept (learn dp port vid mac w)
  learn_old dp port vid mac w old =
      let heard : HostRec = record { dp = dp; port = port; vid = vid; mac = mac; learned = w.moment } in
      either Kept (is_up (ups w) dp port) (record w { hosts = learned w.conf w.hosts heard }) w old old

  reply_old : (number : ℕ) (dp : DpId) (port vid : ℕ) (frame : FrameParts) (w : World) → Kept w → Kept (reply number dp port vid frame w)
  reply_old number dp port vid frame w old =
      with_any Kept (λ out. say number (packet_out out) w) (outgoing w.conf dp port vid (answer w.conf dp port frame)) w (λ out. says with_said number (packet_out out) w old) old

  table_old : (table number : ℕ) (dp : DpId) (port vid : ℕ) (frame : FrameParts) (w : World) → Kept w → Kept (packet_of_table table number dp port vid frame w)
  table_old table number dp port vid frame w old =
      let learned : World = learn dp port vid frame.src w in
      let gleaned : World = glean dp vid frame w in
      let answered : World = reply number dp port vid frame (hear_neighbour dp vid frame w) in
      either Kept (table == sources) learned (if is_route_table table frame.upper then gleaned else if table == gateways then answered else w) (learn_old dp port vid frame.src w old)
      (either Kept (is_route_table table frame.upper) gleaned (if table == gateways then answered else w) (glean_old dp vid frame w old)
      (either Kept (table == gateways) answered w (reply_old number dp port vid frame (hear_neighbour dp vid frame w) (hear_old dp vid frame w old)) old))

  at_old : (m : PacketIn) (number : ℕ) (dp : DpId) (w : World) (port : ℕ) (frame : FrameParts) → Kept w → Kept (packet_at m number dp w port frame)
  at_old m number dp w port frame old =
      with_any Kept (λ vid. packet_of_table m.table number dp port vid frame w) (counted_vid w.conf dp port frame) w (λ vid. table_old m.table number dp port vid frame w old) old

  by_old : (m : PacketIn) (number : ℕ) (dp : DpId) (w : World) (port : ℕ) → Kept w → Kept (packet_by m number dp w port)
  by_old m number dp w port old = with_any Kept (packet_at m number dp w port) (parts m.payload) w (λ frame. at_old m number dp w port frame old) old

  packet_in_old : (m : PacketIn) (number : ℕ) (dp : DpId) (w : World) → Kept w → Kept (packet_in m number dp w)
  packet_in_old m number dp w old =
      either Kept (m.cookie == COOKIE && is_running (running w) dp) (option_map_or (packet_by m number dp w) (in_port m.fields) w) w
      (with_any Kept (packet_by m number dp w) (in_port m.fields) w (λ port. by_old m number dp w port old) old) old

  packets : (m : Message) (number : ℕ) (dp : Option DpId) (w : World) → Kept w → Kept (packet m number dp w)
  packets (messages.PacketIn m) number (Some dp) w old = packet_in_old m number dp w old
  packets m number dp w old = old

-- ---- the steps of a turn

module _ (w : World) where
  abbrev pub ns : List NeighRec
  ns = w.neighbours.neighbours

  pub nothing_new : AreOld ns ns
  nothing_new = λ n here spent. here

  pub old_closed : (cause : Closing) (number : ℕ) → AreOld ns (close cause number w).neighbours.neighbours
  old_closed cause number = forgets ns (record w { conns = without number w.conns }) nothing_new

  pub old_heard : (said : Option (Message × ℕ)) (number : ℕ) → AreOld ns (hear_frame said number w).neighbours.neighbours
  old_heard said number =
      heard_kept (λ (v : World). AreOld ns v.neighbours.neighbours) (single ns) (setup ns) said (λ s is n dp v old. packets ns s.0 n dp v old) number w (old_closed BadFrame number) nothing_new

  pub old_ended : (cause : Closing) (number : ℕ) → AreOld ns (ended cause number w).neighbours.neighbours
  old_ended cause number = forgets ns (record w { conns = without number w.conns }) nothing_new

  pub old_opened : (number : ℕ) → AreOld ns (open_conn number w).neighbours.neighbours
  old_opened number =
      says ns with_said number (messages.Hello 4 (Some 16)) (record w { conns = put (record { number = number; session = opened w.moment; dp = None; sent = [] }) w.conns }) nothing_new

  pub old_passed : (moment : ℕ) → AreOld ns (pass moment w).neighbours.neighbours
  old_passed moment = pass_kept (λ (v : World). AreOld ns v.neighbours.neighbours) (single ns) moment w nothing_new
