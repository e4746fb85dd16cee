-- When a frame is heard its answer is sent where one is due, and no other frame.
use Rattle.std.proofs.Common.{◌≡◌, ℕ, ◌==◌, ◌&&◌, Bool, true, false, Option, Some, None, List, [], ◌∷◌, ◌++◌, inl, inr, refl, sym, ap, ◌∙◌, subst, append-nil, if◌then◌else◌}
use Rattle.std.specs.Option.{option_map_or}
use Rattle.std.proofs.lemmas.Bool.{cases_Bool, eqb-true, false≢true}
use Rattle.net_base.specs.declared.numbers.DpId.{DpId}
use Rattle.of_match.specs.InPort.{in_port}
use Rattle.conf_types.specs.declared.state.HostRec.{HostRec}
use Rattle.conf_types.specs.Groups.{group_of}
use Rattle.conf_types.specs.Links.{is_up}
use Rattle.conf_types.specs.State.{is_running}
use Rattle.host_learn.specs.Learning.{learned}
use Rattle.of13_codec.specs.declared.message.Message.{Message}
use Rattle.of13_codec.specs.declared.message.Message.TheVariants as messages
use Rattle.of13_codec.specs.declared.packet_in.PacketIn.{PacketIn}
use Rattle.flow_messages.specs.declared.messages.TheConstants.{COOKIE}
use Rattle.flow_messages.specs.Messages.{delete_all}
use Rattle.pkt_view.specs.Frame.{FrameParts, UpperParts, Unknown, Arp, V4, V6, parts}
use Rattle.neighbour_resolve.specs.Answers.{answer}
use Rattle.neighbour_resolve.specs.Counted.{counted_vid}
use Rattle.neighbour_resolve.specs.Hearing.{heard_sender}
use Rattle.switch_session.specs.declared.closing.Closing.{Closing}
use Rattle.switch_session.specs.declared.closing.Closing.TheVariants.{BadFrame, Replaced, WrongVersion}
use Rattle.switch_session.specs.declared.state.Stage.{Stage}
use Rattle.switch_session.specs.declared.state.Step.{Step}
use Rattle.switch_session.specs.declared.state.Step.TheVariants as steps
use Rattle.switch_session.specs.Stages.{leads}
use Rattle.ctl_world.specs.declared.conns.Conn.{Conn}
use Rattle.ctl_world.specs.declared.said.Said.TheVariants as told
use Rattle.ctl_world.specs.Connections.{change, conn_of, conn_with, with_dp, with_heard}
use Rattle.ctl_world.specs.Ends.{close, end_line, forget_lost}
use Rattle.ctl_world.specs.Saying.{packet_out, repeat, say}
use Rattle.ctl_world.specs.World.{IsSound, World, running, runs, ups}
use Rattle.ctl_world.proofs.SoundEnds.{nothing_lost}
use Rattle.ctl_life.specs.Life.{echo, replace, take_dp, turn_away}
use Rattle.ctl_world.proofs.Numbered.{has_it}
use Rattle.ctl_packets.specs.Packets.{gateways, glean, hear_neighbour, hear_sender, is_route_table, learn, outgoing, packet_at, packet_by, packet_in, packet_of_table, reply, sources}
use Rattle.ctl_core.specs.Hearing.{begin, follow, hear_frame, hear_on, introduce, packet, unfit, wipe}
use Rattle.ctl_core.proofs.Stays as stays
use Rattle.ctl_core.proofs.Walk.{either, wants_by, with_any}
use Rattle.law_lives.proofs.Behind.{Behind, packet_led, step_led}
use Rattle.ctl_packets.proofs.Keeping.{glean_kept}
use Rattle.law_lives.specs.Outs.{Out, answers, answers_at, answers_by, answers_in, answers_on, outs, sends}
use Rattle.law_lives.proofs.Outs.{asked_outs, no_outs, one_outs, said_outs, sent_outs}

-- a table of routes isn't that of gateways
routes_apart : (table : ℕ) (upper : UpperParts) → is_route_table table upper ≡ true → (table == gateways) ≡ false
routes_apart table Unknown is = absurd (false≢true is)
routes_apart table (Arp op sha spa tha tpa) is = absurd (false≢true is)
routes_apart table (V4 header body) is = ap (λ (t : ℕ). t == gateways) (eqb-true table _ is)
routes_apart table (V6 header body) is = ap (λ (t : ℕ). t == gateways) (eqb-true table _ is)

-- ---- where no packet counts

pub close_outs : (cause : Closing) (number : ℕ) (w : World) → outs (close cause number w).said ≡ outs w.said
close_outs cause number w = no_outs w.said (told.Closing number cause ∷ end_line number cause ∷ []) refl

replace_outs : (dp : DpId) (w : World) → outs (replace dp w).said ≡ outs w.said
replace_outs dp w = with_any (λ (v : World). outs v.said ≡ outs w.said) (λ (c : Conn). close Replaced c.number w) (conn_of w.conns dp) w (λ c. close_outs Replaced c.number w) refl

introduce_outs : (number : ℕ) (dp : DpId) (cause : Option Closing) (w : World) → outs (introduce number dp cause w).said ≡ outs w.said
introduce_outs number dp (Some cause) w = close_outs cause number w
introduce_outs number dp None w = asked_outs number messages.PortDescRequest (take_dp number dp (replace dp w)) (λ n. refl) ∙ replace_outs dp w

echo_outs : (m : Message) (number xid : ℕ) (w : World) → outs (echo m number xid w).said ≡ outs w.said
echo_outs (messages.EchoRequest payload) number xid w = one_outs w.said number (messages.EchoReply payload) xid refl
echo_outs m number xid w = refl

turn_away_outs : (cause : Closing) (number xid : ℕ) (w : World) → outs (turn_away cause number xid w).said ≡ outs w.said
turn_away_outs WrongVersion number xid w = close_outs WrongVersion number (repeat number (messages.Error 0 0 []) xid w) ∙ one_outs w.said number (messages.Error 0 0 []) xid refl
turn_away_outs cause number xid w = close_outs cause number w

begin_outs : (dp : Option DpId) (w : World) → outs (begin dp w).said ≡ outs w.said
begin_outs None w = refl
begin_outs (Some dp) w = wants_by (λ (v : World). outs v.said ≡ outs w.said) (group_of w.conf dp) w refl refl

follow_outs : (step : Step) (m : Message) (xid number : ℕ) (dp : Option DpId) (w : World) → (step ≡ steps.Packet → ⊥) → outs (follow step m xid number dp w).said ≡ outs w.said
follow_outs steps.Nothing m xid number dp w other = refl
follow_outs steps.AskFeatures m xid number dp w other = said_outs number messages.FeaturesRequest w (λ n. refl)
follow_outs (steps.Features id n_tables auxiliary) m xid number dp w other = introduce_outs number id (unfit w.conf id n_tables auxiliary) w
follow_outs steps.PortsKnown m xid number dp w other = asked_outs number messages.BarrierRequest (say number delete_all w) (λ n. refl) ∙ said_outs number delete_all w (λ n. refl)
follow_outs steps.Wiped m xid number dp w other = begin_outs dp w
follow_outs steps.Settled m xid number dp w other = refl
follow_outs (steps.PortChanged port) m xid number dp w other = refl
follow_outs steps.Packet m xid number dp w other = absurd (other refl)
follow_outs steps.Echo m xid number dp w other = echo_outs m number xid w
follow_outs (steps.Close cause) m xid number dp w other = turn_away_outs cause number xid w

-- ---- a packet

module _ (m : PacketIn) (number : ℕ) (dp : DpId) (w : World) (c : Conn) (at : conn_with w.conns number ≡ Some c) where
  abbrev Same : World → Type 0
  Same v = outs v.said ≡ outs w.said

  glean_outs : (vid : ℕ) (frame : FrameParts) → Same (glean dp vid frame w)
  glean_outs vid frame = glean_kept Same (λ neighbours v same. same) dp vid frame w refl

  learn_outs : (port vid : ℕ) (frame : FrameParts) → Same (learn dp port vid frame.src w)
  learn_outs port vid frame =
      let l : HostRec = record { dp = dp; port = port; vid = vid; mac = frame.src; learned = w.moment } in
      either Same (is_up (ups w) dp port) (record w { hosts = learned w.conf w.hosts l }) w refl refl

  abbrev replies : (port vid : ℕ) → FrameParts → List Out
  replies port vid frame = option_map_or (λ out. sends number out ∷ []) (outgoing w.conf dp port vid (answer w.conf dp port frame)) []

  reply_outs : (port vid : ℕ) (frame : FrameParts) → outs (reply number dp port vid frame (hear_neighbour dp vid frame w)).said ≡ outs w.said ++ replies port vid frame
  reply_outs port vid frame =
      elim (heard_sender w.conf vid frame) as (λ o. outs (reply number dp port vid frame (option_map_or (hear_sender dp vid w) o w)).said ≡ outs w.said ++ replies port vid frame) [
        | None ↦ elim (outgoing w.conf dp port vid (answer w.conf dp port frame)) as
            (λ o. outs (option_map_or (λ out. say number (packet_out out) w) o w).said ≡ outs w.said ++ option_map_or (λ out. sends number out ∷ []) o []) [
              | None ↦ sym (append-nil (outs w.said))
              | Some out ↦ sent_outs number out w c at (has_it number w.conns c at)
            ]
        | Some s ↦ elim (outgoing w.conf dp port vid (answer w.conf dp port frame)) as
            (λ o. outs (option_map_or (λ out. say number (packet_out out) (hear_sender dp vid w s)) o (hear_sender dp vid w s)).said ≡ outs w.said ++ option_map_or (λ out. sends number out ∷ []) o []) [
              | None ↦ sym (append-nil (outs w.said))
              | Some out ↦ sent_outs number out (hear_sender dp vid w s) c at (has_it number w.conns c at)
            ]
      ]

  abbrev picked : Bool → List Out → List Out
  picked b more = if b then more else []

  abbrev if_gateways : List Out → List Out
  if_gateways more = picked (m.table == gateways) more

  none_more : if_gateways [] ≡ []
  none_more = elim (m.table == gateways) as (λ (b : Bool). picked b [] ≡ []) [ true ↦ refl | false ↦ refl ]

  nothing : (v : World) → Same v → outs v.said ≡ outs w.said ++ if_gateways []
  nothing v same = same ∙ sym (ap (λ (rest : List Out). outs w.said ++ rest) none_more ∙ append-nil (outs w.said))

  -- from another table none
  elsewhere : (v : World) → Same v → (table : ℕ) → m.table ≡ table → (table == gateways) ≡ false → (more : List Out) → outs v.said ≡ outs w.said ++ if_gateways more
  elsewhere v same table is off more =
      same ∙ sym (ap (λ (b : Bool). outs w.said ++ (if b then more else [])) (ap (λ (t : ℕ). t == gateways) is ∙ off) ∙ append-nil (outs w.said))

  table_outs : (port vid : ℕ) (frame : FrameParts) → outs (packet_of_table m.table number dp port vid frame w).said ≡ outs w.said ++ if_gateways (replies port vid frame)
  table_outs port vid frame =
      elim (cases_Bool (m.table == sources)) [
        | inl is ↦
            ap (λ (b : Bool). outs (if b then learn dp port vid frame.src w else rest).said) is
            ∙ elsewhere (learn dp port vid frame.src w) (learn_outs port vid frame) sources (eqb-true m.table sources is) refl (replies port vid frame)
        | inr other ↦ ap (λ (b : Bool). outs (if b then learn dp port vid frame.src w else rest).said) other ∙ elim (cases_Bool (is_route_table m.table frame.upper)) [
          | inl is ↦
              ap (λ (b : Bool). outs (if b then glean dp vid frame w else last).said) is
              ∙ elsewhere (glean dp vid frame w) (glean_outs vid frame) m.table refl (routes_apart m.table frame.upper is) (replies port vid frame)
          | inr off ↦ ap (λ (b : Bool). outs (if b then glean dp vid frame w else last).said) off
              ∙ elim (m.table == gateways) as (λ (b : Bool). outs (if b then reply number dp port vid frame (hear_neighbour dp vid frame w) else w).said ≡ outs w.said ++ (if b then replies port vid frame else [])) [
                | true ↦ reply_outs port vid frame
                | false ↦ sym (append-nil (outs w.said))
              ]
        ]
      ]
    where
      last : World
      last = if m.table == gateways then reply number dp port vid frame (hear_neighbour dp vid frame w) else w

      rest : World
      rest = if is_route_table m.table frame.upper then glean dp vid frame w else last

  vid_outs : (port : ℕ) (frame : FrameParts) (o : Option ℕ)
      → outs (option_map_or (λ vid. packet_of_table m.table number dp port vid frame w) o w).said ≡ outs w.said ++ if_gateways (option_map_or (λ vid. replies port vid frame) o [])
  vid_outs port frame None = nothing w refl
  vid_outs port frame (Some vid) = table_outs port vid frame

  parts_outs : (port : ℕ) (o : Option FrameParts) → outs (option_map_or (packet_at m number dp w port) o w).said ≡ outs w.said ++ if_gateways (option_map_or (answers_at dp number w port) o [])
  parts_outs port None = nothing w refl
  parts_outs port (Some frame) = vid_outs port frame (counted_vid w.conf dp port frame)

  port_outs : (o : Option ℕ) → outs (option_map_or (packet_by m number dp w) o w).said ≡ outs w.said ++ if_gateways (option_map_or (answers_by m dp number w) o [])
  port_outs None = nothing w refl
  port_outs (Some port) = parts_outs port (parts m.payload)

  pub packet_outs : outs (packet_in m number dp w).said ≡ outs w.said ++ answers_in m dp number w
  packet_outs =
      elim (m.cookie == COOKIE && is_running (running w) dp) as
      (λ a. outs (if a then option_map_or (packet_by m number dp w) (in_port m.fields) w else w).said
      ≡ outs w.said ++ (if a && m.table == gateways then option_map_or (answers_by m dp number w) (in_port m.fields) [] else [])) [
        | true ↦ port_outs (in_port m.fields)
        | false ↦ sym (append-nil (outs w.said))
      ]

-- ---- a frame

module _ (w : World) (sound : IsSound w) (on : ℕ) where
  module _ (m : Message) (xid : ℕ) (c : Conn) (at : conn_with w.conns on ≡ Some c) where
    none_due : ((leads c.session.state m xid).1 ≡ steps.Packet → ⊥) → answers_on m on w c ≡ []
    none_due other = by m refl
      where
        of_packet : (p : PacketIn) → m ≡ messages.PacketIn p → (b : Bool) → runs c.session.state.stage ≡ b → (if b then option_map_or (λ dp. answers_in p dp on w) c.dp [] else []) ≡ []
        of_packet p is false stage = refl
        of_packet p is true stage = absurd (other (ap (λ (k : Message). (leads c.session.state k xid).1) is ∙ packet_led c.session.state p xid stage))

        by : (k : Message) → m ≡ k → answers_on k on w c ≡ []
        by (messages.PacketIn p) is = of_packet p is (runs c.session.state.stage) refl
        by k is = refl

    other_answers : ((leads c.session.state m xid).1 ≡ steps.Packet → ⊥) → outs (hear_on m xid on w c).said ≡ outs w.said ++ answers_on m on w c
    other_answers other =
        follow_outs (leads c.session.state m xid).1 m xid on c.dp (forget_lost (record w { conns = change on (with_heard m xid) w.conns })) other
        ∙ sym (ap (λ (rest : List Out). outs w.said ++ rest) (none_due other) ∙ append-nil (outs w.said))

    packet_answers : (p : PacketIn) → m ≡ messages.PacketIn p → runs c.session.state.stage ≡ true → (leads c.session.state m xid).0 ≡ c.session.state → (leads c.session.state m xid).1 ≡ steps.Packet
        → outs (hear_on m xid on w c).said ≡ outs w.said ++ answers_on m on w c
    packet_answers p is stage same step =
        let left : forget_lost (record w { conns = change on (with_heard m xid) w.conns }) ≡ w =
        stays.nothing_lost m xid on w c at same (nothing_lost w sound) ∙ stays.world_stays m xid on w c at same in
        (λ i. outs (follow (step i) m xid on c.dp (left i)).said) ∙ ap (λ (k : Message). outs (packet k on c.dp w).said) is
        ∙ by_dp c.dp
        ∙ sym (ap (λ (k : Message). outs w.said ++ answers_on k on w c) is ∙ ap (λ (b : Bool). outs w.said ++ (if b then option_map_or (λ dp. answers_in p dp on w) c.dp [] else [])) stage)
      where
        by_dp : (o : Option DpId) → outs (packet (messages.PacketIn p) on o w).said ≡ outs w.said ++ option_map_or (λ dp. answers_in p dp on w) o []
        by_dp None = sym (append-nil (outs w.said))
        by_dp (Some dp) = packet_outs p on dp w c at

    heard_answers : outs (hear_on m xid on w c).said ≡ outs w.said ++ answers_on m on w c
    heard_answers = by (leads c.session.state m xid).1 refl
      where
        by : (step : Step) → (leads c.session.state m xid).1 ≡ step → outs (hear_on m xid on w c).said ≡ outs w.said ++ answers_on m on w c
        by steps.Packet is =
            let led = subst (λ (step : Step). Behind c.session.state m (leads c.session.state m xid).0 step) is (step_led c.session.state m xid) in
            packet_answers led.0 led.1 (ap (λ (stage : Stage). runs stage) led.2) led.3 is
        by steps.Nothing is = other_answers (λ packet. let e : steps.Nothing ≡ steps.Packet = sym is ∙ packet in cc)
        by steps.AskFeatures is = other_answers (λ packet. let e : steps.AskFeatures ≡ steps.Packet = sym is ∙ packet in cc)
        by (steps.Features id n_tables auxiliary) is = other_answers (λ packet. let e : steps.Features id n_tables auxiliary ≡ steps.Packet = sym is ∙ packet in cc)
        by steps.PortsKnown is = other_answers (λ packet. let e : steps.PortsKnown ≡ steps.Packet = sym is ∙ packet in cc)
        by steps.Wiped is = other_answers (λ packet. let e : steps.Wiped ≡ steps.Packet = sym is ∙ packet in cc)
        by steps.Settled is = other_answers (λ packet. let e : steps.Settled ≡ steps.Packet = sym is ∙ packet in cc)
        by (steps.PortChanged port) is = other_answers (λ packet. let e : steps.PortChanged port ≡ steps.Packet = sym is ∙ packet in cc)
        by steps.Echo is = other_answers (λ packet. let e : steps.Echo ≡ steps.Packet = sym is ∙ packet in cc)
        by (steps.Close cause) is = other_answers (λ packet. let e : steps.Close cause ≡ steps.Packet = sym is ∙ packet in cc)

  pub frame_answers : (heard : Option (Message × ℕ)) → outs (hear_frame heard on w).said ≡ outs w.said ++ answers heard on w
  frame_answers None = close_outs BadFrame on w ∙ sym (append-nil (outs w.said))
  frame_answers (Some s) = by (conn_with w.conns on) refl
    where
      by : (o : Option Conn) → conn_with w.conns on ≡ o → outs (option_map_or (hear_on s.0 s.1 on w) o w).said ≡ outs w.said ++ option_map_or (answers_on s.0 on w) o []
      by None at = sym (append-nil (outs w.said))
      by (Some c) at = heard_answers s.0 s.1 c at
