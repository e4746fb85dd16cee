-- What each single step of a turn keeps, the turn keeps. Connections are closed for these causes alone, and no line is said but that
-- of a closing.
use Rattle.std.proofs.Common.{◌≡◌, ℕ, zero, suc, true, false, Bool, Option, Some, None, List, [], ◌∷◌, length, map, refl, ap, ◌∙◌, sym, subst, if◌then◌else◌}
use Rattle.std.specs.Option.{option_map, option_map_or}
use Rattle.net_base.specs.declared.numbers.DpId.{DpId}
use Rattle.conf_types.specs.Configuration.{Configuration}
use Rattle.conf_types.specs.Groups.{group_of}
use Rattle.host_learn.specs.Table.{Table as Hosts}
use Rattle.of13_codec.specs.declared.features.FeaturesReply.{FeaturesReply}
use Rattle.of13_codec.specs.declared.message.Message.{Message}
use Rattle.of13_codec.specs.declared.message.Message.TheVariants as messages
use Rattle.flow_messages.specs.Messages.{delete_all}
use Rattle.neighbour_resolve.specs.Asks.{in_order}
use Rattle.neighbour_resolve.specs.Table.{Table as Neighbours}
use Rattle.switch_session.specs.declared.closing.Closing.{Closing}
use Rattle.switch_session.specs.declared.closing.Closing.TheVariants.{BadFrame, Replaced, Silent, UnknownDp, WrongVersion}
use Rattle.switch_session.specs.declared.state.Step.{Step}
use Rattle.switch_session.specs.declared.state.Step.TheVariants as steps
use Rattle.switch_session.specs.Stages.{leads}
use Rattle.ctl_world.specs.declared.conns.Conn.{Conn}
use Rattle.ctl_world.specs.declared.frames.Front.{Front}
use Rattle.ctl_world.specs.declared.frames.Front.TheVariants.{Part, Frame, Bad}
use Rattle.ctl_world.specs.declared.said.Said.TheVariants as told
use Rattle.ctl_world.specs.Connections.{change, conn_of, conn_with, is_of, is_open, with_dp, with_heard}
use Rattle.ctl_world.specs.Ends.{close, forget_lost}
use Rattle.ctl_world.specs.Frames.{front, with_read}
use Rattle.ctl_world.specs.Saying.{add_said, ask, packet_out, repeat, say}
use Rattle.ctl_world.specs.World.{World, running}
use Rattle.ctl_core.specs.Settlings.{settle}
use Rattle.ctl_life.specs.Life.{echo, feed, has_frame, read, replace, says, take_dp, turn_away, unread}
use Rattle.ctl_life.specs.Silence.{look, look_each, show}
use Rattle.ctl_life.proofs.Openings.{change_open, found_open, front_open}
use Rattle.ctl_core.specs.Hearing.{begin, follow, hear_frame, hear_frames, hear_front, hear_message, hear_next, hear_on, introduce, packet, unfit, want_gateways, want_in, wipe}
use Rattle.ctl_core.specs.Reloading.{close_each, want_all, want_each}
use Rattle.ctl_core.specs.Turns.{age, hear, pass}
use Rattle.ctl_core.proofs.Walk.{wants_by}
use Rattle.law_lives.specs.Causes.{GivesWayTo, IsOfFrame}
use Rattle.law_lives.proofs.Leads.{OfStep, step_of}
use Rattle.law_lives.proofs.Numbers.{dp_on}
use Rattle.law_lives.proofs.Packets.{packet_kept}
use Rattle.law_lives.proofs.Speaking as speaking
use Rattle.law_lives.proofs.Speaking.{Speaks}

-- what a change leaves
pub record IsStill (f : Conn → Conn) : Type 0 where
  pub number : (c : Conn) → (f c).number ≡ c.number
  pub heard : (c : Conn) → (f c).session.heard ≡ c.session.heard

-- no line is said but with a closing, and what is known of hosts and neighbours may be anything
pub record Steps (C : ℕ → Closing → Type 0) (K : World → Type 0) : Type 0 where
  pub changes : (f : Conn → Conn) → IsStill f → (number : ℕ) (w : World) → K w → K (record w { conns = change number f w.conns })
  pub says : (number : ℕ) (m : Message) (xid : ℕ) (w : World) → is_open w.conns number ≡ true → K w → K (add_said (told.Message number m xid ∷ []) w)
  pub closes : (cause : Closing) (number : ℕ) (w : World) → C number cause → is_open w.conns number ≡ true → K w → K (close cause number w)
  pub knows : (hosts : Hosts) (neighbours : Neighbours) (w : World) → K w → K (record w { hosts = hosts; neighbours = neighbours })

still : {f : Conn → Conn} → ((c : Conn) → (f c).number ≡ c.number) → ((c : Conn) → (f c).session.heard ≡ c.session.heard) → IsStill f
still number heard = record { number = number; heard = heard }

module _ (C : ℕ → Closing → Type 0) (K : World → Type 0) (single : Steps C K) where
  speaks : Speaks K
  speaks = record {
    changes = λ f is number w stays. single.changes f (record { number = is.number; heard = is.heard }) number w stays;
    says = single.says;
    meets = λ neighbours w stays. single.knows w.hosts neighbours w stays;
  }

  changed : (f : Conn → Conn) → IsStill f → (number : ℕ) (w : World) → K w → K (record w { conns = change number f w.conns })
  changed f is number w stays = single.changes f is number w stays

  known : (hosts : Hosts) (neighbours : Neighbours) (w : World) → K w → K (record w { hosts = hosts; neighbours = neighbours })
  known hosts neighbours w stays = single.knows hosts neighbours w stays

  pub said_stays : (number : ℕ) (m : Message) (w : World) → K w → K (say number m w)
  said_stays number m w stays = speaking.said_stays K speaks number m w stays

  asked_stays : (number : ℕ) (m : Message) (w : World) → K w → K (ask number m w)
  asked_stays number m w stays = speaking.asked_stays K speaks number m w stays

  repeated_stays : (number : ℕ) (m : Message) (xid : ℕ) (w : World) → is_open w.conns number ≡ true → K w → K (repeat number m xid w)
  repeated_stays number m xid w at stays = single.says number m xid w at stays

  pub close_stays : (cause : Closing) (number : ℕ) (w : World) → C number cause → is_open w.conns number ≡ true → K w → K (close cause number w)
  close_stays cause number w cause_is at stays = single.closes cause number w cause_is at stays

  pub settle_stays : (w : World) → K w → K (settle w)
  settle_stays w stays = speaking.settle_stays K speaks w stays

  -- ---- the clock

  pub look_stays : (number : ℕ) (w : World) → C number Silent → K w → K (look number w)
  look_stays number w silent stays = speaking.look_stays K speaks C single.closes number w silent stays

  -- where the clock shows it, the connections are looked after, and the hosts age
  pub pass_stays : ((number : ℕ) → C number Silent) → (moment : ℕ) (w : World) → K (show moment w) → K (pass moment w)
  pass_stays silent moment w stays =
      let v : World = look_each (map (λ (c : Conn). c.number) w.conns) (show moment w) in
      known (age v).hosts v.neighbours v (speaking.looks_stay K speaks C single.closes silent (map (λ (c : Conn). c.number) w.conns) (show moment w) stays)

  -- ---- a reload that is accepted

  pub wanted_stays : (w : World) → K w → K (want_all w)
  wanted_stays w stays = speaking.wanted_stays K speaks w stays

  pub strays_stay : ((number : ℕ) → C number UnknownDp) → (numbers : List ℕ) (w : World) → K w → K (close_each numbers w)
  strays_stay gone numbers w stays = speaking.strays_stay K speaks C single.closes gone numbers w stays

  -- ---- what a frame says

  pub read_stays : (number : ℕ) (w : World) → K w → K (read number w)
  read_stays number w stays = changed with_read (still (λ c. refl) (λ c. refl)) number w stays

  module _ (w : World) (heard : Option (Message × ℕ)) (on : ℕ) (own : (cause : Closing) → IsOfFrame w.conf heard cause → C on cause)
      (others : (number : ℕ) → GivesWayTo w heard number → C number Replaced) (at : is_open w.conns on ≡ true) where
    -- the switch says what it is: by its message, where its connection is changed so
    module _ (f : Conn → Conn) (number_same : (c : Conn) → (f c).number ≡ c.number) (dp_same : (c : Conn) → (f c).dp ≡ c.dp) (reply : FeaturesReply) (xid : ℕ)
        (is_reply : heard ≡ Some (messages.FeaturesReply reply, xid)) where
      abbrev turned : World
      turned = forget_lost (record w { conns = change on f w.conns })

      abbrev why : Option Closing
      why = unfit w.conf reply.dp reply.n_tables reply.auxiliary

      replaced_stays : why ≡ None → K turned → K (replace reply.dp turned)
      replaced_stays fits stays = by (conn_of turned.conns reply.dp) refl
        where
          gives : (c : Conn) → conn_of turned.conns reply.dp ≡ Some c → GivesWayTo w heard c.number
          gives c is =
              subst (λ h. GivesWayTo w h c.number) (sym is_reply)
              (fits, sym (dp_on f number_same dp_same on w.conns reply.dp) ∙ ap (λ (o : Option Conn). option_map (λ (d : Conn). d.number) o) is)

          by : (o : Option Conn) → conn_of turned.conns reply.dp ≡ o → K (option_map_or (λ (c : Conn). close Replaced c.number turned) o turned)
          by None is = stays
          by (Some c) is = close_stays Replaced c.number turned (others c.number (gives c is)) (found_open (is_of reply.dp) turned.conns c is) stays

      introduced_stays : K turned → K (introduce on reply.dp why turned)
      introduced_stays stays = by why refl
        where
          by : (o : Option Closing) → why ≡ o → K (introduce on reply.dp o turned)
          by (Some cause) is = close_stays cause on turned (own cause (subst (λ h. IsOfFrame w.conf h cause) (sym is_reply) is)) (change_open f number_same on on w.conns ∙ at) stays
          by None is =
              let v : World = replace reply.dp turned in
              let u : World = record v { conns = change on (with_dp reply.dp) v.conns } in
              asked_stays on messages.PortDescRequest (take_dp on reply.dp v)
              (known (forget_lost u).hosts (forget_lost u).neighbours u (changed (with_dp reply.dp) (still (λ c. refl) (λ c. refl)) on v (replaced_stays is stays)))

    echoed : (m : Message) (xid : ℕ) (v : World) → is_open v.conns on ≡ true → K v → K (echo m on xid v)
    echoed (messages.EchoRequest payload) xid v there stays = repeated_stays on (messages.EchoReply payload) xid v there stays
    echoed m xid v there stays = stays

    turned_away : (cause : Closing) (xid : ℕ) (v : World) → C on cause → is_open v.conns on ≡ true → K v → K (turn_away cause on xid v)
    turned_away WrongVersion xid v cause_is there stays =
        close_stays WrongVersion on (repeat on (messages.Error 0 0 []) xid v) cause_is there (repeated_stays on (messages.Error 0 0 []) xid v there stays)
    turned_away cause xid v cause_is there stays = close_stays cause on v cause_is there stays

    wiped_stays : (v : World) → K v → K (wipe on v)
    wiped_stays v stays = asked_stays on messages.BarrierRequest (say on delete_all v) (said_stays on delete_all v stays)

    packet_stays : (m : Message) (dp : Option DpId) (v : World) → K v → K (packet m on dp v)
    packet_stays m dp v stays = packet_kept K (λ number out u kept. said_stays number (packet_out out) u kept) single.knows m on dp v stays

    module _ (m : Message) (xid : ℕ) (is : heard ≡ Some (m, xid)) where
      abbrev changed_by : World
      changed_by = forget_lost (record w { conns = change on (with_heard m xid) w.conns })

      open_by : is_open changed_by.conns on ≡ true
      open_by = change_open (with_heard m xid) (λ c. refl) on on w.conns ∙ at

      follow_stays : (step : Step) (dp : Option DpId) → OfStep w.conf m step → K changed_by → K (follow step m xid on dp changed_by)
      follow_stays steps.Nothing dp of stays = stays
      follow_stays steps.AskFeatures dp of stays = said_stays on messages.FeaturesRequest changed_by stays
      follow_stays (steps.Features id n_tables auxiliary) dp of stays =
          let said : heard ≡ Some (messages.FeaturesReply of.0, xid) = is ∙ ap (λ (k : Message). Some (k, xid)) of.1 in
          let same : introduce on of.0.dp (unfit w.conf of.0.dp of.0.n_tables of.0.auxiliary) changed_by ≡ introduce on id (unfit w.conf id n_tables auxiliary) changed_by =
          λ i. introduce on (of.2 i) (unfit w.conf (of.2 i) (of.3 i) (of.4 i)) changed_by in
          subst K same (introduced_stays (with_heard m xid) (λ c. refl) (λ c. refl) of.0 xid said stays)
      follow_stays steps.PortsKnown dp of stays = wiped_stays changed_by stays
      follow_stays steps.Wiped dp of stays = speaking.begun_stays K speaks dp changed_by stays
      follow_stays steps.Settled dp of stays = stays
      follow_stays (steps.PortChanged port) dp of stays = stays
      follow_stays steps.Packet dp of stays = packet_stays m dp changed_by stays
      follow_stays steps.Echo dp of stays = echoed m xid changed_by open_by stays
      follow_stays (steps.Close cause) dp of stays = turned_away cause xid changed_by (own cause (subst (λ h. IsOfFrame w.conf h cause) (sym is) of)) open_by stays

      message_stays : K w → K (hear_message m xid on w)
      message_stays stays = by (conn_with w.conns on)
        where
          by : (o : Option Conn) → K (option_map_or (hear_on m xid on w) o w)
          by None = stays
          by (Some c) =
              follow_stays (leads c.session.state m xid).1 c.dp (step_of w.conf c.session.state m xid)
              (known changed_by.hosts changed_by.neighbours (record w { conns = change on (with_heard m xid) w.conns }) (changed (with_heard m xid) (still (λ d. refl) (λ d. refl)) on w stays))

    pub heard_stays : K w → K (hear_frame heard on w)
    heard_stays stays = by heard refl
      where
        by : (o : Option (Message × ℕ)) → heard ≡ o → K (hear_frame o on w)
        by (Some s) is = message_stays s.0 s.1 is stays
        by None is = close_stays BadFrame on w (own BadFrame (subst (λ h. IsOfFrame w.conf h BadFrame) (sym is) refl)) at stays

  -- ---- the frames of a piece, where it was fed

  module _ (on : ℕ) (own : (conf : Configuration) (heard : Option (Message × ℕ)) (cause : Closing) → IsOfFrame conf heard cause → C on cause)
      (others : (number : ℕ) → C number Replaced) where
    framed : (w : World) (heard : Option (Message × ℕ)) → (front (unread on w) ≡ Part → ⊥) → K w → K (settle (hear_frame heard on (read on w)))
    framed w heard some stays =
        let v : World = read on w in
        settle_stays (hear_frame heard on v)
        (heard_stays v heard on (own v.conf heard) (λ number gives. others number) (change_open with_read (λ c. refl) on on w.conns ∙ front_open on w some) (read_stays on w stays))

    front_stays : (w : World) → K w → (f : Front) → front (unread on w) ≡ f → K (hear_front f on (read on w))
    front_stays w stays Part is = read_stays on w stays
    front_stays w stays (Frame frame) is = framed w (says frame) (λ part. absurd (cc)) stays
    front_stays w stays Bad is = framed w None (λ part. absurd (cc)) stays

    next_stays : (w : World) → K w → K (hear_next on w)
    next_stays w stays = front_stays w stays (front (unread on w)) refl

    frames_stay : (most : ℕ) (w : World) → K w → K (hear_frames most on w)
    frames_stay zero w stays = stays
    frames_stay (suc most) w stays =
        elim (has_frame on w) as (λ b. K (if b then hear_frames most on (hear_next on w) else hear_next on w)) [
          | true ↦ frames_stay most (hear_next on w) (next_stays w stays)
          | false ↦ next_stays w stays
        ]

    pub hear_stays : (piece : List ℕ) (w : World) → K (feed on piece w) → K (hear on piece w)
    hear_stays piece w stays = frames_stay (length (unread on (feed on piece w))) (feed on piece w) stays
