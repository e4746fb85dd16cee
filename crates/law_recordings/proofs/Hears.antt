-- A frame that is heard behind such a change.
use Rattle.std.proofs.Common.{ℕ, ◌==◌, Option, Some, None, List, [], refl, ap, if◌then◌else◌}
use Rattle.std.specs.List.{list_any}
use Rattle.std.specs.Option.{option_map_or}
use Rattle.net_base.specs.declared.numbers.DpId.{DpId}
use Rattle.conf_types.specs.Groups.{group_of}
use Rattle.of13_codec.specs.declared.message.Message.{Message}
use Rattle.of13_codec.specs.declared.message.Message.TheVariants as messages
use Rattle.flow_messages.specs.Messages.{delete_all}
use Rattle.switch_session.specs.declared.closing.Closing.{Closing}
use Rattle.switch_session.specs.declared.closing.Closing.TheVariants.{BadFrame, Replaced, WrongVersion}
use Rattle.switch_session.specs.declared.state.Step.{Step}
use Rattle.switch_session.specs.declared.state.Step.TheVariants as steps
use Rattle.switch_session.specs.Stages.{leads}
use Rattle.ctl_world.specs.declared.conns.Conn.{Conn}
use Rattle.ctl_world.specs.declared.frames.Front.{Front}
use Rattle.ctl_world.specs.declared.frames.Front.TheVariants.{Part, Frame, Bad}
use Rattle.ctl_world.specs.Connections.{change, conn_of, conn_with, with_dp, with_heard}
use Rattle.ctl_world.specs.Ends.{close, forget_lost}
use Rattle.ctl_world.specs.Saying.{ask, repeat, say}
use Rattle.ctl_world.specs.World.{World, running}
use Rattle.ctl_core.specs.Settlings.{settle}
use Rattle.ctl_life.specs.Life.{echo, replace, says, take_dp, turn_away}
use Rattle.ctl_core.specs.Hearing.{begin, follow, hear_frame, hear_front, hear_message, hear_on, introduce, packet, unfit, want_gateways, want_in, wipe}
use Rattle.law_recordings.proofs.Touches.{Keeps, Touch, any, ask_keeps, both, changed, close_keeps, either, forget_keeps, found_of, found_with, itself, over, repeat_keeps, running_kept, say_keeps, touched}
use Rattle.law_recordings.proofs.Settles.{settle_keeps}
use Rattle.law_recordings.proofs.Packets.{packet_in_keeps}

module _ (t : Touch) where
  -- ---- the setup of a connection

  replace_keeps : (dp : DpId) → Keeps t (replace dp)
  replace_keeps dp w =
      let f : Conn → World = λ c. close Replaced c.number (touched t w) in
      over t w.moment (replace dp (touched t w)) (option_map_or f (conn_of w.conns dp) (touched t w)) (replace dp w)
      (found_of t f (λ c. refl) dp w (touched t w))
      (any t w (conn_of w.conns dp) f (λ c. close Replaced c.number w) (λ c. close_keeps t Replaced c.number w))

  take_keeps : (number : ℕ) (dp : DpId) → Keeps t (take_dp number dp)
  take_keeps number dp =
      both t (λ w. record w { conns = change number (with_dp dp) w.conns }) forget_lost (changed t (with_dp dp) (λ c. refl) (λ c. refl) number) (forget_keeps t)

  introduce_keeps : (number : ℕ) (dp : DpId) (cause : Option Closing) → Keeps t (introduce number dp cause)
  introduce_keeps number dp (Some cause) w = close_keeps t cause number w
  introduce_keeps number dp None w =
      both t (λ v. take_dp number dp (replace dp v)) (ask number messages.PortDescRequest)
      (both t (replace dp) (take_dp number dp) (replace_keeps dp) (take_keeps number dp)) (ask_keeps t number messages.PortDescRequest) w

  wipe_keeps : (number : ℕ) → Keeps t (wipe number)
  wipe_keeps number = both t (say number delete_all) (ask number messages.BarrierRequest) (say_keeps t number delete_all) (ask_keeps t number messages.BarrierRequest)

  -- ---- the gateways of routes

  want_keeps : (group : DpId) → Keeps t (want_in group)
  want_keeps group w =
      let wants : World → World = λ v. record v { neighbours = want_gateways group w.conf.vlans w.moment w.neighbours } in
      let in_group : List DpId → World = λ dps. if list_any (λ (dp : DpId). (group_of w.conf dp).0 == group.0) dps then wants (touched t w) else touched t w in
      over t w.moment (want_in group (touched t w)) (in_group (running w)) (want_in group w)
      (ap in_group (running_kept t w))
      (either t w.moment (list_any (λ (dp : DpId). (group_of w.conf dp).0 == group.0) (running w)) (wants (touched t w)) (touched t w) (wants w) w (record { is = refl; moment = refl })
      (itself t w))

  begin_keeps : (dp : Option DpId) → Keeps t (begin dp)
  begin_keeps None w = itself t w
  begin_keeps (Some dp) w = want_keeps (group_of w.conf dp) w

  -- ---- one message

  packet_keeps : (m : Message) (number : ℕ) (dp : Option DpId) → Keeps t (packet m number dp)
  packet_keeps (messages.PacketIn m) number (Some dp) w = packet_in_keeps t m number dp w
  packet_keeps m number dp w = itself t w

  echo_keeps : (m : Message) (number xid : ℕ) → Keeps t (echo m number xid)
  echo_keeps (messages.EchoRequest payload) number xid w = repeat_keeps t number (messages.EchoReply payload) xid w
  echo_keeps m number xid w = itself t w

  turn_away_keeps : (cause : Closing) (number xid : ℕ) → Keeps t (turn_away cause number xid)
  turn_away_keeps WrongVersion number xid w =
      both t (repeat number (messages.Error 0 0 []) xid) (close WrongVersion number) (repeat_keeps t number (messages.Error 0 0 []) xid) (close_keeps t WrongVersion number) w
  turn_away_keeps cause number xid w = close_keeps t cause number w

  follow_keeps : (step : Step) (m : Message) (xid number : ℕ) (dp : Option DpId) → Keeps t (follow step m xid number dp)
  follow_keeps steps.Nothing m xid number dp w = itself t w
  follow_keeps steps.AskFeatures m xid number dp w = say_keeps t number messages.FeaturesRequest w
  follow_keeps (steps.Features id n_tables auxiliary) m xid number dp w = introduce_keeps number id (unfit w.conf id n_tables auxiliary) w
  follow_keeps steps.PortsKnown m xid number dp w = wipe_keeps number w
  follow_keeps steps.Wiped m xid number dp w = begin_keeps dp w
  follow_keeps steps.Settled m xid number dp w = itself t w
  follow_keeps (steps.PortChanged port) m xid number dp w = itself t w
  follow_keeps steps.Packet m xid number dp w = packet_keeps m number dp w
  follow_keeps steps.Echo m xid number dp w = echo_keeps m number xid w
  follow_keeps (steps.Close cause) m xid number dp w = turn_away_keeps cause number xid w

  hear_on_keeps : (m : Message) (xid number : ℕ) (c : Conn) → Keeps t (λ w. hear_on m xid number w c)
  hear_on_keeps m xid number c =
      both t (λ w. forget_lost (record w { conns = change number (with_heard m xid) w.conns })) (follow (leads c.session.state m xid).1 m xid number c.dp)
      (both t (λ w. record w { conns = change number (with_heard m xid) w.conns }) forget_lost (changed t (with_heard m xid) (λ x. refl) (λ x. refl) number) (forget_keeps t))
      (follow_keeps (leads c.session.state m xid).1 m xid number c.dp)

  hear_message_keeps : (m : Message) (xid number : ℕ) → Keeps t (hear_message m xid number)
  hear_message_keeps m xid number w =
      over t w.moment (hear_message m xid number (touched t w)) (option_map_or (hear_on m xid number (touched t w)) (conn_with w.conns number) (touched t w)) (hear_message m xid number w)
      (found_with t (hear_on m xid number (touched t w)) (λ c. refl) number w (touched t w))
      (any t w (conn_with w.conns number) (hear_on m xid number (touched t w)) (hear_on m xid number w) (λ c. hear_on_keeps m xid number c w))

  heard_keeps : (said : Option (Message × ℕ)) (number : ℕ) → Keeps t (hear_frame said number)
  heard_keeps (Some said) number w = hear_message_keeps said.0 said.1 number w
  heard_keeps None number w = close_keeps t BadFrame number w

  pub front_keeps : (f : Front) (number : ℕ) → Keeps t (hear_front f number)
  front_keeps Part number w = itself t w
  front_keeps (Frame frame) number w = both t (hear_frame (says frame) number) settle (heard_keeps (says frame) number) (settle_keeps t) w
  front_keeps Bad number w = both t (close BadFrame number) settle (close_keeps t BadFrame number) (settle_keeps t) w
