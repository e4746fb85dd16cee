-- What is unread on a connection and when it was heard last: but for the bytes that come and the frames that are taken nothing
-- changes that, and a connection that ends has neither.
use Rattle.std.proofs.Common.{◌≡◌, ℕ, ◌==◌, Option, Some, None, List, [], inl, inr, refl, sym, ap, subst, ◌∙◌}
use Rattle.std.specs.Option.{option_map_or}
use Rattle.std.proofs.lemmas.Bool.{cases_Bool, eqb-true}
use Rattle.net_base.specs.declared.numbers.DpId.{DpId}
use Rattle.net_base.specs.declared.numbers.Moment.{Moment}
use Rattle.of13_codec.specs.declared.message.Message.{Message}
use Rattle.of13_codec.specs.declared.message.Message.TheVariants as messages
use Rattle.flow_messages.specs.Messages.{command_message, delete_all}
use Rattle.switch_session.specs.declared.closing.Closing.{Closing}
use Rattle.switch_session.specs.declared.closing.Closing.TheVariants.{BadFrame, Silent}
use Rattle.switch_session.specs.declared.quiet.Quiet.{Quiet}
use Rattle.switch_session.specs.declared.quiet.Quiet.TheVariants as quiet
use Rattle.switch_session.specs.Connections.{due_at}
use Rattle.ctl_world.specs.declared.conns.Conn.{Conn}
use Rattle.ctl_world.specs.Connections.{change, conn_with, with_asked, with_dp, with_heard, with_looked, with_said, with_sent, without}
use Rattle.ctl_world.specs.Ends.{close, ended}
use Rattle.ctl_world.specs.Saying.{ask, packet_out, say, say_by}
use Rattle.ctl_world.specs.World.{World}
use Rattle.ctl_core.specs.Settlings.{settle}
use Rattle.ctl_life.specs.Silence.{look, look_on, stir}
use Rattle.ctl_world.proofs.Numbered.{unlike, with_seen, without_other, without_own}
use Rattle.ctl_core.specs.Hearing.{hear_frame, packet}
use Rattle.ctl_core.specs.Reloading.{accepted, reload}
use Rattle.ctl_core.specs.Turns.{pass}
use Rattle.ctl_core.proofs.PacketSteps.{packet_kept}
use Rattle.ctl_core.proofs.Walk.{Batches, Setup, Steps, heard_kept, pass_kept, reload_kept, settle_kept, wants_by, with_any}

module _ {A : Type 0} (see : List ℕ → Moment → A) (d : A) (n : ℕ) (R : A → Type 0) (none : R d) where
  abbrev pub seen : Conn → A
  seen c = see c.session.unread c.session.heard

  abbrev pub Has : World → Type 0
  Has w = R (option_map_or seen (conn_with w.conns n) d)

  pub changed : (number : ℕ) (f : Conn → Conn) → ((c : Conn) → (f c).number ≡ c.number) → ((c : Conn) → seen (f c) ≡ seen c) → (w : World) → Has w → Has (record w { conns = change number f w.conns })
  changed number f same sees w has = subst R (sym (with_seen f same number seen sees n w.conns d)) has

  spoken : (number : ℕ) (m : Message) (f : Conn → Conn) → ((c : Conn) → (f c).number ≡ c.number) → ((c : Conn) → seen (f c) ≡ seen c) → (w : World) → Has w
      → Has (option_map_or (say_by f m w) (conn_with w.conns number) w)
  spoken number m f same sees w has =
      elim (conn_with w.conns number) as (λ o. Has (option_map_or (say_by f m w) o w)) [
        | Some c ↦ changed c.number f same sees w has
        | None ↦ has
      ]

  pub said_has : (number : ℕ) (m : Message) (w : World) → Has w → Has (say number m w)
  said_has number m w has = spoken number m with_said (λ c. refl) (λ c. refl) w has

  asked : (number : ℕ) (m : Message) (w : World) → Has w → Has (ask number m w)
  asked number m w has = spoken number m with_asked (λ c. refl) (λ c. refl) w has

  left : (number : ℕ) (conns : List Conn) → R (option_map_or seen (conn_with conns n) d) → R (option_map_or seen (conn_with (without number conns) n) d)
  left number conns has =
      elim (cases_Bool (n == number)) [
        | inl is ↦
            subst (λ (o : Option Conn). R (option_map_or seen o d)) (sym (ap (conn_with (without number conns)) (eqb-true n number is) ∙ without_own number conns)) none
        | inr other ↦ subst (λ (o : Option Conn). R (option_map_or seen o d)) (sym (without_other number n (unlike n number other) conns)) has
      ]

  pub close_has : (cause : Closing) (number : ℕ) (w : World) → Has w → Has (close cause number w)
  close_has cause number w has = left number w.conns has

  pub ended_has : (cause : Closing) (number : ℕ) (w : World) → Has w → Has (ended cause number w)
  ended_has cause number w has = left number w.conns has

  single : Steps Has
  single = record {
    sends = λ number out w has. said_has number (packet_out out) w has;
    asks_echo = λ number w has. said_has number (messages.EchoRequest []) w has;
    closes = λ cause number w at has. close_has cause number w has;
    looks = λ number w has. changed number (with_looked w.moment) (λ c. refl) (λ c. refl) w has;
    shows = λ moment w has. has;
    ages = λ w has. has;
    wants = λ group w has. wants_by Has group w has has;
    tells = λ text w has. has;
  }

  setup : Setup Has
  setup = record {
    hears = λ m xid number w has. changed number (with_heard m xid) (λ c. refl) (λ c. refl) w has;
    features = λ number w has. said_has number messages.FeaturesRequest w has;
    takes = λ number dp w has. changed number (with_dp dp) (λ c. refl) (λ c. refl) w has;
    ports = λ number w has. asked number messages.PortDescRequest w has;
    wipes = λ number w has. asked number messages.BarrierRequest (say number delete_all w) (said_has number delete_all w has);
    answers = λ number payload xid w at has. has;
    refuses = λ number xid w at has. has;
  }

  batches : Batches Has
  batches = record {
    commands = λ number c w has. said_has number (command_message c) w has;
    barriers = λ number w has. asked number messages.BarrierRequest w has;
    notes = λ number entries w has. changed number (with_sent entries) (λ c. refl) (λ c. refl) w has;
  }

  packets : (m : Message) (number : ℕ) (dp : Option DpId) (w : World) → Has w → Has (packet m number dp w)
  packets m number dp w has = packet_kept (λ conf conns said. R (option_map_or seen (conn_with conns n) d)) single.sends m number dp w has

  pub heard_has : (heard : Option (Message × ℕ)) (number : ℕ) (w : World) → Has w → Has (hear_frame heard number w)
  heard_has heard number w has = heard_kept Has single setup heard (λ s is. packets s.0) number w (close_has BadFrame number w has) has

  pub settled_has : (w : World) → Has w → Has (settle w)
  settled_has w has = settle_kept Has batches single (λ v kept. kept) w has

  pub passed_has : (moment : ℕ) (w : World) → Has w → Has (pass moment w)
  passed_has moment w has = pass_kept Has single moment w has

  pub reloaded_has : (text : List ℕ) (w : World) → Has w → Has (reload (accepted text) w)
  reloaded_has text w has = reload_kept Has single (accepted text) (λ next v is kept. kept) w has

  stirred : (due : Quiet) (number : ℕ) (w : World) → Has w → Has (stir due number w)
  stirred quiet.Well number w has = has
  stirred quiet.Echo number w has = said_has number (messages.EchoRequest []) w has
  stirred quiet.Silent number w has = close_has Silent number w has

  pub looked_has : (number : ℕ) (w : World) → Has w → Has (look number w)
  looked_has number w has =
      with_any Has (look_on w) (conn_with w.conns number) w
      (λ c. stirred (due_at c.session w.moment) c.number (record w { conns = change c.number (with_looked w.moment) w.conns })
      (changed c.number (with_looked w.moment) (λ k. refl) (λ k. refl) w has))
      has
