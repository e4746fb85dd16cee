-- What is done in a turn leaves the connections by number and their entries in key order, and the configuration what it
-- is, but for a reload.
use Rattle.std.proofs.Common.{◌≡◌, ℕ, false, Option, Some, None, List, [], ◌∷◌, Result, Ok, refl, sym, subst, ◌∙◌}
use Rattle.std.specs.Option.{option_map_or}
use Rattle.net_base.specs.declared.numbers.DpId.{DpId}
use Rattle.conf_types.specs.Configuration.{Configuration}
use Rattle.of13_codec.specs.declared.message.Message.{Message}
use Rattle.of13_codec.specs.declared.message.Message.TheVariants as messages
use Rattle.flow_messages.specs.Messages.{command_message, delete_all}
use Rattle.switch_session.specs.declared.closing.Closing.{Closing}
use Rattle.switch_session.specs.declared.closing.Closing.TheVariants.{BadFrame}
use Rattle.switch_session.specs.Connections.{opened}
use Rattle.ctl_world.specs.declared.conns.Conn.{Conn}
use Rattle.ctl_world.specs.Connections.{change, conn_with, is_open, put, with_asked, with_dp, with_fed, with_heard, with_looked, with_said}
use Rattle.ctl_world.specs.Ends.{close, ended}
use Rattle.ctl_world.specs.Frames.{with_read}
use Rattle.ctl_world.specs.Saying.{ask, packet_out, say, say_by}
use Rattle.ctl_world.specs.World.{World}
use Rattle.ctl_settle.specs.Settling.{ask_all, settle}
use Rattle.ctl_life.specs.Life.{read, feed, open_conn}
use Rattle.ctl_core.specs.Hearing.{hear_frame, packet}
use Rattle.ctl_core.specs.Reloading.{reload}
use Rattle.ctl_core.specs.Turns.{pass}
use Rattle.ctl_core.proofs.Ordered.{AreOrdered, change_ordered, put_ordered, without_ordered}
use Rattle.ctl_core.proofs.PacketSteps.{packet_kept}
use Rattle.ctl_core.proofs.Walk.{Batches, Setup, Steps, asks_kept, heard_kept, pass_kept, reload_kept, settle_kept, wants_by, with_any}

-- ---- what is said leaves the configuration

say_conf : (number : ℕ) (m : Message) (w : World) → (say number m w).conf ≡ w.conf
say_conf number m w = elim (conn_with w.conns number) as (λ o. (option_map_or (say_by with_said m w) o w).conf ≡ w.conf) [ Some c ↦ refl | None ↦ refl ]

ask_conf : (number : ℕ) (m : Message) (w : World) → (ask number m w).conf ≡ w.conf
ask_conf number m w = elim (conn_with w.conns number) as (λ o. (option_map_or (say_by with_asked m w) o w).conf ≡ w.conf) [ Some c ↦ refl | None ↦ refl ]

module _ (conf : Configuration) where
  abbrev Has : World → Type 0
  Has w = w.conf ≡ conf

  single_conf : Steps Has
  single_conf = record {
    sends = λ number out w is. say_conf number (packet_out out) w ∙ is;
    asks_echo = λ number w is. say_conf number (messages.EchoRequest []) w ∙ is;
    closes = λ cause number w at is. is;
    looks = λ number w is. is;
    shows = λ moment w is. is;
    ages = λ w is. is;
    wants = λ group w is. wants_by Has group w is is;
    tells = λ text w is. is;
  }

  batches_conf : Batches Has
  batches_conf = record {
    commands = λ number c w is. say_conf number (command_message c) w ∙ is;
    barriers = λ number w is. ask_conf number messages.BarrierRequest w ∙ is;
    notes = λ number entries w is. is;
  }

pub asks_conf : (w : World) → (ask_all w).conf ≡ w.conf
asks_conf w = asks_kept (Has w.conf) (single_conf w.conf) (λ v is. is) w refl

settle_conf : (w : World) → (settle w).conf ≡ w.conf
settle_conf w = settle_kept (Has w.conf) (batches_conf w.conf) (single_conf w.conf) (λ v is. is) w refl

-- ---- a property of the configuration, and the order of the connections

abbrev pub Stands : (Configuration → Type 0) → World → Type 0
Stands P w = P w.conf × AreOrdered w.conns

module _ (P : Configuration → Type 0) where
  changed : (f : Conn → Conn) → ((c : Conn) → (f c).number ≡ c.number) → ((c : Conn) → (f c).sent ≡ c.sent) → (number : ℕ) (w : World) → Stands P w
      → Stands P (record w { conns = change number f w.conns })
  changed f same sent number w stands = (stands.0, change_ordered f same sent number w.conns stands.1)

  said_stands : (number : ℕ) (m : Message) (w : World) → Stands P w → Stands P (say number m w)
  said_stands number m w stands = with_any (Stands P) (say_by with_said m w) (conn_with w.conns number) w (λ c. changed with_said (λ c. refl) (λ c. refl) c.number w stands) stands

  asked_stands : (number : ℕ) (m : Message) (w : World) → Stands P w → Stands P (ask number m w)
  asked_stands number m w stands = with_any (Stands P) (say_by with_asked m w) (conn_with w.conns number) w (λ c. changed with_asked (λ c. refl) (λ c. refl) c.number w stands) stands

  pub close_stands : (cause : Closing) (number : ℕ) (w : World) → Stands P w → Stands P (close cause number w)
  close_stands cause number w stands = (stands.0, without_ordered number w.conns stands.1)

  pub ended_stands : (cause : Closing) (number : ℕ) (w : World) → Stands P w → Stands P (ended cause number w)
  ended_stands cause number w stands = (stands.0, without_ordered number w.conns stands.1)

  single : Steps (Stands P)
  single = record {
    sends = λ number out w stands. said_stands number (packet_out out) w stands;
    asks_echo = λ number w stands. said_stands number (messages.EchoRequest []) w stands;
    closes = λ cause number w at stands. close_stands cause number w stands;
    looks = λ number w stands. changed (with_looked w.moment) (λ c. refl) (λ c. refl) number w stands;
    shows = λ moment w stands. stands;
    ages = λ w stands. stands;
    wants = λ group w stands. wants_by (Stands P) group w stands stands;
    tells = λ text w stands. stands;
  }

  setup : Setup (Stands P)
  setup = record {
    hears = λ m xid number w stands. changed (with_heard m xid) (λ c. refl) (λ c. refl) number w stands;
    features = λ number w stands. said_stands number messages.FeaturesRequest w stands;
    takes = λ number dp w stands. changed (with_dp dp) (λ c. refl) (λ c. refl) number w stands;
    ports = λ number w stands. asked_stands number messages.PortDescRequest w stands;
    wipes = λ number w stands. asked_stands number messages.BarrierRequest (say number delete_all w) (said_stands number delete_all w stands);
    answers = λ number payload xid w at stands. stands;
    refuses = λ number xid w at stands. stands;
  }

  packet_stands : (m : Message) (number : ℕ) (dp : Option DpId) (w : World) → Stands P w → Stands P (packet m number dp w)
  packet_stands m number dp w stands = packet_kept (λ conf conns said. P conf × AreOrdered conns) (λ n out v kept. said_stands n (packet_out out) v kept) m number dp w stands

  pub heard_stands : (said : Option (Message × ℕ)) (number : ℕ) (w : World) → Stands P w → Stands P (hear_frame said number w)
  heard_stands said number w stands = heard_kept (Stands P) single setup said (λ s is. packet_stands s.0) number w (close_stands BadFrame number w stands) stands

  pub read_stands : (number : ℕ) (w : World) → Stands P w → Stands P (read number w)
  read_stands number w stands = changed with_read (λ c. refl) (λ c. refl) number w stands

  pub open_stands : (number : ℕ) (w : World) → is_open w.conns number ≡ false → Stands P w → Stands P (open_conn number w)
  open_stands number w shut stands =
      let c : Conn = record { number = number; session = opened w.moment; dp = None; sent = [] } in
      said_stands number (messages.Hello 4 (Some 16)) (record w { conns = put c w.conns }) (stands.0, put_ordered c w.conns shut tt stands.1)

  pub feed_stands : (number : ℕ) (piece : List ℕ) (w : World) → Stands P w → Stands P (feed number piece w)
  feed_stands number [] w stands = changed (with_fed [] w.moment) (λ c. refl) (λ c. refl) number w stands
  feed_stands number (byte ∷ piece) w stands = changed (with_fed (byte ∷ piece) w.moment) (λ c. refl) (λ c. refl) number w stands

  pub pass_stands : (moment : ℕ) (w : World) → Stands P w → Stands P (pass moment w)
  pass_stands moment w stands = pass_kept (Stands P) single moment w stands

  pub reload_stands : (read : Result Configuration (List ℕ)) → ((next : Configuration) → read ≡ Ok next → P next) → (w : World) → Stands P w → Stands P (reload read w)
  reload_stands read valid w stands = reload_kept (Stands P) single read (λ next v is kept. (valid next is, kept.1)) w stands

  pub settle_stands : ((w : World) → AreOrdered w.conns → AreOrdered (settle w).conns) → (w : World) → Stands P w → Stands P (settle w)
  settle_stands ordered w stands = (subst P (sym (settle_conf w)) stands.0, ordered w stands.1)
