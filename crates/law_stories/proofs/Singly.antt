-- What is done in a turn, step by step: what each single step keeps of the connections and of what was said, all of it keeps.
use Rattle.std.proofs.Common.{◌≡◌, ℕ, ◌++◌, true, false, Option, Some, None, List, [], ◌∷◌, Result, refl, sym, subst, ◌∙◌}
use Rattle.std.specs.Option.{option_map_or}
use Rattle.net_base.specs.declared.numbers.DpId.{DpId}
use Rattle.of_match.specs.declared.entry.Command.{Command}
use Rattle.of_match.specs.declared.entry.Command.TheVariants.{Add, DeleteAll, DeleteStrict}
use Rattle.conf_types.specs.Configuration.{Configuration}
use Rattle.of13_codec.specs.declared.message.Message.{Message}
use Rattle.of13_codec.specs.declared.message.Message.TheVariants as messages
use Rattle.flow_messages.specs.Messages.{command_message, delete_all}
use Rattle.switch_session.specs.declared.closing.Closing.{Closing}
use Rattle.switch_session.specs.declared.closing.Closing.TheVariants.{BadFrame}
use Rattle.switch_session.specs.Connections.{next_id}
use Rattle.ctl_world.specs.declared.conns.Conn.{Conn}
use Rattle.ctl_world.specs.declared.frames.Front.TheVariants.{Part}
use Rattle.ctl_world.specs.declared.said.Said.{Said}
use Rattle.ctl_world.specs.declared.said.Said.TheVariants as told
use Rattle.ctl_world.specs.Connections.{change, conn_with, is_open, with_asked, with_dp, with_fed, with_heard, with_looked, with_said, with_sent, without}
use Rattle.ctl_world.specs.Ends.{close, end_line}
use Rattle.ctl_world.specs.Frames.{front, with_read}
use Rattle.ctl_world.specs.Saying.{ask, packet_out, say, say_by}
use Rattle.ctl_world.specs.TablesSaid.{is_hello}
use Rattle.ctl_world.specs.World.{World}
use Rattle.ctl_core.specs.Settlings.{settle}
use Rattle.ctl_life.specs.Life.{read, unread, feed}
use Rattle.ctl_core.specs.Hearing.{hear_frame, packet}
use Rattle.ctl_core.specs.Reloading.{reload}
use Rattle.ctl_core.specs.Turns.{pass}
use Rattle.ctl_world.proofs.Numbered.{has_it}
use Rattle.ctl_life.proofs.Openings.{change_open, front_open}
use Rattle.ctl_core.proofs.PacketSteps.{packet_kept}
use Rattle.ctl_core.proofs.Walk as walks
use Rattle.law_stories.specs.Sayable.{is_answer}

-- ---- single steps

-- nothing is said on it
pub record IsStill (f : Conn → Conn) : Type 0 where
  pub number : (c : Conn) → (f c).number ≡ c.number
  pub last : (c : Conn) → (f c).session.last_xid ≡ c.session.last_xid

-- a message is said on it
pub record IsCounting (f : Conn → Conn) : Type 0 where
  pub number : (c : Conn) → (f c).number ≡ c.number
  pub last : (c : Conn) → (f c).session.last_xid ≡ next_id c.session.last_xid

-- neither an answer, nor a HELLO
pub record IsOwn (m : Message) : Type 0 where
  pub answer : is_answer m ≡ false
  pub hello : is_hello m ≡ false

pub record Steps (J : List Conn → List Said → Type 0) : Type 0 where
  pub changes : (f : Conn → Conn) → IsStill f → (number : ℕ) (conns : List Conn) (said : List Said) → J conns said → J (change number f conns) said
  pub says : (f : Conn → Conn) → IsCounting f → (number : ℕ) (m : Message) → IsOwn m → (c : Conn) (conns : List Conn) (said : List Said) → conn_with conns number ≡ Some c → J conns said
      → J (change number f conns) (said ++ told.Message number m (next_id c.session.last_xid) ∷ [])
  pub repeats : (number : ℕ) (m : Message) → is_answer m ≡ true → (xid : ℕ) (conns : List Conn) (said : List Said) → is_open conns number ≡ true → J conns said → J conns (said ++ told.Message number m xid ∷ [])
  pub closes : (cause : Closing) (number : ℕ) (conns : List Conn) (said : List Said) → is_open conns number ≡ true → J conns said
      → J (without number conns) (said ++ told.Closing number cause ∷ end_line number cause ∷ [])
  pub tells : (text : List ℕ) (conns : List Conn) (said : List Said) → J conns said → J conns (said ++ told.Line text ∷ [])

plain : {m : Message} → is_answer m ≡ false → is_hello m ≡ false → IsOwn m
plain answer hello = record { answer = answer; hello = hello }

module _ (J : List Conn → List Said → Type 0) (single : Steps J) where
  abbrev pub Stays : World → Type 0
  Stays w = J w.conns w.said

  spoken : (f : Conn → Conn) → IsCounting f → (number : ℕ) (m : Message) → IsOwn m → (w : World) → Stays w → Stays (option_map_or (say_by f m w) (conn_with w.conns number) w)
  spoken f counts number m own w stays = by (conn_with w.conns number) refl
    where
      by : (o : Option Conn) → conn_with w.conns number ≡ o → Stays (option_map_or (say_by f m w) o w)
      by None is = stays
      by (Some c) is =
          subst (λ (k : ℕ). J (change k f w.conns) (w.said ++ told.Message k m (next_id c.session.last_xid) ∷ [])) (sym (has_it number w.conns c is))
          (single.says f counts number m own c w.conns w.said is stays)

  said_stays : (number : ℕ) (m : Message) → IsOwn m → (w : World) → Stays w → Stays (say number m w)
  said_stays number m own w stays = spoken with_said (record { number = λ c. refl; last = λ c. refl }) number m own w stays

  asked_stays : (number : ℕ) (m : Message) → IsOwn m → (w : World) → Stays w → Stays (ask number m w)
  asked_stays number m own w stays = spoken with_asked (record { number = λ c. refl; last = λ c. refl }) number m own w stays

  close_stays : (cause : Closing) (number : ℕ) (w : World) → is_open w.conns number ≡ true → Stays w → Stays (close cause number w)
  close_stays cause number w at stays = single.closes cause number w.conns w.said at stays

  changed : (f : Conn → Conn) → ((c : Conn) → (f c).number ≡ c.number) → ((c : Conn) → (f c).session.last_xid ≡ c.session.last_xid) → (number : ℕ) (w : World) → Stays w
      → Stays (record w { conns = change number f w.conns })
  changed f same last number w stays = single.changes f (record { number = same; last = last }) number w.conns w.said stays

  command_own : (c : Command) → IsOwn (command_message c)
  command_own (Add e) = plain refl refl
  command_own (DeleteStrict key) = plain refl refl
  command_own DeleteAll = plain refl refl

  walk : walks.Steps Stays
  walk = record {
    sends = λ number out w stays. said_stays number (packet_out out) (plain refl refl) w stays;
    asks_echo = λ number w stays. said_stays number (messages.EchoRequest []) (plain refl refl) w stays;
    closes = λ cause number w at stays. close_stays cause number w at stays;
    looks = λ number w stays. changed (with_looked w.moment) (λ c. refl) (λ c. refl) number w stays;
    shows = λ moment w stays. stays;
    ages = λ w stays. stays;
    wants = λ group w stays. walks.wants_by Stays group w stays stays;
    tells = λ text w stays. single.tells text w.conns w.said stays;
  }

  setup : walks.Setup Stays
  setup = record {
    hears = λ m xid number w stays. changed (with_heard m xid) (λ c. refl) (λ c. refl) number w stays;
    features = λ number w stays. said_stays number messages.FeaturesRequest (plain refl refl) w stays;
    takes = λ number dp w stays. changed (with_dp dp) (λ c. refl) (λ c. refl) number w stays;
    ports = λ number w stays. asked_stays number messages.PortDescRequest (plain refl refl) w stays;
    wipes = λ number w stays. asked_stays number messages.BarrierRequest (plain refl refl) (say number delete_all w) (said_stays number delete_all (plain refl refl) w stays);
    answers = λ number payload xid w at stays. single.repeats number (messages.EchoReply payload) refl xid w.conns w.said at stays;
    refuses = λ number xid w at stays. single.repeats number (messages.Error 0 0 []) refl xid w.conns w.said at stays;
  }

  batches : walks.Batches Stays
  batches = record {
    commands = λ number c w stays. said_stays number (command_message c) (command_own c) w stays;
    barriers = λ number w stays. asked_stays number messages.BarrierRequest (plain refl refl) w stays;
    notes = λ number entries w stays. changed (with_sent entries) (λ c. refl) (λ c. refl) number w stays;
  }

  packet_stays : (m : Message) (number : ℕ) (dp : Option DpId) (w : World) → Stays w → Stays (packet m number dp w)
  packet_stays m number dp w stays = packet_kept (λ conf conns said. J conns said) walk.sends m number dp w stays

  pub read_stays : (number : ℕ) (w : World) → Stays w → Stays (read number w)
  read_stays number w stays = changed with_read (λ c. refl) (λ c. refl) number w stays

  -- where anything but a part was at the front, the connection is open
  pub heard_stays : (heard : Option (Message × ℕ)) (number : ℕ) (w : World) → (front (unread number w) ≡ Part → ⊥) → Stays w → Stays (hear_frame heard number (read number w))
  heard_stays heard number w some stays =
      let v : World = read number w in
      let kept : Stays v = read_stays number w stays in
      walks.heard_kept Stays walk setup heard (λ s is. packet_stays s.0) number v
      (close_stays BadFrame number v (change_open with_read (λ c. refl) number number w.conns ∙ front_open number w some) kept) kept

  pub feed_stays : (number : ℕ) (piece : List ℕ) (w : World) → Stays w → Stays (feed number piece w)
  feed_stays number [] w stays = changed (with_fed [] w.moment) (λ c. refl) (λ c. refl) number w stays
  feed_stays number (byte ∷ piece) w stays = changed (with_fed (byte ∷ piece) w.moment) (λ c. refl) (λ c. refl) number w stays

  pub pass_stays : (moment : ℕ) (w : World) → Stays w → Stays (pass moment w)
  pass_stays moment w stays = walks.pass_kept Stays walk moment w stays

  pub reload_stays : (read : Result Configuration (List ℕ)) (w : World) → Stays w → Stays (reload read w)
  reload_stays read w stays = walks.reload_kept Stays walk read (λ next v is kept. kept) w stays

  pub settle_stays : (w : World) → Stays w → Stays (settle w)
  settle_stays w stays = walks.settle_kept Stays batches walk (λ v kept. kept) w stays
