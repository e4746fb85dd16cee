-- What is done in a turn beside opening, setting up and batches leaves what is known of each connection by what was said of
-- the tables on it.
use Rattle.std.proofs.Common.{◌++◌, ◌≡◌, ℕ, Option, List, [], ◌∷◌, Result, refl, sym, subst, ◌∙◌}
use Rattle.std.specs.Prelude.{IfSome}
use Rattle.net_base.specs.declared.numbers.DpId.{DpId}
use Rattle.conf_types.specs.Configuration.{Configuration}
use Rattle.of13_codec.specs.declared.message.Message.{Message}
use Rattle.of13_codec.specs.declared.message.Message.TheVariants as messages
use Rattle.switch_session.specs.declared.closing.Closing.{Closing}
use Rattle.switch_session.specs.declared.closing.Closing.TheVariants.{WrongVersion}
use Rattle.switch_session.specs.Connections.{next_id}
use Rattle.ctl_world.specs.declared.conns.Conn.{Conn}
use Rattle.ctl_world.specs.declared.said.Said.{Said}
use Rattle.ctl_world.specs.declared.said.Said.TheVariants as told
use Rattle.ctl_world.specs.Connections.{change, conn_with, with_dp, with_fed, with_looked, without}
use Rattle.ctl_world.specs.Ends.{close, end_line, ended}
use Rattle.ctl_world.specs.Frames.{with_read}
use Rattle.ctl_world.specs.Saying.{packet_out, repeat, say}
use Rattle.ctl_world.specs.TablesSaid.{tables_said}
use Rattle.ctl_world.specs.World.{World}
use Rattle.ctl_core.specs.Settlings.{ask_all}
use Rattle.ctl_life.specs.Life.{echo, read, replace, take_dp, tell_version, feed}
use Rattle.ctl_core.specs.Hearing.{begin, packet}
use Rattle.ctl_core.specs.Reloading.{reload}
use Rattle.ctl_core.specs.Turns.{pass}
use Rattle.ctl_core.proofs.PacketSteps.{packet_kept}
use Rattle.ctl_core.proofs.Walk.{Steps, asks_kept, begin_kept, pass_kept, reload_kept, replace_kept, wants_by}
use Rattle.law_stories.proofs.Ways.{Holds, IsPlain, OnConn, Way, changed_to, gone_to, more_said, plain_more, say_to}

-- ---- one is closed, or ends, of which anything was known

module _ (R P : Way) (past : List Said) (cause : Closing) (number : ℕ) (w : World)
    (others : (n : ℕ) (c : Conn) → (n ≡ number → ⊥) → OnConn R n c (tables_said n (past ++ w.said)) → OnConn P n c (tables_said n (past ++ w.said))) where
  pub close_to : Holds R past w.conns w.said → Holds P past (close cause number w).conns (close cause number w).said
  close_to holds n =
      subst (λ t. IfSome (conn_with (without number w.conns) n) (λ c. OnConn P n c t)) (sym (more_said n past w.said (told.Closing number cause ∷ end_line number cause ∷ [])))
      (gone_to R P past w.said number w.conns others holds n)

  pub end_to : Holds R past w.conns w.said → Holds P past (ended cause number w).conns (ended cause number w).said
  end_to holds n =
      subst (λ t. IfSome (conn_with (without number w.conns) n) (λ c. OnConn P n c t)) (sym (more_said n past w.said (end_line number cause ∷ [])))
      (gone_to R P past w.said number w.conns others holds n)

module _ (P : Way) (past : List Said) where
  abbrev pub Stays : World → Type 0
  Stays w = Holds P past w.conns w.said

  changed : (f : Conn → Conn) → ((c : Conn) → (f c).number ≡ c.number) → ((n : ℕ) (c : Conn) (t : List (Message × ℕ)) → OnConn P n c t → OnConn P n (f c) t) → (number : ℕ) (w : World) → Stays w
      → Stays (record w { conns = change number f w.conns })
  changed f same kept number w stays =
      changed_to P P past w.said w.said f same number w.conns (λ c is h. kept number c (tables_said number (past ++ w.said)) h) (λ n c differs h. h) stays

  pub said_stays : (number : ℕ) (m : Message) → IsPlain m → (w : World) → Stays w → Stays (say number m w)
  said_stays number m plain w stays =
      say_to P P past number m w
      (λ c is h. subst (OnConn P number c) (sym (plain_more number (tables_said number (past ++ w.said)) number m (next_id c.session.last_xid) plain)) h)
      (λ n c differs h. h) stays

  repeated_stays : (number : ℕ) (m : Message) → IsPlain m → (xid : ℕ) (w : World) → Stays w → Stays (repeat number m xid w)
  repeated_stays number m plain xid w stays n =
      subst (λ t. IfSome (conn_with w.conns n) (λ c. OnConn P n c t))
      (sym (more_said n past w.said (told.Message number m xid ∷ []) ∙ plain_more n (tables_said n (past ++ w.said)) number m xid plain)) (stays n)

  pub close_stays : (cause : Closing) (number : ℕ) (w : World) → Stays w → Stays (close cause number w)
  close_stays cause number w stays = close_to P P past cause number w (λ n c differs h. h) stays

  pub ended_stays : (cause : Closing) (number : ℕ) (w : World) → Stays w → Stays (ended cause number w)
  ended_stays cause number w stays = end_to P P past cause number w (λ n c differs h. h) stays

  single : Steps Stays
  single = record {
    sends = λ number out w stays. said_stays number (packet_out out) (record { hello = refl; tables = refl }) w stays;
    asks_echo = λ number w stays. said_stays number (messages.EchoRequest []) (record { hello = refl; tables = refl }) w stays;
    closes = λ cause number w at stays. close_stays cause number w stays;
    looks = λ number w stays. changed (with_looked w.moment) (λ c. refl) (λ n c t h. h) number w stays;
    shows = λ moment w stays. stays;
    ages = λ w stays. stays;
    wants = λ group w stays. wants_by Stays group w stays stays;
    tells = λ text w stays n.
        subst (λ t. IfSome (conn_with w.conns n) (λ c. OnConn P n c t)) (sym (more_said n past w.said (told.Line text ∷ []))) (stays n);
  }

  -- ---- one message

  pub packet_stays : (m : Message) (number : ℕ) (dp : Option DpId) (w : World) → Stays w → Stays (packet m number dp w)
  packet_stays m number dp w stays = packet_kept (λ conf conns said. Holds P past conns said) single.sends m number dp w stays

  pub replace_stays : (dp : DpId) (w : World) → Stays w → Stays (replace dp w)
  replace_stays dp w stays = replace_kept Stays single dp w stays

  pub take_stays : (number : ℕ) (dp : DpId) (w : World) → Stays w → Stays (take_dp number dp w)
  take_stays number dp w stays = changed (with_dp dp) (λ c. refl) (λ n c t h. h) number w stays

  pub begin_stays : (dp : Option DpId) (w : World) → Stays w → Stays (begin dp w)
  begin_stays dp w stays = begin_kept Stays single dp w stays

  pub echo_stays : (m : Message) (number xid : ℕ) (w : World) → Stays w → Stays (echo m number xid w)
  echo_stays (messages.EchoRequest payload) number xid w stays = repeated_stays number (messages.EchoReply payload) (record { hello = refl; tables = refl }) xid w stays
  echo_stays m number xid w stays = stays

  pub version_stays : (cause : Closing) (number xid : ℕ) (w : World) → Stays w → Stays (tell_version cause number xid w)
  version_stays WrongVersion number xid w stays = repeated_stays number (messages.Error 0 0 []) (record { hello = refl; tables = refl }) xid w stays
  version_stays cause number xid w stays = stays

  pub read_stays : (number : ℕ) (w : World) → Stays w → Stays (read number w)
  read_stays number w stays = changed with_read (λ c. refl) (λ n c t h. h) number w stays

  -- ---- what comes, the clock, a reload, and the asks of a settling

  pub feed_stays : (number : ℕ) (piece : List ℕ) (w : World) → Stays w → Stays (feed number piece w)
  feed_stays number [] w stays = changed (with_fed [] w.moment) (λ c. refl) (λ n c t h. h) number w stays
  feed_stays number (byte ∷ piece) w stays = changed (with_fed (byte ∷ piece) w.moment) (λ c. refl) (λ n c t h. h) number w stays

  pub pass_stays : (moment : ℕ) (w : World) → Stays w → Stays (pass moment w)
  pass_stays moment w stays = pass_kept Stays single moment w stays

  pub reload_stays : (read : Result Configuration (List ℕ)) (w : World) → Stays w → Stays (reload read w)
  reload_stays read w stays = reload_kept Stays single read (λ next v is kept. kept) w stays

  pub asks_stays : (w : World) → Stays w → Stays (ask_all w)
  asks_stays w stays = asks_kept Stays single (λ v kept. kept) w stays
