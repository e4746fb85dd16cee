-- Which steps make no host known: connections that end or take a step, the clock, and what is forgotten with them.
use Rattle.std.proofs.Common.{◌≡◌, ℕ, ◌||◌, Bool, true, false, cond, not, List, [], ◌∷◌, filter, Option, Some, None, refl, sym, ap, ◌∙◌, subst, true≢false}
use Rattle.std.specs.List.{list_any}
use Rattle.std.specs.Option.{option_map_or}
use Rattle.std.proofs.lemmas.Bool.{or_right}
use Rattle.std.proofs.lemmas.Option.{same_Some}
use Rattle.net_base.specs.declared.numbers.DpId.{DpId}
use Rattle.conf_types.specs.declared.state.HostRec.{HostRec}
use Rattle.conf_types.specs.State.{is_to_forget}
use Rattle.of13_codec.specs.declared.message.Message.{Message}
use Rattle.of13_codec.specs.declared.message.Message.TheVariants as messages
use Rattle.of13_codec.specs.declared.packet_in.PacketIn.{PacketIn}
use Rattle.flow_messages.specs.Messages.{delete_all}
use Rattle.switch_session.specs.declared.closing.Closing.{Closing}
use Rattle.switch_session.specs.declared.closing.Closing.TheVariants.{BadFrame}
use Rattle.switch_session.specs.declared.state.Stage.{Stage}
use Rattle.switch_session.specs.declared.state.Stage.TheVariants.{Greeting, Features, Ports, Wiping, Running, Shut}
use Rattle.switch_session.specs.declared.state.Step.{Step}
use Rattle.switch_session.specs.declared.state.Step.TheVariants as steps
use Rattle.switch_session.specs.Stages.{State as Session, leads}
use Rattle.switch_session.specs.Staying.{is_passed, leaves}
use Rattle.ctl_world.specs.declared.conns.Conn.{Conn}
use Rattle.ctl_world.specs.Connections.{change, conn_with, with_asked, with_dp, with_heard, with_said, without}
use Rattle.ctl_world.specs.Ends.{close, ended, forget_lost, stands}
use Rattle.ctl_world.specs.Saying.{ask, packet_out, say, say_by}
use Rattle.ctl_world.specs.World.{World, now, running, ups}
use Rattle.ctl_settle.specs.declared.plans.Held.{Held}
use Rattle.ctl_settle.specs.Touched.{AllFollow}
use Rattle.ctl_settle.specs.Names.{Names}
use Rattle.ctl_settle.proofs.Following.{named_follow}
use Rattle.conf_types.specs.Changes.{AreNamed}
use Rattle.ctl_core.specs.declared.found.Found.TheVariants.{Named}
use Rattle.ctl_core.specs.Behind.{behind}
use Rattle.ctl_core.specs.Changes.{Changes}
use Rattle.ctl_core.specs.Found.{Tells}
use Rattle.ctl_core.specs.Hearing.{follow, hear_message, packet}
use Rattle.ctl_core.specs.Turns.{pass}
use Rattle.ctl_core.proofs.Behind.{behind_named}
use Rattle.ctl_core.proofs.Walk.{Setup, Steps, heard_kept, pass_kept, wants_by, with_any}

-- the configuration stays, and the hosts that are known were
pub record NoneIsNew (before behind : World) : Type 0 where
  pub conf : behind.conf ≡ before.conf
  pub hosts : (test : HostRec → Bool) → list_any test behind.hosts.hosts ≡ true → list_any test before.hosts.hosts ≡ true

or_more : (a b c : Bool) → (b ≡ true → c ≡ true) → (a || b) ≡ true → (a || c) ≡ true
or_more true b c more is = refl
or_more false b c more is = more is

any_left : {A : Type 0} (test keep : A → Bool) (xs : List A) → list_any test (filter keep xs) ≡ true → list_any test xs ≡ true
any_left test keep [] is = is
any_left test keep (x ∷ xs) is = by (keep x) is (λ e. any_left test keep xs e)
  where
    by : (b : Bool) → list_any test (cond b (x ∷ filter keep xs) (filter keep xs)) ≡ true → (list_any test (filter keep xs) ≡ true → list_any test xs ≡ true) → (test x || list_any test xs) ≡ true
    by true some more = or_more (test x) (list_any test (filter keep xs)) (list_any test xs) more some
    by false some more = or_right (test x) (list_any test xs) (more some)

-- a packet leaves the state of its connection
packet_passes : (stage : Stage) (s : Session) (p : PacketIn) (xid : ℕ) → is_passed stage s (messages.PacketIn p) xid ≡ true
packet_passes Greeting s p xid = refl
packet_passes Features s p xid = refl
packet_passes Ports s p xid = refl
packet_passes Wiping s p xid = refl
packet_passes Running s p xid = refl
packet_passes Shut s p xid = refl

module _ (w : World) where
  abbrev K : World → Type 0
  K v = NoneIsNew w v

  same : K w
  same = record { conf = refl; hosts = λ test is. is }

  lost : (v : World) (conns : List Conn) → K v → K (forget_lost (record v { conns = conns }))
  lost v conns kept =
      let u : World = record v { conns = conns } in
      record { conf = kept.conf; hosts = λ test is. kept.hosts test (any_left test (stands (running u) (ups u)) v.hosts.hosts is) }

  said : (number : ℕ) (m : Message) (v : World) → K v → K (say number m v)
  said number m v kept = with_any K (say_by with_said m v) (conn_with v.conns number) v (λ c. record { conf = kept.conf; hosts = kept.hosts }) kept

  asked : (number : ℕ) (m : Message) (v : World) → K v → K (ask number m v)
  asked number m v kept = with_any K (say_by with_asked m v) (conn_with v.conns number) v (λ c. record { conf = kept.conf; hosts = kept.hosts }) kept

  closed : (cause : Closing) (number : ℕ) (v : World) → K v → K (close cause number v)
  closed cause number v kept = let left = lost v (without number v.conns) kept in record { conf = left.conf; hosts = left.hosts }

  single : Steps K
  single = record {
    sends = λ number out v kept. said number (packet_out out) v kept;
    asks_echo = λ number v kept. said number (messages.EchoRequest []) v kept;
    closes = λ cause number v at kept. closed cause number v kept;
    looks = λ number v kept. record { conf = kept.conf; hosts = kept.hosts };
    shows = λ moment v kept. record { conf = kept.conf; hosts = kept.hosts };
    ages = λ v kept. record { conf = kept.conf; hosts = λ test is. kept.hosts test (any_left test (λ h. not (is_to_forget v.conf v.moment.0 h)) v.hosts.hosts is) };
    wants = λ group v kept. wants_by K group v (record { conf = kept.conf; hosts = kept.hosts }) kept;
    tells = λ text v kept. record { conf = kept.conf; hosts = kept.hosts };
  }

  setup : Setup K
  setup = record {
    hears = λ m xid number v kept. lost v (change number (with_heard m xid) v.conns) kept;
    features = λ number v kept. said number messages.FeaturesRequest v kept;
    takes = λ number dp v kept. lost v (change number (with_dp dp) v.conns) kept;
    ports = λ number v kept. asked number messages.PortDescRequest v kept;
    wipes = λ number v kept. asked number messages.BarrierRequest (say number delete_all v) (said number delete_all v kept);
    answers = λ number payload xid v at kept. record { conf = kept.conf; hosts = kept.hosts };
    refuses = λ number xid v at kept. record { conf = kept.conf; hosts = kept.hosts };
  }

  pub closed_new : (cause : Closing) (number : ℕ) → NoneIsNew w (close cause number w)
  closed_new cause number = closed cause number w same

  pub ended_new : (cause : Closing) (number : ℕ) → NoneIsNew w (ended cause number w)
  ended_new cause number = let left = lost w (without number w.conns) same in record { conf = left.conf; hosts = left.hosts }

  pub passed_new : (moment : ℕ) → NoneIsNew w (pass moment w)
  passed_new moment = pass_kept K single moment w same

  -- ---- a message that changes the state of its connection

  packet_new : (m : Message) (xid : ℕ) (s : Session) → leaves s m xid ≡ false → (number : ℕ) (dp : Option DpId) (v : World) → K v → K (packet m number dp v)
  packet_new (messages.PacketIn p) xid s changes number (Some dp) v kept = absurd (true≢false (sym (packet_passes s.stage s p xid) ∙ changes))
  packet_new m xid s changes number dp v kept = kept

  module _ (m : Message) (xid number : ℕ) (dp : Option DpId) where
    message_by : (o : Option Conn) → Changes m xid dp o → NoneIsNew w (hear_message m xid number w)
    message_by (Some d) is =
        heard_kept K single setup (Some (m, xid))
        (λ s it n e v kept. subst (λ (t : Message × ℕ). K (packet t.0 n e v)) (same_Some (m, xid) s it) (packet_new m xid d.session.state is.1 n e v kept))
        number w (closed BadFrame number w same) same
    message_by None is = absurd is

    pub message_new : Changes m xid dp (conn_with w.conns number) → NoneIsNew w (hear_message m xid number w)
    message_new is = message_by (conn_with w.conns number) is

    -- the step that the code took
    followed_by : (o : Option Conn) → Changes m xid dp o → (step : Step) → step ≡ option_map_or (λ c. (leads c.session.state m xid).1) o steps.Nothing → (v : World)
        → follow step m xid number dp v ≡ option_map_or (λ c. follow (leads c.session.state m xid).1 m xid number c.dp v) o w
    followed_by (Some d) is step it v = ap (λ s. follow s m xid number dp v) it ∙ ap (λ e. follow (leads d.session.state m xid).1 m xid number e v) (sym is.0)
    followed_by None is step it v = absurd is

    pub followed : Changes m xid dp (conn_with w.conns number) → (step : Step) → step ≡ option_map_or (λ c. (leads c.session.state m xid).1) (conn_with w.conns number) steps.Nothing
        → follow step m xid number dp (forget_lost (record w { conns = change number (with_heard m xid) w.conns })) ≡ hear_message m xid number w
    followed is step it = followed_by (conn_with w.conns number) is step it (forget_lost (record w { conns = change number (with_heard m xid) w.conns }))

-- ---- so all that differs is told

module _ (w v : World) (none : NoneIsNew w v) where
  pub behind_names : Names w v (behind v.conf (now w) (now v))
  behind_names = record {
    conf = none.conf;
    named = subst (λ conf. AreNamed w.conf (now w) (now v) (behind conf (now w) (now v))) (sym none.conf) (behind_named w.conf (now w) (now v) none.hosts);
  }

  pub behind_tells : Tells w v (Named (Some (behind v.conf (now w) (now v))))
  behind_tells = (none.conf, behind_names.named)

  pub behind_follow : (held : List Held) → AllFollow w (Some []) held → AllFollow v (Some (behind v.conf (now w) (now v))) held
  behind_follow held all = named_follow w v (behind v.conf (now w) (now v)) behind_names held all
