-- What is known between the steps of a story is sound, and no two connections are of one datapath.
use Rattle.std.proofs.Common.{◌≡◌, ℕ, true, Option, Some, None, List, [], ◌∷◌, Result, Ok, Err, map, refl, sym, subst, ◌∙◌, if◌then◌else◌}
use Rattle.std.specs.Option.{option_map_or}
use Rattle.net_base.specs.declared.numbers.DpId.{DpId}
use Rattle.conf_types.specs.Configuration.{Configuration}
use Rattle.of13_codec.specs.declared.message.Message.{Message}
use Rattle.of13_codec.specs.declared.message.Message.TheVariants as messages
use Rattle.switch_session.specs.declared.closing.Closing.{Closing}
use Rattle.switch_session.specs.declared.state.Step.{Step}
use Rattle.switch_session.specs.declared.state.Step.TheVariants as steps
use Rattle.switch_session.specs.Stages.{leads}
use Rattle.ctl_world.specs.declared.conns.Conn.{Conn}
use Rattle.ctl_world.specs.Connections.{change, conn_with, is_open, with_fed, with_heard}
use Rattle.ctl_world.specs.Ends.{close, ended, forget_lost}
use Rattle.ctl_world.specs.Frames.{with_read}
use Rattle.ctl_world.specs.Saying.{packet_out}
use Rattle.ctl_world.specs.World.{IsSound, World}
use Rattle.ctl_core.specs.Settlings.{settle}
use Rattle.ctl_life.specs.Life.{feed, open_conn, read}
use Rattle.ctl_life.specs.Silence.{look_each, show}
use Rattle.ctl_life.proofs.Openings.{fresh, with_fresh}
use Rattle.ctl_core.specs.Hearing.{follow, hear_frame, hear_on, packet}
use Rattle.ctl_core.specs.Reloading.{accepted, close_each, reload, renew, strays}
use Rattle.ctl_core.specs.Turns.{pass}
use Rattle.ctl_core.proofs.PacketSteps.{packet_kept}
use Rattle.law_stories.proofs.StorySound.{StandsSound}
use Rattle.law_stories.proofs.StoryTurns.{Keeps}
use Rattle.law_lives.proofs.Fixed.{Any}
use Rattle.law_lives.proofs.Speaking.{Speaks, looks_stay, said_stays, settle_stays, strays_stay, wanted_stays}
use Rattle.law_lives.proofs.Apart.{AreApart, change_apart, put_apart, without_apart}
use Rattle.law_lives.proofs.Frames.{message_keeps}

-- ---- no two connections are of one datapath

abbrev Apart : World → Type 0
Apart w = AreApart w.conns

speaks : Speaks Apart
speaks = record {
  changes = λ f is number w apart. change_apart f is.dp number w.conns apart;
  says = λ number m xid w at apart. apart;
  meets = λ neighbours w apart. apart;
}

closes : (cause : Closing) (number : ℕ) (w : World) → Any number cause → is_open w.conns number ≡ true → Apart w → Apart (close cause number w)
closes cause number w any at apart = without_apart number w.conns apart

settled : (w : World) → Apart w → Apart (settle w)
settled w apart = settle_stays Apart speaks w apart

opened_apart : (number : ℕ) (w : World) → Apart w → Apart (open_conn number w)
opened_apart number w apart =
    said_stays Apart speaks number (messages.Hello 4 (Some 16)) (with_fresh number w) (put_apart (fresh number w) refl w.conns apart)

fed_apart : (number : ℕ) (piece : List ℕ) (w : World) → Apart w → Apart (feed number piece w)
fed_apart number [] w apart = change_apart (with_fed [] w.moment) (λ c. refl) number w.conns apart
fed_apart number (byte ∷ piece) w apart = change_apart (with_fed (byte ∷ piece) w.moment) (λ c. refl) number w.conns apart

message_apart : (m : Message) (xid on : ℕ) (w : World) (c : Conn) → conn_with w.conns on ≡ Some c → IsSound w → Apart w → Apart (hear_on m xid on w c)
message_apart m xid on w c at sound apart = by (leads c.session.state m xid).1 refl
  where
    changed : World
    changed = forget_lost (record w { conns = change on (with_heard m xid) w.conns })

    other : ((leads c.session.state m xid).1 ≡ steps.Packet → ⊥) → Apart (hear_on m xid on w c)
    other apart_from = (message_keeps w sound apart on m xid c at apart_from).apart

    by : (step : Step) → (leads c.session.state m xid).1 ≡ step → Apart (hear_on m xid on w c)
    by steps.Packet is =
        subst (λ (step : Step). Apart (follow step m xid on c.dp changed)) (sym is)
        (packet_kept (λ conf conns said. AreApart conns) (λ number out v kept. said_stays Apart speaks number (packet_out out) v kept) m on c.dp changed (change_apart (with_heard m xid) (λ d. refl) on w.conns apart))
    by steps.Nothing is = other (λ packet. let e : steps.Nothing ≡ steps.Packet = sym is ∙ packet in cc)
    by steps.AskFeatures is = other (λ packet. let e : steps.AskFeatures ≡ steps.Packet = sym is ∙ packet in cc)
    by (steps.Features id n_tables auxiliary) is = other (λ packet. let e : steps.Features id n_tables auxiliary ≡ steps.Packet = sym is ∙ packet in cc)
    by steps.PortsKnown is = other (λ packet. let e : steps.PortsKnown ≡ steps.Packet = sym is ∙ packet in cc)
    by steps.Wiped is = other (λ packet. let e : steps.Wiped ≡ steps.Packet = sym is ∙ packet in cc)
    by steps.Settled is = other (λ packet. let e : steps.Settled ≡ steps.Packet = sym is ∙ packet in cc)
    by (steps.PortChanged port) is = other (λ packet. let e : steps.PortChanged port ≡ steps.Packet = sym is ∙ packet in cc)
    by steps.Echo is = other (λ packet. let e : steps.Echo ≡ steps.Packet = sym is ∙ packet in cc)
    by (steps.Close cause) is = other (λ packet. let e : steps.Close cause ≡ steps.Packet = sym is ∙ packet in cc)

heard_apart : (heard : Option (Message × ℕ)) (on : ℕ) (w : World) → IsSound w → Apart w → Apart (hear_frame heard on w)
heard_apart None on w sound apart = without_apart on w.conns apart
heard_apart (Some s) on w sound apart = by (conn_with w.conns on) refl
  where
    by : (o : Option Conn) → conn_with w.conns on ≡ o → Apart (option_map_or (hear_on s.0 s.1 on w) o w)
    by None at = apart
    by (Some c) at = message_apart s.0 s.1 on w c at sound apart

passed_apart : (moment : ℕ) (w : World) → Apart w → Apart (pass moment w)
passed_apart moment w apart = looks_stay Apart speaks Any closes (λ n. tt) (map (λ (c : Conn). c.number) w.conns) (show moment w) apart

reloaded_apart : (read : Result Configuration (List ℕ)) (w : World) → Apart w → Apart (reload read w)
reloaded_apart (Ok next) w apart =
    let left : World = close_each (strays next w.conns) w in
    wanted_stays Apart speaks (renew next left) (strays_stay Apart speaks Any closes (λ n. tt) (strays next w.conns) w apart)
reloaded_apart (Err cause) w apart = apart

-- ---- both

abbrev pub Stands : World → Type 0
Stands w = StandsSound w × AreApart w.conns

pub keeps_stands : Keeps StandsSound → Keeps Stands
keeps_stands keeps = record {
  unsaid = λ w stands. (keeps.unsaid w stands.0, stands.1);
  opens = λ number w shut stands. (keeps.opens number w shut stands.0, settled (open_conn number w) (opened_apart number w stands.1));
  feeds = λ number piece w stands. (keeps.feeds number piece w stands.0, fed_apart number piece w stands.1);
  reads = λ number w stands. (keeps.reads number w stands.0, change_apart with_read (λ c. refl) number w.conns stands.1);
  hears = λ said number w stands. (keeps.hears said number w stands.0, settled (hear_frame said number w) (heard_apart said number w stands.0.1 stands.1));
  ends = λ cause number w stands. (keeps.ends cause number w stands.0, settled (ended cause number w) (without_apart number w.conns stands.1));
  passes = λ moment w stands. (keeps.passes moment w stands.0, settled (pass moment w) (passed_apart moment w stands.1));
  reloads = λ text w stands. (keeps.reloads text w stands.0, settled (reload (accepted text) w) (reloaded_apart (accepted text) w stands.1));
}
