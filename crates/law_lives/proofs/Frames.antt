-- When a frame is heard that lets learn no host, those stay that stand still.
use Rattle.std.proofs.Common.{◌≡◌, ℕ, Bool, true, Option, Some, None, List, [], ◌∷◌, refl, sym, ap, ◌∙◌}
use Rattle.std.specs.Option.{option_map, option_map_or}
use Rattle.net_base.specs.declared.numbers.DpId.{DpId}
use Rattle.conf_types.specs.declared.state.HostRec.{HostRec}
use Rattle.of13_codec.specs.declared.message.Message.{Message}
use Rattle.of13_codec.specs.declared.message.Message.TheVariants as messages
use Rattle.flow_messages.specs.Messages.{delete_all}
use Rattle.switch_session.specs.declared.closing.Closing.{Closing}
use Rattle.switch_session.specs.declared.closing.Closing.TheVariants.{BadFrame, WrongVersion}
use Rattle.switch_session.specs.declared.state.Step.{Step}
use Rattle.switch_session.specs.declared.state.Step.TheVariants as steps
use Rattle.switch_session.specs.Stages.{leads}
use Rattle.ctl_world.specs.declared.conns.Conn.{Conn}
use Rattle.ctl_world.specs.Connections.{change, conn_with, with_heard}
use Rattle.ctl_world.specs.Ends.{forget_lost}
use Rattle.ctl_world.specs.Saying.{repeat, say}
use Rattle.ctl_world.specs.World.{IsSound, World}
use Rattle.ctl_world.proofs.SoundEnds.{nothing_lost}
use Rattle.ctl_life.specs.Life.{echo, turn_away}
use Rattle.ctl_world.proofs.Numbered.{changed_own}
use Rattle.ctl_core.specs.Hearing.{follow, hear_frame, hear_on, unfit, wipe}
use Rattle.law_lives.proofs.Speaking.{asked_stays, begun_stays, said_stays}
use Rattle.law_lives.proofs.Apart.{AreApart, change_apart}
use Rattle.law_lives.proofs.Behind.{Behind, step_led}
use Rattle.law_lives.proofs.Standing.{Keeps, close_keeps, introduce_keeps, speaks}

-- in a sound world all stand
pub all_stand : (w : World) → IsSound w → AreApart w.conns → Keeps w.hosts.hosts w
all_stand w sound apart = record { known = sym (ap (λ (v : World). v.hosts.hosts) (nothing_lost w sound)); apart = apart }

module _ (w : World) (sound : IsSound w) (apart : AreApart w.conns) (on : ℕ) where
  abbrev Kept : World → Type 0
  Kept v = Keeps w.hosts.hosts v

  module _ (m : Message) (xid : ℕ) (c : Conn) (at : conn_with w.conns on ≡ Some c) where
    abbrev changed_by : World
    changed_by = forget_lost (record w { conns = change on (with_heard m xid) w.conns })

    heard_one : Kept changed_by
    heard_one = record { known = refl; apart = change_apart (with_heard m xid) (λ d. refl) on w.conns apart }

    -- its connection has the state behind the message
    own_state : (d : Conn) → conn_with changed_by.conns on ≡ Some d → d ≡ with_heard m xid c
    own_state d some =
        let both : Some d ≡ Some (with_heard m xid c) = sym some ∙ changed_own (with_heard m xid) (λ k. refl) on w.conns ∙ ap (option_map (with_heard m xid)) at in
        cc

    echoed : (k : Message) (v : World) → Kept v → Kept (echo k on xid v)
    echoed (messages.EchoRequest payload) v kept = record { known = kept.known; apart = kept.apart }
    echoed k v kept = kept

    turned_away : (cause : Closing) (v : World) → Kept v → Kept (turn_away cause on xid v)
    turned_away WrongVersion v kept = close_keeps w.hosts.hosts WrongVersion on (repeat on (messages.Error 0 0 []) xid v) (record { known = kept.known; apart = kept.apart })
    turned_away cause v kept = close_keeps w.hosts.hosts cause on v kept

    follow_keeps : (step : Step) (dp : Option DpId) → Behind c.session.state m (leads c.session.state m xid).0 step → (step ≡ steps.Packet → ⊥) → Kept (follow step m xid on dp changed_by)
    follow_keeps steps.Nothing dp led other = heard_one
    follow_keeps steps.AskFeatures dp led other = said_stays Kept (speaks w.hosts.hosts) on messages.FeaturesRequest changed_by heard_one
    follow_keeps (steps.Features id n_tables auxiliary) dp led other =
        introduce_keeps w.hosts.hosts on id (unfit changed_by.conf id n_tables auxiliary) changed_by
        (λ d some. ap (λ (k : Conn). k.session.state.stage) (own_state d some) ∙ led) heard_one
    follow_keeps steps.PortsKnown dp led other =
        asked_stays Kept (speaks w.hosts.hosts) on messages.BarrierRequest (say on delete_all changed_by) (said_stays Kept (speaks w.hosts.hosts) on delete_all changed_by heard_one)
    follow_keeps steps.Wiped dp led other = begun_stays Kept (speaks w.hosts.hosts) dp changed_by heard_one
    follow_keeps steps.Settled dp led other = heard_one
    follow_keeps (steps.PortChanged port) dp led other = heard_one
    follow_keeps steps.Packet dp led other = absurd (other refl)
    follow_keeps steps.Echo dp led other = echoed m changed_by heard_one
    follow_keeps (steps.Close cause) dp led other = turned_away cause changed_by heard_one

    pub message_keeps : ((leads c.session.state m xid).1 ≡ steps.Packet → ⊥) → Kept (hear_on m xid on w c)
    message_keeps other = follow_keeps (leads c.session.state m xid).1 c.dp (step_led c.session.state m xid) other

  pub bad_keeps : Kept (hear_frame None on w)
  bad_keeps = close_keeps w.hosts.hosts BadFrame on w (all_stand w sound apart)
