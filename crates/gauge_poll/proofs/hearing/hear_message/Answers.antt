use Rattle.std.proofs.Common.{◌≡◌, true, false, None, Option, List, sym, ap, subst, ◌∙◌}
use Rattle.std.specs.Option.{option_and_then, option_map_or}
use Rattle.std.proofs.lemmas.Result.{on_ok_weaker}
use Rattle.ctl_world.specs.declared.conns.Conn.{Conn}
use Rattle.ctl_world.specs.Connections.{conn_with, is_open}
use Rattle.ctl_world.specs.World.{World}
use Rattle.ctl_world.proofs.Numbered.{shut_none}
use Rattle.gauge_conf.specs.declared.gauge.Watcher.{Watcher}
use Rattle.gauge_poll.specs.declared.telling.Telling.{Telling}
use Rattle.gauge_poll.specs.Monitoring.{dp_on, follow, hear_on, told_on}
use Rattle.gauge_poll.specs.StandsFor.{Keeps, KeepsAll}
use Rattle.gauge_poll.proofs.Monitors.{message_kept}
use Rattle.gauge_poll.proofs.hearing.hear_message.Goals as goal

pub returns-then-not-is_open : goal.returns-then-not-is_open
returns-then-not-is_open c = λ m all.
    let number = c.args.conn in
    let shut : is_open c.args.kept.now.known.world.conns number ≡ false = sym c.if-not-is_open.ensures in
    let none : conn_with m.said.world.conns number ≡ None = ap (λ (w : World). conn_with w.conns number) (sym all.said.world) ∙ shut_none number c.args.kept.now.known.world.conns shut in
    subst (KeepsAll c.args.kept.now) (ap (λ (o : Option Conn). option_map_or (hear_on c.args.message.now c.args.xid number m) o m) (sym none)) all

pub returns : goal.returns
returns c =
    let number = c.args.conn in
    let xid = c.args.xid in
    let mid = c.tell.new.kept in
    let there : is_open c.args.kept.now.known.world.conns number ≡ true = sym c.if-not-is_open.ensures in
    on_ok_weaker c.follow.result
    (λ follows m all.
    message_kept c.args.message.now xid number m mid (ap (λ (w : World). is_open w.conns number) (sym all.said.world) ∙ there)
    (subst (λ (told : Telling). KeepsAll mid (told_on told xid number (option_and_then (dp_on m.said.world) (conn_with m.said.world.conns number)) m)) c.requires (c.in_ok-tell.ensures m all there))
    c.hear.new.self c.in_ok-step.ensures.noted c.in_ok-step.step c.in_ok-step.ensures.step c.follow.new.known
    (λ s keeps. subst (λ (ws : List Watcher). Keeps c.follow.new.known (follow ws c.in_ok-step.step c.args.message.now xid number s)) c.as_slice.ensures (follows s keeps)))
    c.follow.ensures
