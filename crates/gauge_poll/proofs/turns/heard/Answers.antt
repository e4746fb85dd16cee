use Rattle.std.proofs.Common.{Bool, length, ap, subst, ◌∙◌, if◌then◌else◌}
use Rattle.std.proofs.lemmas.Result.{on_ok_weaker}
use Rattle.ctl_world.specs.Connections.{is_open}
use Rattle.ctl_world.specs.World.{World}
use Rattle.ctl_life.specs.Life.{feed, unread}
use Rattle.gauge_poll.specs.Monitoring.{hear_all, hear_frames, with_world}
use Rattle.gauge_poll.specs.StandsFor.{KeepsAll}
use Rattle.gauge_poll.proofs.Monitors.{all_by, feed_within}
use Rattle.gauge_poll.proofs.turns.heard.Goals as goal

pub returns-then-not-is_open : goal.returns-then-not-is_open
returns-then-not-is_open c = λ m all.
    subst (λ (b : Bool). KeepsAll c.args.kept.now (if b then hear_all c.args.conn (with_world (feed c.args.conn c.args.piece.now) m) else m))
    (c.if-not-is_open.ensures ∙ ap (λ (w : World). is_open w.conns c.args.conn) all.said.world) all

pub returns : goal.returns
returns c =
    let number = c.args.conn in
    let piece = c.args.piece.now in
    on_ok_weaker c.hear_frames.result
    (λ hears m all.
    let fed = all_by (feed number piece) (feed_within number piece) c.args.kept.now m c.feed.new.world c.in_ok-feed.ensures all in
    let most = c.unread_len-most.ensures ∙ ap (λ (w : World). length (unread number w)) fed.said.world in
    subst (λ (b : Bool). KeepsAll c.hear_frames.new.kept (if b then hear_all number (with_world (feed number piece) m) else m))
    (c.if-not-is_open.ensures ∙ ap (λ (w : World). is_open w.conns number) all.said.world)
    (subst (λ n. KeepsAll c.hear_frames.new.kept (hear_frames n number (with_world (feed number piece) m))) most (hears (with_world (feed number piece) m) fed)))
    c.hear_frames.ensures
