use Rattle.std.proofs.Common.{Bool, ap, subst, ◌∙◌, if◌then◌else◌}
use Rattle.ctl_world.specs.Connections.{is_open}
use Rattle.ctl_world.specs.Ends.{ended}
use Rattle.ctl_world.specs.World.{World}
use Rattle.ctl_life.specs.Life.{closing_for}
use Rattle.gauge_poll.specs.declared.known.Kept.{Kept}
use Rattle.gauge_poll.specs.declared.known.Known.{Known}
use Rattle.gauge_poll.specs.Monitoring.{with_world}
use Rattle.gauge_poll.specs.StandsFor.{KeepsAll}
use Rattle.gauge_poll.proofs.Monitors.{all_by, forgot_kept}
use Rattle.gauge_poll.proofs.Opens.{ended_within}
use Rattle.gauge_poll.proofs.turns.closed.Goals as goal

pub returns-then-not-is_open : goal.returns-then-not-is_open
returns-then-not-is_open c = λ m all.
    subst (λ (b : Bool). KeepsAll c.args.kept.now (if b then with_world (ended (closing_for c.args.cause) c.args.conn) m else m))
    (c.if-not-is_open.ensures ∙ ap (λ (w : World). is_open w.conns c.args.conn) all.said.world) all

pub returns : goal.returns
returns c = λ m all.
    let number = c.args.conn in
    let cause = closing_for c.args.cause in
    let k : Kept = c.args.kept.now in
    let left : Known = record k.known { world = c.end.new.self } in
    let is = c.in_ok-end.ensures ∙ ap (λ x. ended x number k.known.world) c.closing_for.ensures in
    let gone = all_by (ended cause number) (ended_within cause number) k m c.end.new.self is all in
    subst (λ (b : Bool). KeepsAll (record k { known = record left { newest = c.forget_shut.new.newest; parts = c.forget_shut.new.parts } }) (if b then with_world (ended cause number) m else m))
    (c.if-not-is_open.ensures ∙ ap (λ (w : World). is_open w.conns number) all.said.world)
    (record {
      watchers = gone.watchers;
      said = forgot_kept left _ c.forget_shut.new.newest c.forget_shut.new.parts c.forget_shut.ensures.polls c.forget_shut.ensures.waits gone.said;
      lines = gone.lines;
    })
