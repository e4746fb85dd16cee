use Rattle.std.proofs.Common.{Bool, sym, ap, subst, ◌∙◌, if◌then◌else◌}
use Rattle.std.proofs.lemmas.Result.{on_ok_weaker}
use Rattle.ctl_world.specs.Connections.{is_open}
use Rattle.ctl_world.specs.World.{World}
use Rattle.gauge_poll.specs.declared.known.Kept.{Kept}
use Rattle.gauge_poll.specs.Monitoring.{opened}
use Rattle.gauge_poll.specs.StandsFor.{KeepsAll}
use Rattle.gauge_poll.proofs.Monitors.{opened_kept}
use Rattle.gauge_poll.proofs.turns.opened.Goals as goal

pub returns-then-is_open : goal.returns-then-is_open
returns-then-is_open c = λ m all.
    subst (λ (b : Bool). KeepsAll c.args.kept.now (if b then m else opened c.args.conn m)) (sym c.if-is_open.true ∙ c.is_open.ensures ∙ ap (λ (w : World). is_open w.conns c.args.conn) all.said.world) all

pub returns : goal.returns
returns c =
    let after : Kept = record { watchers = c.args.kept.now.watchers; known = record { world = c.open.new.world; newest = c.forget.new.self; parts = c.forget-2.new.self }; lines = c.args.kept.now.lines } in
    on_ok_weaker c.open.result
    (λ is m all. subst (λ (b : Bool). KeepsAll after (if b then m else opened c.args.conn m)) (sym c.if-is_open.false ∙ c.is_open.ensures ∙ ap (λ (w : World). is_open w.conns c.args.conn) all.said.world)
    (opened_kept c.args.conn c.args.kept.now m all c.open.new.world is c.forget.new.self c.forget.ensures c.forget-2.new.self c.forget-2.ensures))
    c.open.ensures
