use Rattle.std.proofs.Common.{refl, map, ap, ◌∙◌}
use Rattle.ctl_world.specs.World.{World}
use Rattle.ctl_life.specs.Sayings.{saying_of}
use Rattle.gauge_poll.proofs.Turned.{started}
use Rattle.gauge_poll.proofs.gauge.Gauge.turn.Goals as goal

pub returns-clause-known : goal.returns-clause-known
returns-clause-known c = λ m stands.
    let done = c.in_ok-work_through.ensures _ (started c.args.self.now m stands _ _ c.new.ensures c.new-2.ensures) in
    record { unspent = refl; watchers = done.watchers; said = done.said }

pub returns-clause-says : goal.returns-clause-says
returns-clause-says c = λ m stands.
    let done = c.in_ok-work_through.ensures _ (started c.args.self.now m stands _ _ c.new.ensures c.new-2.ensures) in
    c.in_ok-sayings.ensures ∙ ap (map saying_of) c.as_slice.ensures ∙ ap (λ (w : World). map saying_of w.said) done.said.world

pub returns-clause-lines : goal.returns-clause-lines
returns-clause-lines c = λ m stands.
    let done = c.in_ok-work_through.ensures _ (started c.args.self.now m stands _ _ c.new.ensures c.new-2.ensures) in
    c.replace-lines.ensures.value ∙ done.lines
