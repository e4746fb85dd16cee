use Rattle.std.proofs.Common.{◌+◌, ◌*◌, nat_le, true, Option, ap, ◌∙◌}
use Rattle.std.specs.Option.{option_map_or}
use Rattle.ctl_world.specs.World.{World}
use Rattle.gauge_poll.specs.declared.poll.Poll.{Poll}
use Rattle.gauge_poll.proofs.polling.is_due.Goals as goal

pub returns-in-Some : goal.returns-in-Some
returns-in-Some c = λ s keeps there.
    let seconds = c.args.watcher.now.interval in
    c.has_passed.ensures
    ∙ ap (λ (w : World). nat_le (c.in-Some.poll.moment.0 + 1000 * seconds) w.moment.0) keeps.world
    ∙ ap (λ (o : Option Poll). option_map_or (λ (p : Poll). nat_le (p.moment.0 + 1000 * seconds) s.world.moment.0) o true) (c.in-Some.ensures ∙ keeps.polls c.args.conn c.args.place there)

pub returns-in-None : goal.returns-in-None
returns-in-None c = λ s keeps there.
    let seconds = c.args.watcher.now.interval in
    ap (λ (o : Option Poll). option_map_or (λ (p : Poll). nat_le (p.moment.0 + 1000 * seconds) s.world.moment.0) o true) (c.in-None.ensures ∙ keeps.polls c.args.conn c.args.place there)
