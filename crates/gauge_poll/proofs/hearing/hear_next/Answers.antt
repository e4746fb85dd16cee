use Rattle.std.proofs.Common.{sym, ◌∙◌}
use Rattle.switch_session.specs.declared.closing.Closing.TheVariants.{BadFrame}
use Rattle.ctl_world.specs.declared.frames.Front.TheVariants.{Part, Frame, Bad}
use Rattle.ctl_world.specs.Ends.{close}
use Rattle.ctl_life.specs.Life.{read}
use Rattle.gauge_poll.specs.declared.known.Kept.{Kept}
use Rattle.gauge_poll.specs.Monitoring.{with_world}
use Rattle.gauge_poll.proofs.Monitors.{all_by, next_by, read_within}
use Rattle.gauge_poll.proofs.Opens.{close_within}
use Rattle.gauge_poll.proofs.hearing.hear_next.Goals as goal

pub returns-in-Part-clause-heard : goal.returns-in-Part-clause-heard
returns-in-Part-clause-heard c = λ m all.
    let number = c.args.conn in
    let k = c.args.kept.now in
    let world = c.read_front.new.world in
    let left : Kept = record k { known = record k.known { world = world } } in
    next_by number k left m all Part (sym c.in-Part.is ∙ c.in_ok-read_front.ensures.front) (all_by (read number) (read_within number) k m world c.in_ok-read_front.ensures.read all)

pub returns-in_ok-hear_frame-in-Frame-clause-heard : goal.returns-in_ok-hear_frame-in-Frame-clause-heard
returns-in_ok-hear_frame-in-Frame-clause-heard c = λ m all.
    let number = c.args.conn in
    let k = c.args.kept.now in
    next_by number k c.hear_frame.new.kept m all (Frame c.in-Frame.frame) (sym c.in-Frame.is ∙ c.in_ok-read_front.ensures.front)
    (rw (sym c.as_slice.ensures) (c.in_ok-hear_frame-in-Frame.ensures (with_world (read number) m) (all_by (read number) (read_within number) k m c.read_front.new.world c.in_ok-read_front.ensures.read all)))

pub returns-in_ok-close-in-Bad-clause-heard : goal.returns-in_ok-close-in-Bad-clause-heard
returns-in_ok-close-in-Bad-clause-heard c = λ m all.
    let number = c.args.conn in
    let k = c.args.kept.now in
    let world = c.read_front.new.world in
    let read_one : Kept = record k { known = record k.known { world = world } } in
    let left : Kept = record k { known = record k.known { world = c.close.new.self } } in
    next_by number k left m all Bad (sym c.in-Bad.is ∙ c.in_ok-read_front.ensures.front)
    (all_by (close BadFrame number) (close_within BadFrame number) read_one (with_world (read number) m) c.close.new.self c.in_ok-close-in-Bad.ensures
    (all_by (read number) (read_within number) k m world c.in_ok-read_front.ensures.read all))
