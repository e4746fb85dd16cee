use Rattle.std.proofs.lemmas.Result.{on_ok_weaker}
use Rattle.ctl_world.specs.Ends.{close}
use Rattle.ctl_life.specs.Life.{replace, take_dp}
use Rattle.gauge_poll.proofs.Keeping.{kept_by}
use Rattle.gauge_poll.proofs.Opens.{close_within, replace_within, take_dp_within}
use Rattle.gauge_poll.proofs.setup.introduce.Goals as goal

pub returns-in-Some : goal.returns-in-Some
returns-in-Some c =
    let number = c.args.conn in
    let cause = c.in-Some.cause in
    rw c.in-Some.is (on_ok_weaker c.close.result (λ is s keeps. kept_by (close cause number) (close_within cause number) c.args.known.now s c.close.new.self is keeps) c.close.ensures)

pub returns-in_ok-take_dp-in-None : goal.returns-in_ok-take_dp-in-None
returns-in_ok-take_dp-in-None c =
    let number = c.args.conn in
    let dp = c.args.dp in
    let k = c.args.known.now in
    let replaced = c.replace.new.world in
    rw c.in-None.is (on_ok_weaker c.poll_first.result
    (λ does s keeps. does (record s { world = take_dp number dp (replace dp s.world) })
    (kept_by (take_dp number dp) (take_dp_within number dp) (record k { world = replaced }) (record s { world = replace dp s.world }) c.take_dp.new.world c.in_ok-take_dp-in-None.ensures
    (kept_by (replace dp) (replace_within dp) k s replaced c.in_ok-replace-in-None.ensures keeps)))
    c.poll_first.ensures)
