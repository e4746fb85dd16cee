use Rattle.std.proofs.lemmas.Result.{on_ok_weaker}
use Rattle.of13_codec.specs.declared.message.Message.TheVariants.{FeaturesRequest}
use Rattle.ctl_world.specs.Saying.{say}
use Rattle.ctl_life.specs.Life.{turn_away}
use Rattle.gauge_poll.proofs.Keeping.{kept_by}
use Rattle.gauge_poll.proofs.Opens.{say_within, turn_away_within}
use Rattle.gauge_poll.proofs.hearing.follow.Goals as goal

pub returns-in-AskFeatures : goal.returns-in-AskFeatures
returns-in-AskFeatures c =
    let number = c.args.conn in
    rw c.in-AskFeatures.is (on_ok_weaker c.say.result (λ is s keeps. kept_by (say number FeaturesRequest) (say_within number FeaturesRequest) c.args.known.now s c.say.new.self is keeps) c.say.ensures)

pub returns-in-Close : goal.returns-in-Close
returns-in-Close c =
    let number = c.args.conn in
    let cause = c.in-Close.cause in
    rw c.in-Close.is (on_ok_weaker c.turn_away.result (λ is s keeps. kept_by (turn_away cause number c.args.xid) (turn_away_within cause number c.args.xid) c.args.known.now s c.turn_away.new.world is keeps) c.turn_away.ensures)
