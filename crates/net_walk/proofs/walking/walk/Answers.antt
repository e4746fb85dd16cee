use Rattle.std.proofs.Common.{ap}
use Rattle.packet_way.specs.Present.{state_of}
use Rattle.net_walk.specs.Kept.{units_left}
use Rattle.net_walk.proofs.Units.{begun_within, ended_within}
use Rattle.net_walk.proofs.walking.walk.Goals as goal

pub returns-in_err-push_arrivals-clause-most : goal.returns-in_err-push_arrivals-clause-most
returns-in_err-push_arrivals-clause-most g c =
    begun_within c.args.conf.now (state_of c.args.now.now) (g.T.Tally.count c.args.units.now) (g.T.Tally.count c.push_arrivals.new.units) _ (ap (units_left c.args.conf.now (state_of c.args.now.now)) c.new-kept.ensures) c.in_err-push_arrivals.ensures.most_of_all

pub returns-clause-most : goal.returns-clause-most
returns-clause-most g c =
    ended_within c.args.conf.now (state_of c.args.now.now) (g.T.Tally.count c.args.units.now) (g.T.Tally.count c.push_arrivals.new.units) _ _ (ap (units_left c.args.conf.now (state_of c.args.now.now)) c.new-kept.ensures) c.in_ok-push_arrivals.ensures.most
