use Rattle.host_list.proofs.Spots.{raised}
use Rattle.host_list.proofs.counts.raise.Goals as goal

pub returns-in-Ok-clause-counts : goal.returns-in-Ok-clause-counts
returns-in-Ok-clause-counts c = raised c.args.counts.now c.insert.new.self c.args.spot c.count-more.result (c.in-Ok.ensures.updates) c.count-more.ensures
