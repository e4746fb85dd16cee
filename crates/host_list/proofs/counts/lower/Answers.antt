use Rattle.host_list.proofs.Spots.{lowered}
use Rattle.host_list.proofs.counts.lower.Goals as goal

pub returns-in-Ok-clause-counts : goal.returns-in-Ok-clause-counts
returns-in-Ok-clause-counts c = lowered c.args.counts.now c.insert.new.self c.args.spot c.count-fewer.result (c.in-Ok.ensures.updates) c.count-fewer.ensures c.requires
