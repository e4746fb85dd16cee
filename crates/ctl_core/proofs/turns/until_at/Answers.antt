use Rattle.std.proofs.Common.{arith}
use Rattle.ctl_core.proofs.turns.until_at.Goals as goal

pub returns-then-until-moment-clause-rests : goal.returns-then-until-moment-clause-rests
returns-then-until-moment-clause-rests c = c.rests_until.ensures.rests (c.requires.rests c.args.world.now.moment.0 (omega arith) c.if-world-until.true).0
