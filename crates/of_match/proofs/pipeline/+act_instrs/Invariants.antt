use Rattle.std.proofs.Common.{length}
use Rattle.of_match.proofs.pipeline.+act_instrs.Given as goal

abbrev pub decreases-act_instrs : goal.decreases-act_instrs
decreases-act_instrs l = length l.instrs.now
