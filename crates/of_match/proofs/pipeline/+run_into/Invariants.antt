use Rattle.std.proofs.Common.{◌-◌}
use Rattle.of_match.proofs.pipeline.+run_into.Given as goal

abbrev pub decreases-run_into : goal.decreases-run_into
decreases-run_into l = 256 - l.table
