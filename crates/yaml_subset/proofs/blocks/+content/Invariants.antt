use Rattle.std.proofs.Common.{◌+◌, ◌*◌}
use Rattle.yaml_subset.proofs.blocks.+content.Given as goal

abbrev pub decreases-content : goal.decreases-content
decreases-content l = 2 * l.levels

abbrev pub decreases-behind_dash : goal.decreases-behind_dash
decreases-behind_dash l = 2 * l.levels + 1
