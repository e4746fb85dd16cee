use Rattle.std.proofs.Common.{length}
use Rattle.conf_shape.proofs.addresses.+is_masked.Given as goal

abbrev pub decreases-is_masked : goal.decreases-is_masked
decreases-is_masked l = length l.value.now
