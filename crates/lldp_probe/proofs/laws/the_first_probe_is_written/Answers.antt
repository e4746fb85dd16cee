use Rattle.std.proofs.Common.{refl}
use Rattle.of_wire.specs.Parts.{number}
use Rattle.lldp_probe.proofs.laws.the_first_probe_is_written.Goals as goal

pub returns : goal.returns
unfolding number
returns c = refl
