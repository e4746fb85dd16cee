use Rattle.std.proofs.Common.{refl}
use Rattle.net_base.specs.AddressReading.{ip4_of, number_of, number_up_to}
use Rattle.command_line.specs.Parts.{parted, parts_of}
use Rattle.command_line.specs.Recorded.{recorded_meaning}
use Rattle.command_line.proofs.worked.recorded_words.Goals as goal

pub returns-clause-all : goal.returns-clause-all
unfolding recorded_meaning parts_of parted ip4_of number_up_to number_of
returns-clause-all c = refl

pub returns-clause-defaults : goal.returns-clause-defaults
unfolding recorded_meaning parts_of parted ip4_of number_up_to number_of
returns-clause-defaults c = refl
