use Rattle.std.proofs.Common.{arith}
use Rattle.command_line.proofs.Numerals.{ip4_found, ip4_not}
use Rattle.command_line.proofs.values.ip4_in.Goals as goal

pub returns-in-Some : goal.returns-in-Some
returns-in-Some c = ip4_found c.args.text.now _ (omega arith) c.in-Some.ensures.found

pub returns-in-None : goal.returns-in-None
returns-in-None c = ip4_not c.args.text.now c.in-None.ensures.none
