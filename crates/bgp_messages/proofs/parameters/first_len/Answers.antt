use Rattle.std.proofs.Common.{◌+◌, arith}
use Rattle.bgp_messages.proofs.Opens.{parameter_begins, parameter_cut}
use Rattle.bgp_messages.proofs.parameters.first_len.Goals as goal

pub returns-then-bytes-len-clause-none : goal.returns-then-bytes-len-clause-none
returns-then-bytes-len-clause-none c = parameter_cut c.args.bytes.now (omega (arith, c.if-bytes-len.true, c.from-len.ensures, c.u8_at.ensures))

pub returns-else-bytes-len-clause-found : goal.returns-else-bytes-len-clause-found
returns-else-bytes-len-clause-found c =
    parameter_begins (2 + c.from-len.result) c.args.bytes.now (omega (arith, c.from-len.ensures, c.u8_at.ensures)) (omega (arith, c.if-bytes-len.false))
