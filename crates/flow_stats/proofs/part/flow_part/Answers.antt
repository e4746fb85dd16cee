use Rattle.std.proofs.Common.{arith}
use Rattle.flow_stats.proofs.Answered.{answers, is_read}
use Rattle.flow_stats.proofs.part.flow_part.Goals as goal

pub returns-clause-answers : goal.returns-clause-answers
returns-clause-answers c = answers c.args.body.now c.read_part.result (record { small = λ i. omega (arith, c.type_inv.body i) }) c.read_part.ensures.exact

pub returns-clause-read : goal.returns-clause-read
returns-clause-read c = λ part s. is_read c.args.body.now c.read_part.result part (answers c.args.body.now c.read_part.result (record { small = λ i. omega (arith, c.type_inv.body i) }) c.read_part.ensures.exact) s
