use Rattle.std.proofs.Common.{rules}
use Rattle.recording.proofs.reader.Reader.next.Goals as goal

pub returns-in_err-header-clause-refuses : goal.returns-in_err-header-clause-refuses
returns-in_err-header-clause-refuses g c = λ cause is before. c.in_err-header.ensures.refuses cause (search rules) before

pub returns-in_err-read_body-clause-refuses : goal.returns-in_err-read_body-clause-refuses
returns-in_err-read_body-clause-refuses g c = λ cause is before. c.in_err-read_body.ensures.refuses cause (search rules)
