use Rattle.recording.specs.Kinds.{number_of}
use Rattle.recording.proofs.Writing.{laid_layout}
use Rattle.recording.proofs.put.put_read.Goals as goal

pub returns-clause-spelled : goal.returns-clause-spelled
returns-clause-spelled c = λ len. laid_layout c.args.moment (number_of c.args.kind) c.args.conn c.args.body.now c.ranges.moment.fits c.ranges.conn.fits len
