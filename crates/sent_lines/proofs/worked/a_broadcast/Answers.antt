use Rattle.std.proofs.Common.{refl}
use Rattle.std.specs.Fmt.{digits}
use Rattle.sent_lines.proofs.worked.a_broadcast.Goals as goal

pub returns-clause-tagged : goal.returns-clause-tagged
unfolding digits
returns-clause-tagged c = refl

pub returns-clause-untagged : goal.returns-clause-untagged
unfolding digits
returns-clause-untagged c = refl
