use Rattle.std.proofs.Common.{refl}
use Rattle.std.specs.Fmt.{digits}
use Rattle.sent_lines.proofs.worked.tags_and_lifetimes.Goals as goal

pub returns-clause-tags : goal.returns-clause-tags
unfolding digits
returns-clause-tags c = refl

pub returns-clause-ttl : goal.returns-clause-ttl
unfolding digits
returns-clause-ttl c = refl

pub returns-clause-hops : goal.returns-clause-hops
unfolding digits
returns-clause-hops c = refl
