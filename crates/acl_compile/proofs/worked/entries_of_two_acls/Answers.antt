use Rattle.std.proofs.Common.{refl}
use Rattle.acl_compile.proofs.worked.entries_of_two_acls.Goals as goal

pub returns-clause-port : goal.returns-clause-port
returns-clause-port c = refl

pub returns-clause-vlan : goal.returns-clause-vlan
returns-clause-vlan c = refl
