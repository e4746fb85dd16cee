use Rattle.law_tables.proofs.AclPorts.{law}
use Rattle.law_tables.proofs.acls.table_0_does_as_the_ports_say.Goals as goal

pub returns : goal.returns
returns c = λ conf now d setting. law conf now d setting
