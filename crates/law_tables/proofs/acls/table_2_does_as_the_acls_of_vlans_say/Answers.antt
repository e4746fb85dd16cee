use Rattle.law_tables.proofs.VlanAcls.{law}
use Rattle.law_tables.proofs.acls.table_2_does_as_the_acls_of_vlans_say.Goals as goal

pub returns : goal.returns
returns c = λ conf now d setting. law conf now d setting
