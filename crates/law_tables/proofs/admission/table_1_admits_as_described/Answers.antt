use Rattle.law_tables.proofs.Admissions.{law}
use Rattle.law_tables.proofs.admission.table_1_admits_as_described.Goals as goal

pub returns : goal.returns
returns c = λ conf now d setting. law conf now d setting
