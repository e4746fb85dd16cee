use Rattle.law_tables.proofs.TablesOfRoutes.{law}
use Rattle.law_tables.proofs.routes.tables_4_to_6_route_as_described.Goals as goal

pub returns : goal.returns
returns c = λ conf now d setting. law conf now d setting
