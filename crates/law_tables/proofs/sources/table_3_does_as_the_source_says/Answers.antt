use Rattle.law_tables.proofs.TableOfSources.{law}
use Rattle.law_tables.proofs.sources.table_3_does_as_the_source_says.Goals as goal

pub returns : goal.returns
returns c = λ conf now d setting. law conf now d setting
