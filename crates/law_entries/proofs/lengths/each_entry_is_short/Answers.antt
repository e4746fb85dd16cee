use Rattle.law_entries.proofs.ShortPlan.{law}
use Rattle.law_entries.proofs.lengths.each_entry_is_short.Goals as goal

pub returns : goal.returns
returns c = λ conf now d setting. law conf now d setting
