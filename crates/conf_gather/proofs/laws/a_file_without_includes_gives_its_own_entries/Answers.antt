use Rattle.conf_gather.proofs.OwnEntries.{own_gathered}
use Rattle.conf_gather.proofs.laws.a_file_without_includes_gives_its_own_entries.Goals as goal

pub returns : goal.returns
returns c = own_gathered
