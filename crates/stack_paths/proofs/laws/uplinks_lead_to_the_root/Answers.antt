use Rattle.stack_paths.proofs.LawLemmas.{all_lead}
use Rattle.stack_paths.proofs.laws.uplinks_lead_to_the_root.Goals as goal

pub returns : goal.returns
returns c = all_lead
