use Rattle.stack_paths.proofs.LawLemmas.{hop_exists}
use Rattle.stack_paths.proofs.laws.a_next_hop_is_one_link_nearer.Goals as goal

pub returns-clause-nearer : goal.returns-clause-nearer
returns-clause-nearer c = λ s a b p (e, q, hop). (e, q, hop.nearer.rest, hop.nearer.link, hop.nearer.from_here, hop.nearer.from_there)

pub returns-clause-exists : goal.returns-clause-exists
returns-clause-exists c = λ s is a b n far. let hop = hop_exists s is a b n far in (hop.0, (hop.1, hop.2, hop.3))
