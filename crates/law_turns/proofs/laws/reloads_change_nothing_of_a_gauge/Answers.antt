use Rattle.law_turns.proofs.Watched.{known_without, lines_without}
use Rattle.law_turns.proofs.laws.reloads_change_nothing_of_a_gauge.Goals as goal

pub returns-clause-known : goal.returns-clause-known
returns-clause-known c = λ m story. known_without m story

pub returns-clause-lines : goal.returns-clause-lines
returns-clause-lines c = λ m story. lines_without m story
