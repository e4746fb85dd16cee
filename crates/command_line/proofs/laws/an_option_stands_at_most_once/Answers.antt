use Rattle.command_line.proofs.Grammar.{what_is_parted, what_is_written}
use Rattle.command_line.proofs.Once.{once, distinct}
use Rattle.command_line.proofs.laws.an_option_stands_at_most_once.Goals as goal

pub returns : goal.returns
returns c = record {
  once = λ words parts e. let is = what_is_parted words parts e in (is.0, once parts.options is.1);
  parted = λ words parts is all. what_is_written words parts is (distinct parts.options all);
}
