use Rattle.command_line.proofs.Grammar.{what_is_parted, what_is_written}
use Rattle.command_line.proofs.laws.parts_are_what_is_written.Goals as goal

pub returns : goal.returns
returns c = record { parted = what_is_parted; written = what_is_written }
