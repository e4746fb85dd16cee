use Rattle.command_line.proofs.Asked.{asked, meant}
use Rattle.command_line.proofs.laws.words_ask_for_what_is_written.Goals as goal

pub returns : goal.returns
returns c = record { asked = asked; meant = meant }
