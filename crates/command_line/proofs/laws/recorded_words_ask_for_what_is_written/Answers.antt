use Rattle.command_line.proofs.Asked.{asked_to_record, meant_to_record}
use Rattle.command_line.proofs.laws.recorded_words_ask_for_what_is_written.Goals as goal

pub returns : goal.returns
returns c = record { asked = asked_to_record; meant = meant_to_record }
