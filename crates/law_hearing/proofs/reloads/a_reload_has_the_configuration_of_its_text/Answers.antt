use Rattle.law_hearing.proofs.ReadTexts.{text_accepted, text_refused}
use Rattle.law_hearing.proofs.reloads.a_reload_has_the_configuration_of_its_text.Goals as goal

pub returns : goal.returns
returns c = let read = c.a_text_is_read_by_the_grammar.ensures in record {
  accepted = λ text. text_accepted text (read.tree text) (read.fault text);
  refused = λ text. text_refused text (read.tree text) (read.fault text);
}
