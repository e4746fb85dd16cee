use Rattle.law_keys.proofs.Defaults.{flag_default, number_default, text_default}
use Rattle.law_keys.proofs.keys.what_is_not_written_is_the_default_of_its_line.Goals as goal

pub returns : goal.returns
returns c = record {
  flags = λ m l pairs listed unwritten. flag_default m l pairs listed unwritten;
  numbers = λ m l pairs listed unwritten. number_default m l pairs listed unwritten;
  texts = λ m l pairs own listed unwritten. text_default m l pairs listed unwritten own;
}
