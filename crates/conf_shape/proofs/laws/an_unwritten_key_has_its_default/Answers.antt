use Rattle.std.proofs.Common.{◌-◌, ◌^◌}
use Rattle.conf_shape.specs.Reads.{value_at, flag_of, number_of, text_of, default_of, default_flag, default_number, default_text}
use Rattle.conf_shape.proofs.Written.{unread}
use Rattle.conf_shape.proofs.laws.an_unwritten_key_has_its_default.Goals as goal

pub returns : goal.returns
returns c = record {
  flags = λ m pairs name e. unread flag_of (value_at name pairs) (default_flag (default_of m name)) e;
  numbers = λ m pairs name e. unread (number_of 0 (2 ^ 32 - 1)) (value_at name pairs) (default_number (default_of m name)) e;
  texts = λ m pairs name own e. unread text_of (value_at name pairs) (default_text own (default_of m name)) e;
}
