use Rattle.conf_shape.specs.Reads.{default_of, default_flag, default_number, default_text}
use Rattle.conf_shape.proofs.Written.{flag_stands, number_stands, text_stands}
use Rattle.conf_shape.proofs.laws.a_written_value_stands.Goals as goal

pub returns : goal.returns
returns c = record {
  flags = λ m pairs name t right v takes. flag_stands m pairs name t right v (default_flag (default_of m name)) takes;
  numbers = λ m pairs name t low high right v takes small. number_stands m pairs name t right v low high (default_number (default_of m name)) small takes;
  texts = λ m pairs name t scalar own right v takes alone. text_stands m pairs name t right v scalar (default_text own (default_of m name)) alone takes;
}
