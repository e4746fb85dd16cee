use Rattle.of13_codec.proofs.Written.{one_message}
use Rattle.of13_codec.proofs.laws.bytes_spell_one_message.Goals as goal

pub returns : goal.returns
returns c = one_message
