use Rattle.of13_codec.specs.Messages.{written}
use Rattle.of13_codec.proofs.Written.{message_written, one_message}
use Rattle.of13_codec.proofs.laws.written_message_is_spelled.Goals as goal

pub returns-clause-spelled : goal.returns-clause-spelled
returns-clause-spelled c = message_written

pub returns-clause-alone : goal.returns-clause-alone
returns-clause-alone c = λ m n xid id w fits small p. one_message n m id xid (written m xid) p (message_written m xid w fits small)
