use Rattle.std.proofs.Common.{◌≡◌, ℕ, ◌++◌, List, arith}
use Rattle.of13_codec.specs.Messages.{written}
use Rattle.of13_codec.specs.Spelling.{Spells}
use Rattle.of13_codec.proofs.Spelled.{on_ok}
use Rattle.of13_codec.proofs.Written.{message_written}
use Rattle.of13_codec.proofs.codec.encode.Goals as goal

pub returns-clause-spelled : goal.returns-clause-spelled
returns-clause-spelled c = λ w fits.
    on_ok c.put_message.result (c.put_message.new.out ≡ c.args.out.now ++ written c.args.message.now c.args.xid)
    ((added : List ℕ) × (c.put_message.new.out ≡ c.args.out.now ++ added) × Spells c.args.message.now c.args.xid added)
    (λ e. (written c.args.message.now c.args.xid, e, message_written c.args.message.now c.args.xid w fits (omega (arith, c.ranges.xid)))) c.put_message.ensures.ok
