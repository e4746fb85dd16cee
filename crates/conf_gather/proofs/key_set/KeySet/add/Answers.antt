use Rattle.std.proofs.Common.{string_bytes, ◌∙◌}
use Rattle.conf_gather.proofs.KnownLemmas.{text_more}
use Rattle.conf_gather.proofs.key_set.KeySet.add.Goals as goal

pub returns-in_ok-insert-in-Text : goal.returns-in_ok-insert-in-Text
returns-in_ok-insert-in-Text c =
    rw c.in-Text.is (text_more (string_bytes c.in_ok-text-in-Text.text) c.in-Text.text c.args.self.now.ints c.args.self.now.texts c.insert-in-Text.new.self (c.in_ok-text-in-Text.ensures.ok ∙ c.as_str.ensures) c.in_ok-insert-in-Text.ensures.updates)
