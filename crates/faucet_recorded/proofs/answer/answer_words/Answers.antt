use Rattle.faucet_recorded.proofs.answer.answer_words.Goals as goal

pub returns : goal.returns
returns g c = rw c.from.ensures c.faucet_recorded-status.ensures.gives
