use Rattle.law_stories.proofs.laws.after_each_turn_nothing_waits.Goals as goal

pub returns : goal.returns
returns c = λ conf story. (c.after_each_turn_it_rests.ensures conf story).batches
