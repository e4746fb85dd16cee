use Rattle.fg_outside.specs.Counts.{Rose}
use Rattle.faucet_top.proofs.TopLemmas.{told_replied}
use Rattle.faucet_top.proofs.laws.what_is_replied_is_the_answer.Goals as goal

pub returns : goal.returns
returns c = λ job held m0 m1 n0 n1 refused a whole is reply. told_replied held (Rose m0 m1) (Rose n0 n1) refused job a whole is reply
