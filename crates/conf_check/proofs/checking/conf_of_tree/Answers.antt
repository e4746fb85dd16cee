use Rattle.std.proofs.lemmas.Result.{IfErr-weaker}
use Rattle.conf_check.proofs.Steps.{tree_made, tree_broken, tree_misshaped}
use Rattle.conf_check.proofs.checking.conf_of_tree.Goals as goal

pub returns-in-Ok-clause-accepted : goal.returns-in-Ok-clause-accepted
returns-in-Ok-clause-accepted c =
    tree_made c.args.tree.now c.in-Ok.raw c.check.result c.in-Ok.ensures.right c.in-Ok.ensures.raw c.check.ensures.accepted c.check.ensures.unbroken

pub returns-in-Ok-clause-refused : goal.returns-in-Ok-clause-refused
returns-in-Ok-clause-refused c =
    IfErr-weaker c.check.result _ _ (λ e broken. tree_broken c.args.tree.now c.in-Ok.raw e c.in-Ok.ensures.right c.in-Ok.ensures.raw broken) c.check.ensures.refused

pub returns-in-Err-clause-refused : goal.returns-in-Err-clause-refused
returns-in-Err-clause-refused c = tree_misshaped c.args.tree.now c.in-Err.refused c.in-Err.ensures.refused
