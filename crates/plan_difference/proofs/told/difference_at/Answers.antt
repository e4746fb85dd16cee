use Rattle.std.proofs.Common.{◌∙◌, ◌++◌, List, sym, ap, append-nil}
use Rattle.std.specs.List.{flat_map}
use Rattle.of_match.specs.declared.entry.Key.{Key}
use Rattle.plan_difference.specs.Difference.{change_at}
use Rattle.plan_difference.proofs.Walked.{walked}
use Rattle.plan_difference.proofs.told.difference_at.Goals as goal

pub returns : goal.returns
returns c =
    sym (append-nil c.loop-key.batch) ∙ ap (λ (ks : List Key). c.loop-key.batch ++ flat_map (change_at c.args.from.now c.args.to.now) ks) (sym c.in-None.ensures.steps.0) ∙ c.loop-key.invariant
    ∙ walked c.args.to.now c.args.from.now c.args.keys.now.keys c.iter-from.ensures.ordered c.iter-to.ensures.ordered c.len-keys.ensures.ordered c.requires
