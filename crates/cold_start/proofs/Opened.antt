-- What a switch holds after a wipe and adds, in whichever order it does what stands between two barriers.
use Rattle.std.proofs.Common.{◌≡◌, List, [], ◌∷◌, map, ap, ◌∙◌}
use Rattle.of_match.specs.declared.entry.Entry.{Entry}
use Rattle.of_match.specs.declared.entry.Command.TheVariants.{Add, DeleteAll}
use Rattle.of_match.specs.Settled.{after_all, SettlesInTurn}
use Rattle.of_match.proofs.Settling.{settles_once, wiped}
use Rattle.plan_base.specs.Accepted.{HaveDistinctKeys}
use Rattle.cold_start.proofs.Permuted.{distinct_adds}

pub opened : (es : List Entry) → HaveDistinctKeys es → (held settled : List Entry) → SettlesInTurn held ((DeleteAll ∷ []) ∷ map Add es ∷ []) settled → settled ≡ after_all [] (map Add es)
opened es apart held settled (none, wipe, (whole, adds, last)) =
    last ∙ settles_once none (map Add es) whole (distinct_adds es apart) adds ∙ ap (λ xs. after_all xs (map Add es)) (wiped held none wipe)
