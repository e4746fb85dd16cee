use Rattle.std.proofs.Common.{ℕ, List, [], ◌∷◌, ◌++◌, Result, refl, ap, ◌∙◌}
use Rattle.std.specs.Prelude.{codes}
use Rattle.conf_types.specs.Configuration.{Configuration}
use Rattle.ctl_world.specs.declared.said.Said.TheVariants.{Line}
use Rattle.ctl_world.specs.World.{World}
use Rattle.ctl_settle.specs.Settling.{settle}
use Rattle.ctl_core.specs.Reloading.{reload}
use Rattle.ctl_core.proofs.laws.a_refused_reload_changes_nothing.Goals as goal

pub returns : goal.returns
returns c = λ text cause w rests refused.
    let left : World = record w { said = Line (codes "reload: " ++ cause) ∷ [] } in
    ap (λ (read : Result Configuration (List ℕ)). settle (reload read (record w { said = [] }))) refused
    ∙ c.what_rests_settles_as_it_is.ensures left
    (c.alike_worlds_rest_alike.ensures.rest left w (record { conf = refl; moment = refl; conns = refl; hosts = refl; neighbours = refl }) rests)
