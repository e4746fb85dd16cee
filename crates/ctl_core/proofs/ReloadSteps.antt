-- What an accepted configuration does, step by step.
use Rattle.std.proofs.Common.{◌≡◌, ℕ, List, ap, ◌∙◌}
use Rattle.conf_types.specs.Configuration.{Configuration}
use Rattle.ctl_world.specs.World.{World}
use Rattle.ctl_core.specs.Reloading.{close_each, renew, strays, want_all}

pub accept_steps : (next : Configuration) (w w1 w2 : World) (gone : List ℕ) → gone ≡ strays next w.conns → w1 ≡ close_each gone w → w2 ≡ renew next w1
    → want_all w2 ≡ want_all (renew next (close_each (strays next w.conns) w))
accept_steps next w w1 w2 gone is_gone closes renews =
    ap want_all (renews ∙ ap (renew next) (closes ∙ ap (λ (numbers : List ℕ). close_each numbers w) is_gone))
