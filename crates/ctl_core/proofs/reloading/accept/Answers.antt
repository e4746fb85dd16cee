use Rattle.std.proofs.Common.{◌≡◌, ◌∙◌, OnOk, ap, subst}
use Rattle.ctl_world.specs.World.{World}
use Rattle.ctl_core.specs.Reloading.{strays}
use Rattle.ctl_core.proofs.ReloadSteps.{accept_steps}
use Rattle.ctl_core.proofs.reloading.accept.Goals as goal

pub returns : goal.returns
returns c =
    let is_gone : c.as_slice-2.result.now ≡ strays c.args.next c.args.world.now.conns = c.as_slice-2.ensures.value ∙ c.in_ok-gone.ensures ∙ ap (strays c.args.next) c.as_slice.ensures in
    subst (λ (made : World). OnOk c.want_all.result (c.want_all.new.world ≡ made))
    (accept_steps c.args.next c.args.world.now c.close_each.new.world c.renew.new.world c.as_slice-2.result.now is_gone c.in_ok-close_each.ensures c.in_ok-renew.ensures)
    c.want_all.ensures
