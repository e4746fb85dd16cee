use Rattle.std.proofs.Common.{◌≡◌, List, ap, ◌∙◌}
use Rattle.std.proofs.lemmas.Result.{on_ok_weaker}
use Rattle.net_base.specs.declared.numbers.DpId.{DpId}
use Rattle.neighbour_resolve.specs.Asks.{in_order}
use Rattle.ctl_world.specs.World.{running}
use Rattle.ctl_settle.specs.Settling.{ask_by_each}
use Rattle.ctl_settle.proofs.Asked.{each_asks}
use Rattle.ctl_settle.proofs.asking.ask_for.Goals as goal

pub returns : goal.returns
returns c =
    let w = c.args.world.now in
    let dps : c.as_slice-2.result.now ≡ in_order (running w) = cc (c.in_ok-dps.ensures, c.in_ok-running.ensures) in
    on_ok_weaker c.ask_by_each.result (λ e. e ∙ ap (λ (ds : List DpId). ask_by_each c.args.group c.args.vid c.args.ip ds w) dps ∙ each_asks c.args.group c.args.vid c.args.ip w) c.ask_by_each.ensures
