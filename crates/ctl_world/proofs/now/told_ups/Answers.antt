use Rattle.std.proofs.Common.{◌∙◌}
use Rattle.std.proofs.lemmas.Result.{IfOk-weaker}
use Rattle.conf_types.specs.declared.datapath.Port.{Port}
use Rattle.conf_types.specs.declared.state.UpRec.{UpRec}
use Rattle.ctl_world.proofs.Told.{same_ups}
use Rattle.ctl_world.proofs.now.told_ups.Goals as goal

pub returns : goal.returns
returns c =
    let dp = c.args.dp.now in
    let at : Port → UpRec = λ p. record { dp = dp.id; port = p.no } in
    IfOk-weaker c.ups_among.result _ _ (λ ups is. is ∙ same_ups at c.in_ok-up.up c.args.told.now dp.ports c.in_ok-up.ensures) c.ups_among.ensures
