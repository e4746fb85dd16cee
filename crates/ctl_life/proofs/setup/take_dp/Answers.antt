use Rattle.std.proofs.Common.{ap, ◌∙◌}
use Rattle.std.proofs.lemmas.Result.{on_ok_weaker}
use Rattle.ctl_world.specs.Ends.{forget_lost}
use Rattle.ctl_life.proofs.setup.take_dp.Goals as goal

pub returns : goal.returns
returns c = on_ok_weaker c.forget_lost.result (λ is. is ∙ ap (λ cs. forget_lost (record c.args.world.now { conns = cs })) c.set_dp.ensures) c.forget_lost.ensures
