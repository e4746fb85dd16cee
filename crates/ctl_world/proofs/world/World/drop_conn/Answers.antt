use Rattle.std.proofs.Common.{ap, ◌∙◌}
use Rattle.std.proofs.lemmas.Result.{on_ok_weaker}
use Rattle.ctl_world.specs.Ends.{forget_lost}
use Rattle.ctl_world.proofs.world.World.drop_conn.Goals as goal

pub returns : goal.returns
returns c = on_ok_weaker c.forget_lost.result (λ is. is ∙ ap (λ cs. forget_lost (record c.args.self.now { conns = cs })) c.remove.ensures) c.forget_lost.ensures
