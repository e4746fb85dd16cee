use Rattle.std.proofs.Common.{ap, ◌∙◌}
use Rattle.std.proofs.lemmas.Result.{on_ok_weaker}
use Rattle.ctl_world.specs.Ends.{close}
use Rattle.ctl_life.proofs.hearing.turn_away.Goals as goal

pub returns : goal.returns
returns c = on_ok_weaker c.close.result (λ is. is ∙ ap (close c.args.cause c.args.conn) c.in_ok-tell_version.ensures) c.close.ensures
