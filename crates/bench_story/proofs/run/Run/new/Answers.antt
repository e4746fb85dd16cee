use Rattle.std.proofs.Common.{◌∙◌, Some, ap}
use Rattle.ctl_world.specs.World.{first}
use Rattle.conf_types.specs.Configuration.{Configuration}
use Rattle.bench_story.proofs.Runs.{begins}
use Rattle.bench_story.proofs.run.Run.new.Goals as goal

pub returns : goal.returns
returns c = begins _ (c.in_ok-controller.ensures ∙ ap (λ (conf : Configuration). Some (first conf)) c.in_ok-conf.ensures) c.none.ensures c.new-2.ensures
