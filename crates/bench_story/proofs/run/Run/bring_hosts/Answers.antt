use Rattle.bench_story.proofs.Runs.{none_came, one_more}
use Rattle.bench_story.proofs.run.Run.bring_hosts.Goals as goal

pub loop-host-init : goal.loop-host-init
loop-host-init g c = λ stands. none_came _ stands

pub loop-host-preserved : goal.loop-host-preserved
loop-host-preserved g c = λ stands. one_more _ c.loop-host.host (c.in_ok-bring_host.ensures _ (c.loop-host.invariant stands))
