use Rattle.ctl_core.specs.Story.{behind}
use Rattle.ctl_world.specs.World.{first}
use Rattle.law_traces.proofs.Sent.{sent_cold}
use Rattle.law_traces.proofs.laws.a_ready_datapath_was_sent_its_cold_start.Goals as goal

pub returns : goal.returns
returns c = λ conf story id valid ready.
    sent_cold (behind (first conf) story) id (λ conn runs at. c.after_each_turn_nothing_waits.ensures conf story id runs conn at) ready
