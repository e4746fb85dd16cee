use Rattle.gauge_poll.specs.Monitoring.{begun}
use Rattle.gauge_drive.specs.Gauge.{monitor}
use Rattle.law_recordings.proofs.Told.{one_story, some_story}
use Rattle.law_answers.proofs.replays.records_tell_gauge_one_story.Goals as goal

pub returns : goal.returns
returns c = record { some = λ conf. some_story monitor (begun conf); one = λ conf. one_story monitor (begun conf) }
