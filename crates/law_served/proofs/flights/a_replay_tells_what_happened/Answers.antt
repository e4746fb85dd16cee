use Rattle.fg_outside.specs.Counts.{Rose}
use Rattle.law_served.proofs.Replaying.{replayed_story, replayed_streams}
use Rattle.law_served.proofs.flights.a_replay_tells_what_happened.Goals as goal

pub returns : goal.returns
returns c = record {
  story = replayed_story;
  written = λ conf happened bytes name contents absences_old absences_new faults_old faults_new out_old out err_old err refused.
      replayed_streams conf happened bytes name contents (Rose absences_old absences_new) (Rose faults_old faults_new) out_old out err_old err refused;
}
