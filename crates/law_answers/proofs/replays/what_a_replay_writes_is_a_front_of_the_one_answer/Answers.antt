use Rattle.std.proofs.Common.{refl}
use Rattle.fg_outside.specs.Counts.{Rose}
use Rattle.conf_load.specs.Loaded.{loaded}
use Rattle.gauge_load.specs.Loaded.{gauge_of}
use Rattle.ctl_world.specs.World.{first}
use Rattle.gauge_poll.specs.Monitoring.{begun}
use Rattle.hub_drive.specs.declared.sayings.Outlet.TheVariants.{Nowhere, Records}
use Rattle.ctl_drive.specs.Controller.{controller}
use Rattle.gauge_drive.specs.Gauge.{monitor}
use Rattle.law_answers.proofs.Fronts.{gives_front}
use Rattle.law_answers.proofs.Replies.{gave_gauge, gave_replay}
use Rattle.law_answers.proofs.replays.what_a_replay_writes_is_a_front_of_the_one_answer.Goals as goal

pub returns : goal.returns
returns c = record {
  replay = λ config recording held conf story refused is a0 a1 f0 f1 status name o0 o1 e0 e1 m0 m1 n0 n1 gives.
      gives_front controller Records (first conf) held recording story refused is.tells (Rose a0 a1) (Rose f0 f1) loaded first config conf is.accepted refl name status o0 o1 e0 e1 m0 m1 n0 n1
      (gave_replay held config recording story refused (Rose a0 a1) (Rose f0 f1) name status o0 o1 e0 e1 m0 m1 n0 n1 conf is gives);
  gauge = λ config recording held conf story refused is a0 a1 f0 f1 status name o0 o1 e0 e1 m0 m1 n0 n1 gives.
      gives_front monitor Nowhere (begun conf) held recording story refused is.tells (Rose a0 a1) (Rose f0 f1) gauge_of begun config conf is.accepted refl name status o0 o1 e0 e1 m0 m1 n0 n1
      (gave_gauge held config recording story refused (Rose a0 a1) (Rose f0 f1) name status o0 o1 e0 e1 m0 m1 n0 n1 conf is gives);
}
