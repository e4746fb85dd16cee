-- What was replied to `replay` and to `gauge`, as the reply to a run by a configuration.
use Rattle.std.proofs.Common.{ℕ, inl, inr, List, Option, Some, Ok, Err, refl}
use Rattle.fg_outside.specs.declared.hub.Happening.{Happening}
use Rattle.fg_outside.specs.Contents.{Contents}
use Rattle.conf_types.specs.Configuration.{Configuration}
use Rattle.gauge_conf.specs.declared.gauge.GaugeConf.{GaugeConf}
use Rattle.conf_load.specs.Loaded.{loaded}
use Rattle.gauge_load.specs.Loaded.{gauge_of}
use Rattle.command_line.specs.declared.meaning.Job.TheVariants.{Gauge, Replay}
use Rattle.recording.specs.declared.refused.RecordRefused.{RecordRefused}
use Rattle.ctl_world.specs.World.{first}
use Rattle.gauge_poll.specs.Monitoring.{begun}
use Rattle.hub_drive.specs.declared.sayings.Outlet.TheVariants.{Nowhere, Records}
use Rattle.ctl_drive.specs.Controller.{controller}
use Rattle.gauge_drive.specs.Gauge.{monitor}
use Rattle.faucet_top.specs.Answer.{Answer, GaugeLoad, Load}
use Rattle.faucet_top.specs.Given.{Gives, RepliesGauge, RepliesReplay}
use Rattle.law_answers.specs.Answers.{IsGaugeOf, IsReplayOf}
use Rattle.law_answers.proofs.Fronts.{Given, RepliesBy}

module _ (held : Contents) (config recording : List ℕ) (story : List Happening) (refused : Option RecordRefused) (absence fault : Type 0) (name : List ℕ) (status : ℕ) (o0 o1 e0 e1 : Option (List ℕ)) (m0 m1 n0 n1 : ℕ) where
  module _ (conf : Configuration) (is : IsReplayOf (held 0) config recording conf story refused) where
    abbrev pub GaveReplay : Type 0
    GaveReplay = Given controller Records (first conf) held recording story refused is.tells absence fault loaded first config conf is.accepted refl name status o0 o1 e0 e1 m0 m1 n0 n1

    by_replay : (made : Load) (a : Answer) → RepliesReplay (Some held) absence fault config recording made a
        → RepliesBy controller Records (first conf) held recording story refused is.tells absence fault loaded first config conf is.accepted refl made a
    by_replay (Err why) a reply = reply
    by_replay (Ok other) a reply = reply

    pub gave_replay : Gives (Some (Replay config recording)) (Some held) absence fault name status o0 o1 e0 e1 m0 m1 n0 n1 → GaveReplay
    gave_replay (a, inl (made, loads, reply), delivers) = (a, inl (made, loads, by_replay made a reply), delivers)
    gave_replay (a, inr memory, delivers) = (a, inr memory, delivers)

  module _ (conf : GaugeConf) (is : IsGaugeOf (held 0) config recording conf story refused) where
    abbrev pub GaveGauge : Type 0
    GaveGauge = Given monitor Nowhere (begun conf) held recording story refused is.tells absence fault gauge_of begun config conf is.accepted refl name status o0 o1 e0 e1 m0 m1 n0 n1

    by_gauge : (made : GaugeLoad) (a : Answer) → RepliesGauge (Some held) absence fault config recording made a
        → RepliesBy monitor Nowhere (begun conf) held recording story refused is.tells absence fault gauge_of begun config conf is.accepted refl made a
    by_gauge (Err why) a reply = reply
    by_gauge (Ok other) a reply = reply

    pub gave_gauge : Gives (Some (Gauge config recording)) (Some held) absence fault name status o0 o1 e0 e1 m0 m1 n0 n1 → GaveGauge
    gave_gauge (a, inl (made, loads, reply), delivers) = (a, inl (made, loads, by_gauge made a reply), delivers)
    gave_gauge (a, inr memory, delivers) = (a, inr memory, delivers)
