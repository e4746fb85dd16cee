-- The reply to whatever the words ask for.
use Rattle.std.specs.Prelude.{ℕ, List, Option, Some, None}
use Rattle.fg_outside.specs.Contents.{Contents}
use Rattle.fg_outside.specs.HubStep.{HubStep}
use Rattle.command_line.specs.declared.meaning.Job.{Job}
use Rattle.command_line.specs.declared.meaning.Job.TheVariants.{Bench, Check, Gauge, GaugeServe, Plan, Replay, Serve, Trace, Walk, Bgp, BgpServe}
use Rattle.faucet_top.specs.Answer.{Answer}
use Rattle.faucet_top.specs.Given.{BreaksOff, Delivers, Gives}
use Rattle.faucet_top.specs.Serving.{RepliesServe}
use Rattle.faucet_top.specs.Speaking.{RepliesSpeak}
use Rattle.faucet_top.specs.Watching.{RepliesWatch}

-- one reply was delivered
abbrev pub GivesAny : {H F : Type 0} → (H → HubStep → H → Type 0) → (F → Option Contents) → (F → ℕ) → (absence fault : Type 0) → (refused : List ℕ) → Option Job
    → (hub_old hub_new : H) → (files_old files_new : F)
    → (status : ℕ) → (out_old out_new err_old err_new : Option (List ℕ)) → (out_faults_old out_faults_new err_faults_old err_faults_new : ℕ) → Type 0
GivesAny may contents faults absence fault refused None hub_old hub_new files_old files_new status o0 o1 e0 e1 m0 m1 n0 n1 =
    Gives None (contents files_old) absence fault refused status o0 o1 e0 e1 m0 m1 n0 n1
GivesAny may contents faults absence fault refused (Some (Check names)) hub_old hub_new files_old files_new status o0 o1 e0 e1 m0 m1 n0 n1 =
    Gives (Some (Check names)) (contents files_old) absence fault refused status o0 o1 e0 e1 m0 m1 n0 n1
GivesAny may contents faults absence fault refused (Some (Plan config dp)) hub_old hub_new files_old files_new status o0 o1 e0 e1 m0 m1 n0 n1 =
    Gives (Some (Plan config dp)) (contents files_old) absence fault refused status o0 o1 e0 e1 m0 m1 n0 n1
GivesAny may contents faults absence fault refused (Some (Replay config recording)) hub_old hub_new files_old files_new status o0 o1 e0 e1 m0 m1 n0 n1 =
    Gives (Some (Replay config recording)) (contents files_old) absence fault refused status o0 o1 e0 e1 m0 m1 n0 n1
GivesAny may contents faults absence fault refused (Some (Gauge config recording)) hub_old hub_new files_old files_new status o0 o1 e0 e1 m0 m1 n0 n1 =
    Gives (Some (Gauge config recording)) (contents files_old) absence fault refused status o0 o1 e0 e1 m0 m1 n0 n1
GivesAny may contents faults absence fault refused (Some (Bench hosts)) hub_old hub_new files_old files_new status o0 o1 e0 e1 m0 m1 n0 n1 =
    Gives (Some (Bench hosts)) (contents files_old) absence fault refused status o0 o1 e0 e1 m0 m1 n0 n1
GivesAny may contents faults absence fault refused (Some (Trace config recording dp port frame)) hub_old hub_new files_old files_new status o0 o1 e0 e1 m0 m1 n0 n1 =
    Gives (Some (Trace config recording dp port frame)) (contents files_old) absence fault refused status o0 o1 e0 e1 m0 m1 n0 n1
GivesAny may contents faults absence fault refused (Some (Walk config recording dp port frame)) hub_old hub_new files_old files_new status o0 o1 e0 e1 m0 m1 n0 n1 =
    Gives (Some (Walk config recording dp port frame)) (contents files_old) absence fault refused status o0 o1 e0 e1 m0 m1 n0 n1
GivesAny may contents faults absence fault refused (Some (Bgp config router recording)) hub_old hub_new files_old files_new status o0 o1 e0 e1 m0 m1 n0 n1 =
    Gives (Some (Bgp config router recording)) (contents files_old) absence fault refused status o0 o1 e0 e1 m0 m1 n0 n1
GivesAny may contents faults absence fault refused (Some (Serve config events reload_ms listen)) hub_old hub_new files_old files_new status o0 o1 e0 e1 m0 m1 n0 n1 =
    RepliesServe may contents faults absence fault refused config reload_ms events hub_old hub_new files_old files_new
    (λ a. Delivers a status o0 o1 e0 e1 m0 m1 n0 n1) (λ a. BreaksOff a status o0 o1 e0 e1 m0 m1 n0 n1)
GivesAny may contents faults absence fault refused (Some (GaugeServe config events listen)) hub_old hub_new files_old files_new status o0 o1 e0 e1 m0 m1 n0 n1 =
    (a : Answer) × RepliesWatch may (contents files_old) absence fault refused config events hub_old hub_new a × Delivers a status o0 o1 e0 e1 m0 m1 n0 n1
GivesAny may contents faults absence fault refused (Some (BgpServe config router events listen)) hub_old hub_new files_old files_new status o0 o1 e0 e1 m0 m1 n0 n1 =
    (a : Answer) × RepliesSpeak may (contents files_old) absence fault refused config router events hub_old hub_new a × Delivers a status o0 o1 e0 e1 m0 m1 n0 n1
