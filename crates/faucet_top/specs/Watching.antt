-- The reply to `gauge-serve`, and what becomes of the hub that was handed in.
use Rattle.std.specs.Prelude.{◌≡◌, ◌≢◌, ◌⊎◌, ℕ, true, List, [], ◌++◌, Option, Some, Ok, Err}
use Rattle.std.specs.List.{AllByRecursion}
use Rattle.fg_outside.specs.Contents.{Contents}
use Rattle.fg_outside.specs.declared.hub.Happening.{Happening}
use Rattle.fg_outside.specs.HubStep.{HubStep, Leads, happenings, story}
use Rattle.fg_outside.specs.Wrote.{appended}
use Rattle.conf_gather.specs.declared.refused.LoadRefused.{LoadRefused}
use Rattle.conf_gather.specs.Gathered.{Held}
use Rattle.gauge_conf.specs.declared.gauge.GaugeConf.{GaugeConf}
use Rattle.gauge_load.specs.Loaded.{gauge_of}
use Rattle.gauge_poll.specs.Monitoring.{begun, lines_of as gauge_lines}
use Rattle.hub_drive.specs.declared.drive.Drove.{Drove}
use Rattle.hub_drive.specs.declared.drive.Drove.TheVariants as drove
use Rattle.hub_drive.specs.declared.sayings.Outlet.TheVariants.{Hub}
use Rattle.hub_drive.specs.Driven.{Drives, goes_on}
use Rattle.hub_drive.specs.Driving.{deeds, deeds_of, lines_of as hub_lines}
use Rattle.ctl_serve.specs.Served.{Ended, last_call}
use Rattle.gauge_drive.specs.Gauge.{joined, monitor}
use Rattle.faucet_top.specs.Answer.{Answer, out_of_memory, refusal, served_line}
use Rattle.faucet_top.specs.Ends.{status_served}
use Rattle.faucet_top.specs.Given.{GaugeLoads}
use Rattle.faucet_top.specs.Status.{number_of_status}

-- what is written where the hub isn't asked: memory ran out, or the configuration is refused
abbrev pub UnwatchedAnswer : Option Contents → (absence fault : Type 0) → (refused config : List ℕ) → Answer → Type 0
UnwatchedAnswer contents absence fault refused config a =
    (a ≡ out_of_memory) ⊎ ((why : LoadRefused) × GaugeLoads contents absence fault refused config (Err why) × (a ≡ refusal config why))

-- The reply where Gauge was run on the hub: what the run writes on two empty streams, with the line that says how it ended.
abbrev pub RepliesHub : {H : Type 0} → (H → HubStep → H → Type 0) → (events : ℕ) → GaugeConf → (hub_old hub_new : H) → Answer → Type 0
RepliesHub may events conf hub_old hub_new a =
    (end : Drove) × (out : List ℕ) × (lines : List ℕ) × (end ≢ drove.WriteFault)
    × Drives monitor may Hub events (begun conf) hub_old hub_new (Some []) (Some out) (Some []) (Some lines) end
    × (a ≡ record { out = out; err = lines ++ served_line end; status = number_of_status (status_served end) })

-- the hub wasn't asked; or the file gave this configuration, and its Gauge was run on the hub until that ended
abbrev pub RepliesWatch : {H : Type 0} → (H → HubStep → H → Type 0) → Option Contents → (absence fault : Type 0) → (refused config : List ℕ) → (events : ℕ) → (hub_old hub_new : H) → Answer → Type 0
RepliesWatch may contents absence fault refused config events hub_old hub_new a =
    (UnwatchedAnswer contents absence fault refused config a × (hub_new ≡ hub_old))
    ⊎ ((conf : GaugeConf) × GaugeLoads contents absence fault refused config (Ok conf) × RepliesHub may events conf hub_old hub_new a)

-- Gauge's configuration is accepted, and its Gauge was run on the hub until it ended so, of which each turn gave a happening and no call
-- was answered want of memory. The hub was told what Gauge says of what happened; the lines that Gauge gives of it stand on standard
-- output, those of closings on standard error.
pub record IsHubWatched {H : Type 0} (may : H → HubStep → H → Type 0) (config : List ℕ) (held : Held) (events : ℕ) (end : Drove) (hub_old hub_new : H) (out_old out_new err_old err_new : Option (List ℕ)) : Type 0 where
  pub conf : GaugeConf
  pub happened : List Happening
  pub accepted : gauge_of held config ≡ Ok conf
  pub ended : Ended events happened end
  pub steps : List HubStep
  pub went_on : AllByRecursion (λ step. goes_on step ≡ true) steps
  pub leads : Leads may hub_old (steps ++ last_call end) hub_new
  pub gave : happenings (story steps) ≡ happened
  pub told : deeds (story steps) ≡ deeds_of monitor Hub (begun conf) happened
  pub out : out_new ≡ appended out_old (joined (gauge_lines (begun conf) happened))
  pub err : err_new ≡ appended err_old (hub_lines monitor (begun conf) happened ++ served_line end)
