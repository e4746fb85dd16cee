-- The reply to `serve`, and what becomes of the hub that was handed in.
use Rattle.std.specs.Prelude.{◌≡◌, ◌⊎◌, ℕ, IsTrue, List, [], ◌++◌, Option, Some, None, Ok, Err, length}
use Rattle.fg_outside.specs.Contents.{Contents}
use Rattle.fg_outside.specs.declared.hub.Happening.{Happening}
use Rattle.fg_outside.specs.HubStep.{HubStep}
use Rattle.fg_outside.specs.Wrote.{appended}
use Rattle.conf_types.specs.Configuration.{Configuration}
use Rattle.conf_gather.specs.declared.refused.LoadRefused.{LoadRefused}
use Rattle.conf_gather.specs.Gathered.{Held}
use Rattle.conf_load.specs.Loaded.{loaded}
use Rattle.command_line.specs.declared.meaning.Job.{Job}
use Rattle.command_line.specs.declared.meaning.Job.TheVariants.{Bench, Check, Gauge, GaugeServe, Plan, Replay, Serve, Trace, Walk, Bgp, BgpServe}
use Rattle.command_line.specs.declared.values.Listen.{Listen}
use Rattle.pkt_view.specs.Frame.{has_type}
use Rattle.watch_hub.specs.Look.{text_of}
use Rattle.ctl_world.specs.World.{first}
use Rattle.law_stories.specs.Right.{IsRight}
use Rattle.hub_drive.specs.declared.drive.Drove.{Drove}
use Rattle.hub_drive.specs.declared.drive.Drove.TheVariants as drove
use Rattle.hub_drive.specs.Driving.{IsFront}
use Rattle.ctl_drive.specs.Driving.{lines_of}
use Rattle.ctl_serve.specs.Served.{Ended, Served, ServedPart}
use Rattle.faucet_top.specs.Answer.{Answer, out_of_memory, refusal, served_line}
use Rattle.faucet_top.specs.Ends.{status_served}
use Rattle.faucet_top.specs.Given.{Loads}
use Rattle.faucet_top.specs.Status.{number_of_status}

-- a job that looks at its files once, so any but `serve`
abbrev pub LooksOnce : Option Job → Type 0
LooksOnce job = (config : List ℕ) (events reload_ms : ℕ) (listen : Listen) → job ≡ Some (Serve config events reload_ms listen) → ⊥

-- a job that needs no hub, so neither `serve` nor `gauge-serve` nor `bgp-serve`
abbrev pub IsLocal : Option Job → Type 0
IsLocal job =
    LooksOnce job × ((config : List ℕ) (events : ℕ) (listen : Listen) → job ≡ Some (GaugeServe config events listen) → ⊥)
    × ((config router : List ℕ) (events : ℕ) (listen : Listen) → job ≡ Some (BgpServe config router events listen) → ⊥)

-- the frame that the job is about, if it is about one, has its EtherType
abbrev pub HasFrame : Option Job → Type 0
HasFrame None = Unit {0}
HasFrame (Some (Check files)) = Unit {0}
HasFrame (Some (Plan config dp)) = Unit {0}
HasFrame (Some (Replay config recording)) = Unit {0}
HasFrame (Some (Serve config events reload_ms listen)) = Unit {0}
HasFrame (Some (Gauge config recording)) = Unit {0}
HasFrame (Some (GaugeServe config events listen)) = Unit {0}
HasFrame (Some (Bench hosts)) = Unit {0}
HasFrame (Some (Trace config recording dp port frame)) = IsTrue (has_type frame)
HasFrame (Some (Walk config recording dp port frame)) = IsTrue (has_type frame)
HasFrame (Some (Bgp config router recording)) = Unit {0}
HasFrame (Some (BgpServe config router events listen)) = Unit {0}

-- ---- the reply

-- what is written where serving ended so, with these lines before
abbrev pub served_answer : (lines : List ℕ) → Drove → Answer
served_answer lines end = record { out = []; err = lines ++ served_line end; status = number_of_status (status_served end) }

-- what is written where the hub isn't asked: memory ran out, or the configuration is refused
abbrev pub UnservedAnswer : Option Contents → (absence fault : Type 0) → (refused config : List ℕ) → Answer → Type 0
UnservedAnswer contents absence fault refused config a =
    (a ≡ out_of_memory) ⊎ ((why : LoadRefused) × Loads contents absence fault refused config (Err why) × (a ≡ refusal config why))

-- By how serving ended, where `delivered` says that a reply was delivered, and `broke_off` that a write failed in it: what happened,
-- what the hub was told of it, and what was written of it.
abbrev pub ServesUntil : {H F : Type 0} → (H → HubStep → H → Type 0) → (F → Option Contents) → (F → ℕ) → (config text : List ℕ) → (reload_ms events : ℕ) → Configuration
    → (hub_old hub_new : H) → (files_old files_new : F) → (delivered broke_off : Answer → Type 0) → Drove → Type 0
ServesUntil may contents faults config text reload_ms events conf hub_old hub_new files_old files_new delivered broke_off drove.Done =
    (happened : List Happening) × Ended events happened drove.Done
    × Served may contents faults config text reload_ms events (first conf) happened drove.Done hub_old hub_new files_old files_new
    × delivered (served_answer (lines_of (first conf) happened) drove.Done)
ServesUntil may contents faults config text reload_ms events conf hub_old hub_new files_old files_new delivered broke_off drove.HubFault =
    (happened : List Happening) × Ended events happened drove.HubFault
    × Served may contents faults config text reload_ms events (first conf) happened drove.HubFault hub_old hub_new files_old files_new
    × delivered (served_answer (lines_of (first conf) happened) drove.HubFault)
ServesUntil may contents faults config text reload_ms events conf hub_old hub_new files_old files_new delivered broke_off drove.Spent =
    (happened : List Happening) × Ended events happened drove.Spent
    × Served may contents faults config text reload_ms events (first conf) happened drove.Spent hub_old hub_new files_old files_new
    × delivered (served_answer (lines_of (first conf) happened) drove.Spent)
ServesUntil may contents faults config text reload_ms events conf hub_old hub_new files_old files_new delivered broke_off drove.WriteFault =
    (happened : List Happening) × Ended events happened drove.WriteFault
    × Served may contents faults config text reload_ms (length happened) (first conf) happened drove.WriteFault hub_old hub_new files_old files_new
    × broke_off (served_answer (lines_of (first conf) happened) drove.WriteFault)
ServesUntil may contents faults config text reload_ms events conf hub_old hub_new files_old files_new delivered broke_off drove.Memory =
    (happened : List Happening) × Ended events happened drove.Memory
    × ServedPart may contents faults config text reload_ms (first conf) happened hub_old hub_new files_old files_new
    × ((lines : List ℕ) × IsFront lines (lines_of (first conf) happened) × delivered (served_answer lines drove.Memory))

-- The hub wasn't asked; or the file gave this configuration, of a document with this text, and its controller was run on the hub
-- until that ended.
abbrev pub RepliesServe : {H F : Type 0} → (H → HubStep → H → Type 0) → (F → Option Contents) → (F → ℕ) → (absence fault : Type 0) → (refused config : List ℕ) → (reload_ms events : ℕ)
    → (hub_old hub_new : H) → (files_old files_new : F) → (delivered broke_off : Answer → Type 0) → Type 0
RepliesServe may contents faults absence fault refused config reload_ms events hub_old hub_new files_old files_new delivered broke_off =
    ((a : Answer) × UnservedAnswer (contents files_old) absence fault refused config a × delivered a × (hub_new ≡ hub_old) × (contents files_new ≡ contents files_old))
    ⊎ ((conf : Configuration) × (text : List ℕ) × Loads (contents files_old) absence fault refused config (Ok conf)
    × ((held : Contents) → contents files_old ≡ Some held → text_of (held 0) config ≡ Some text)
    × (end : Drove) × ServesUntil may contents faults config text reload_ms events conf hub_old hub_new files_old files_new delivered broke_off end)

-- ---- the command

-- serving ended by the hub's or the words' own end: the hub said that it is done, it failed, or all turns were taken
abbrev pub IsItsEnd : Drove → Type 0
IsItsEnd drove.Done = Unit {0}
IsItsEnd drove.HubFault = Unit {0}
IsItsEnd drove.Spent = Unit {0}
IsItsEnd drove.WriteFault = ⊥
IsItsEnd drove.Memory = ⊥

-- The configuration is accepted, and its controller was run on the hub until it ended so. What happened to it is the front, of so
-- many happenings, of what happened at the hub with the reloads of the looks; the hub was told what the controller says of it, its
-- lines stand on standard error, and all that is right, of each front of what happened.
pub record IsServed {H F : Type 0} (may : H → HubStep → H → Type 0) (contents : F → Option Contents) (faults : F → ℕ) (config : List ℕ) (held : Held) (reload_ms events : ℕ) (end : Drove)
    (hub_old hub_new : H) (files_old files_new : F) (out_old out_new err_old err_new : Option (List ℕ)) : Type 0 where
  pub conf : Configuration
  pub text : List ℕ
  pub happened : List Happening
  pub accepted : loaded held config ≡ Ok conf
  pub begins : text_of held config ≡ Some text
  pub ended : Ended events happened end
  pub served : Served may contents faults config text reload_ms events (first conf) happened end hub_old hub_new files_old files_new
  pub out : out_new ≡ out_old
  pub err : err_new ≡ appended err_old (lines_of (first conf) happened ++ served_line end)
  pub right : (front : List Happening) → IsFront front happened → IsRight conf front
