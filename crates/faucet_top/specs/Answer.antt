-- What the program answers: what it writes on its two streams, and its status.
use Rattle.std.specs.Prelude.{ℕ, List, [], ◌∷◌, ◌++◌, map, Option, Some, None, Result, Ok, Err, codes}
use Rattle.std.specs.Fmt.{decimal}
use Rattle.std.specs.List.{concat}
use Rattle.yaml_subset.specs.Fault.{cause_text}
use Rattle.conf_types.specs.Configuration.{Configuration}
use Rattle.bgp_load.specs.declared.found.PeerLacks.{PeerLacks}
use Rattle.bgp_load.specs.declared.found.PeerLacks.TheVariants as lacks
use Rattle.bgp_load.specs.Peers.{FoundPeer}
use Rattle.conf_gather.specs.declared.refused.LoadRefused.{LoadRefused}
use Rattle.conf_gather.specs.declared.refused.LoadRefused.TheVariants.{Read, Yaml, Conf, IncludeTwice, IncludeDepth, Absent, Memory}
use Rattle.conf_json.specs.Text.{json_text}
use Rattle.gauge_conf.specs.declared.gauge.GaugeConf.{GaugeConf}
use Rattle.command_line.specs.declared.meaning.Job.{Job}
use Rattle.command_line.specs.declared.meaning.Job.TheVariants.{Bench, Check, Gauge, GaugeServe, Plan, Replay, Serve, Trace, Walk, Bgp, BgpServe}
use Rattle.opening_batch.specs.Opening.{opening_of}
use Rattle.bench_story.specs.declared.measuring.Measured.{Measured}
use Rattle.bench_story.specs.Measured.{measured}
use Rattle.recording.specs.Kinds.{cause_name}
use Rattle.hub_drive.specs.declared.drive.Drove.{Drove}
use Rattle.hub_drive.specs.declared.drive.Drove.TheVariants as drove
use Rattle.hub_drive.specs.declared.replay.Replayed.{Replayed}
use Rattle.hub_drive.specs.declared.replay.Replayed.TheVariants as replayed
use Rattle.trace_story.specs.declared.entry.Missing.{Missing}
use Rattle.trace_story.specs.declared.entry.Missing.TheVariants as missing
use Rattle.trace_story.specs.declared.showing.Shown.{Shown}
use Rattle.trace_story.specs.declared.showing.Shown.TheVariants.{Lines, NotReady}
use Rattle.conf_causes.specs.Causes.{conf_cause_text}

pub record Answer : Type 0 where
  pub out : List ℕ
  pub err : List ℕ
  pub status : ℕ

-- a line of these pieces
abbrev pub line : List (List ℕ) → List ℕ
line pieces = concat pieces ++ 10 ∷ []

abbrev pub usage : Answer
usage = record { out = []; err = line (codes "usage: faucet check, plan, replay, serve, gauge, gauge-serve, bench, trace, walk, bgp or bgp-serve" ∷ []); status = 1 }

abbrev pub out_of_memory : Answer
out_of_memory = record { out = []; err = line (codes "out of memory" ∷ []); status = 8 }

-- ---- why a file gives no configuration

abbrev pub refused_with : List (List ℕ) → Answer
refused_with pieces = record { out = []; err = line pieces; status = 2 }

abbrev pub unread : (file : List ℕ) → Answer
unread file = record { out = []; err = line (file ∷ codes ": read fault" ∷ []); status = 3 }

-- a text's fault is told with the name of its file; the others with the name in the words
abbrev pub refusal : (config : List ℕ) → LoadRefused → Answer
refusal config (Read file) = unread file
refusal config (Absent file) = unread file
refusal config (Yaml file fault) = refused_with (file ∷ codes ": line " ∷ decimal fault.line ∷ codes ": " ∷ cause_text fault.cause ∷ [])
refusal config (Conf fault) = refused_with (config ∷ codes ": " ∷ fault.path ∷ codes ": " ∷ conf_cause_text fault.cause ∷ [])
refusal config (IncludeTwice file) = refused_with (config ∷ codes ": " ∷ file ∷ codes ": IncludeTwice" ∷ [])
refusal config (IncludeDepth file) = refused_with (config ∷ codes ": " ∷ file ∷ codes ": IncludeDepth" ∷ [])
refusal config Memory = out_of_memory

-- ---- `check`

-- what a file gave
abbrev pub Load : Type 0
Load = Result Configuration LoadRefused

-- what a file of Gauge's gave
abbrev pub GaugeLoad : Type 0
GaugeLoad = Result GaugeConf LoadRefused

abbrev pub nothing : Answer
nothing = record { out = []; err = []; status = 0 }

-- an answer behind these bytes
abbrev pub behind_bytes : List ℕ → Answer → Answer
behind_bytes bytes a = record { out = bytes ++ a.out; err = a.err; status = a.status }

-- an accepted configuration's line
abbrev pub json_line : Configuration → List ℕ
json_line conf = json_text conf ++ 10 ∷ []

-- a file's line and what follows, or the refusal, which ends the run
abbrev pub check_step : (name : List ℕ) → Load → Answer → Answer
check_step name (Ok conf) more = behind_bytes (json_line conf) more
check_step name (Err why) more = refusal name why

-- the answer to `check`, of each file's name and what it gave, in order
abbrev pub check_answer : List (List ℕ × Load) → Answer
check_answer [] = nothing
check_answer (file ∷ files) = check_step file.0 file.1 (check_answer files)

-- ---- `plan`

-- what a file gave for a datapath: its opening batch, if there is such a datapath
abbrev pub planned : (dp : List ℕ) → Load → Result (Option (List ℕ)) LoadRefused
planned dp (Ok conf) = Ok (opening_of conf dp)
planned dp (Err why) = Err why

-- the answer to `plan`: the batch, or a line that says why there is none
abbrev pub plan_answer : (config dp : List ℕ) → Result (Option (List ℕ)) LoadRefused → Answer
plan_answer config dp (Ok (Some batch)) = record { out = batch; err = []; status = 0 }
plan_answer config dp (Ok None) = refused_with (config ∷ codes ": dps." ∷ dp ∷ codes ": Unresolved" ∷ [])
plan_answer config dp (Err why) = refusal config why

-- ---- `bgp` and `bgp-serve`

-- what a file gave of the peer of a router
abbrev pub PeerLoad : Type 0
PeerLoad = Result FoundPeer LoadRefused

-- there is no peer to speak with
abbrev pub lacks_answer : (config router : List ℕ) → PeerLacks → Answer
lacks_answer config router lacks.Router = refused_with (config ∷ codes ": routers." ∷ router ∷ codes ": Unresolved" ∷ [])
lacks_answer config router lacks.Peer = refused_with (config ∷ codes ": routers." ∷ router ∷ codes ".bgp: Missing" ∷ [])
lacks_answer config router lacks.Room = refused_with (config ∷ codes ": TooMany Text" ∷ [])

-- ---- `replay` and `gauge`

-- the line behind those that were written, by how the run over the recording ended
abbrev pub last_line : (recording : List ℕ) → Replayed → List ℕ
last_line recording (replayed.Read None) = []
last_line recording (replayed.Read (Some refused)) = line (codes "recording: record " ∷ decimal refused.number ∷ codes ": " ∷ cause_name refused.cause ∷ [])
last_line recording replayed.Unread = (unread recording).err
last_line recording replayed.Spent = line (codes "events spent" ∷ [])
last_line recording replayed.WriteFault = []
last_line recording replayed.Memory = out_of_memory.err

-- ---- `serve` and `gauge-serve`

-- the line behind those that were written, by how serving ended
abbrev pub served_line : Drove → List ℕ
served_line drove.Done = []
served_line drove.HubFault = line (codes "hub fault" ∷ [])
served_line drove.Spent = line (codes "events spent" ∷ [])
served_line drove.WriteFault = []
served_line drove.Memory = out_of_memory.err

-- ---- `bench`

-- the line of what was measured
abbrev pub bench_line : Measured → List ℕ
bench_line m =
    line (codes "hosts " ∷ decimal m.hosts ∷ codes " batches " ∷ decimal m.batches ∷ codes " commands " ∷ decimal m.commands ∷ codes " sum " ∷ decimal m.sum ∷ [])

abbrev pub bench_answer : Measured → Answer
bench_answer m = record { out = bench_line m; err = []; status = 0 }

-- ---- `trace` and `walk`

-- the datapath isn't in the configuration, or has no such interface
abbrev pub missing_answer : (config dp : List ℕ) → (port : ℕ) → Missing → Answer
missing_answer config dp port missing.Dp = refused_with (config ∷ codes ": dps." ∷ dp ∷ codes ": Unresolved" ∷ [])
missing_answer config dp port missing.Port = refused_with (config ∷ codes ": dps." ∷ dp ∷ codes ".interfaces." ∷ decimal port ∷ codes ": Unresolved" ∷ [])

-- what is shown: lines, or which datapath isn't ready
abbrev pub shown_answer : (config : List ℕ) → Shown → Answer
shown_answer config (Lines lines) = record { out = lines; err = []; status = 0 }
shown_answer config (NotReady name) = record { out = []; err = line (config ∷ codes ": " ∷ name ∷ codes ": NotReady" ∷ []); status = 9 }

-- ---- the words

-- the answer to a job, where files give these configurations; those to the commands that take in what happens are said by relations
-- (Given, Serving, Watching, Speaking, Follow)
abbrev pub job_answer : Option Job → (List ℕ → Load) → Option Answer
job_answer None load = Some usage
job_answer (Some (Check files)) load = Some (check_answer (map (λ file. (file, load file)) files))
job_answer (Some (Plan config dp)) load = Some (plan_answer config dp (planned dp (load config)))
job_answer (Some (Replay config recording)) load = None
job_answer (Some (Serve config events reload_ms listen)) load = None
job_answer (Some (Gauge config recording)) load = None
job_answer (Some (GaugeServe config events listen)) load = None
job_answer (Some (Bench hosts)) load = Some (bench_answer (measured hosts))
job_answer (Some (Trace config recording dp port frame)) load = None
job_answer (Some (Walk config recording dp port frame)) load = None
job_answer (Some (Bgp config router recording)) load = None
job_answer (Some (BgpServe config router events listen)) load = None
