-- What a call did, whatever the outside did: which answer it gave, and how much of it was written.
use Rattle.std.specs.Prelude.{◌≡◌, ◌≢◌, ℕ, ◌-◌, ◌^◌, ◌<◌, ◌⊎◌, List, [], ◌∷◌, ◌++◌, length, map, Option, Some, None, Result, Ok, Err, IsErrOf}
use Rattle.std.specs.List.{AllByRecursion, flat_map}
use Rattle.fg_outside.specs.Contents.{Contents, Tells}
use Rattle.fg_outside.specs.Counts.{Rose}
use Rattle.fg_outside.specs.declared.hub.Happening.{Happening}
use Rattle.fg_outside.specs.Wrote.{appended, AppendsFront}
use Rattle.conf_types.specs.Configuration.{Configuration}
use Rattle.conf_gather.specs.declared.refused.LoadRefused.{LoadRefused}
use Rattle.conf_gather.specs.declared.refused.LoadRefused.TheVariants.{Read, Absent}
use Rattle.conf_gather.specs.Gathered.{Held}
use Rattle.conf_gather.specs.Gives as load
use Rattle.conf_load.specs.Loaded.{loaded}
use Rattle.gauge_conf.specs.declared.gauge.GaugeConf.{GaugeConf}
use Rattle.gauge_load.specs.Loaded.{gauge_of}
use Rattle.bgp_load.specs.declared.found.LoadedPeer.{LoadedPeer}
use Rattle.bgp_load.specs.Peers.{FoundPeer, loaded_peer}
use Rattle.bgp_texts.specs.Taking.{IsAccepted}
use Rattle.bgp_speaker.specs.Speaking.{Speaking, begun as begun_speaking, turn as speak}
use Rattle.bgp_drive.specs.Speech.{speaks}
use Rattle.command_line.specs.declared.meaning.Job.{Job}
use Rattle.command_line.specs.declared.meaning.Job.TheVariants.{Bench, Check, Gauge, GaugeServe, Plan, Replay, Serve, Trace, Walk, Bgp, BgpServe}
use Rattle.opening_batch.specs.Opened.{Opens}
use Rattle.recording.specs.declared.refused.RecordRefused.{RecordRefused}
use Rattle.recording.specs.Written.{written_records}
use Rattle.ctl_world.specs.World.{first}
use Rattle.law_stories.specs.Right.{IsRight}
use Rattle.bench_story.specs.Measured.{measured}
use Rattle.bench_story.specs.Setup.{configuration}
use Rattle.bench_story.specs.Story.{story as story_of}
use Rattle.gauge_poll.specs.Monitoring.{begun, lines_of as gauge_lines}
use Rattle.hub_drive.specs.declared.sayings.Outlet.{Outlet}
use Rattle.hub_drive.specs.declared.sayings.Outlet.TheVariants as outlets
use Rattle.hub_drive.specs.Driving.{IsFront, closings_of, lines_of as hub_lines, out_of}
use Rattle.hub_drive.specs.Machine.{Workings}
use Rattle.hub_drive.specs.Replay as runs
use Rattle.recording.specs.Script.{IsStoryOf, IsStorySoFar}
use Rattle.ctl_drive.specs.Controller.{controller}
use Rattle.ctl_drive.specs.Driving.{records_of}
use Rattle.gauge_drive.specs.Gauge.{joined, monitor}
use Rattle.hub_drive.specs.declared.replay.Replayed.{Replayed}
use Rattle.hub_drive.specs.declared.replay.Replayed.TheVariants as replayed
use Rattle.trace_story.specs.declared.showing.How.{How}
use Rattle.trace_story.specs.declared.showing.How.TheVariants as hows
use Rattle.faucet_top.specs.declared.deliver.Status.{Status}
use Rattle.faucet_top.specs.Answer.{Answer, GaugeLoad, Load, PeerLoad, lacks_answer, usage, out_of_memory, refusal, json_line, check_step, check_answer, bench_answer, bench_line, last_line, planned, plan_answer, unread as unread_answer}
use Rattle.faucet_top.specs.Ends.{status_after}
use Rattle.faucet_top.specs.Follow.{IsFollowStatus, RepliesFollow, Traced, traced_by}
use Rattle.faucet_top.specs.Status.{number_of_status}

-- ---- which answer

-- What loading a file of this name gave, where files that are held give this: what they give, where they are told, unless a read
-- failed or memory ran out. A file was missing only where its absence was counted, and a read failed only where a fault was; it is the
-- file at which a read was last refused.
pub record LoadsBy {A : Type 0} (given : Held → List ℕ → Result A LoadRefused) (contents : Option Contents) (absence fault : Type 0) (refused : List ℕ) (name : List ℕ) (made : Result A LoadRefused) : Type 0 where
  pub told : (held : Contents) → contents ≡ Some held → load.Gives made (given (held 0) name)
  pub absent : (file : List ℕ) → IsErrOf made (Absent file) → absence
  pub unread : (file : List ℕ) → IsErrOf made (Read file) → fault
  pub named : (file : List ℕ) → IsErrOf made (Absent file) ⊎ IsErrOf made (Read file) → refused ≡ file

abbrev pub Loads : Option Contents → (absence fault : Type 0) → (refused : List ℕ) → (name : List ℕ) → Load → Type 0
Loads contents absence fault refused name made = LoadsBy loaded contents absence fault refused name made

-- the same of Gauge's file
abbrev pub GaugeLoads : Option Contents → (absence fault : Type 0) → (refused : List ℕ) → (name : List ℕ) → GaugeLoad → Type 0
GaugeLoads contents absence fault refused name made = LoadsBy gauge_of contents absence fault refused name made

-- the same of the peer of a router
abbrev pub PeerLoads : Option Contents → (absence fault : Type 0) → (refused config router : List ℕ) → PeerLoad → Type 0
PeerLoads contents absence fault refused config router made = LoadsBy (λ held name. loaded_peer held name router) contents absence fault refused config made

-- files with these names were loaded, and this is what each gave
abbrev pub EachLoads : Option Contents → (absence fault : Type 0) → (refused : List ℕ) → List (List ℕ) → List (List ℕ × Load) → Type 0
EachLoads contents absence fault refused names files = (map (λ file. file.0) files ≡ names) × AllByRecursion (λ file. Loads contents absence fault refused file.0 file.1) files

-- How a replay ended goes by whether the recording is there, where the files tell that.
pub record GoesByFile (contents : Option Contents) (name : List ℕ) (fault : Type 0) (end : Replayed) : Type 0 where
  pub missing : Tells contents name None → end ≡ replayed.Unread
  pub there : (bytes : List ℕ) → Tells contents name (Some bytes) → end ≡ replayed.Unread → fault

-- The reply to a run over a recording: what the run writes on two empty streams, with the line that says how it ended.
abbrev pub RepliesRun : {S : Type 0} → Workings S → Outlet → Option Contents → (absence fault : Type 0) → (recording : List ℕ) → S → Answer → Type 0
RepliesRun works outlet contents absence fault recording w a =
    (end : Replayed) × (out : List ℕ) × (lines : List ℕ) × (end ≢ replayed.WriteFault)
    × runs.Replays works outlet contents recording absence fault w (Some []) (Some out) (Some []) (Some lines) end
    × GoesByFile contents recording fault end
    × (a ≡ record { out = out; err = lines ++ last_line recording end; status = number_of_status (status_after end) })

-- the reply to `replay` by the configuration that a file gave
abbrev pub RepliesReplay : Option Contents → (absence fault : Type 0) → (config recording : List ℕ) → Load → Answer → Type 0
RepliesReplay contents absence fault config recording (Err why) a = a ≡ refusal config why
RepliesReplay contents absence fault config recording (Ok conf) a = RepliesRun controller outlets.Records contents absence fault recording (first conf) a

-- the reply to `gauge` by the configuration that a file gave
abbrev pub RepliesGauge : Option Contents → (absence fault : Type 0) → (config recording : List ℕ) → GaugeLoad → Answer → Type 0
RepliesGauge contents absence fault config recording (Err why) a = a ≡ refusal config why
RepliesGauge contents absence fault config recording (Ok conf) a = RepliesRun monitor outlets.Nowhere contents absence fault recording (begun conf) a

-- a speaker for a peer, before anything happened
abbrev pub speaking_with : LoadedPeer → Speaking
speaking_with peer = begun_speaking peer.peering peer.vlan peer.tree

-- the texts that a speaker gives in a story, in order
abbrev pub with_text : Option (List ℕ) → List (List ℕ) → List (List ℕ)
with_text None texts = texts
with_text (Some text) texts = text ∷ texts

abbrev pub texts_of : Speaking → List Happening → List (List ℕ)
texts_of s [] = []
texts_of s (h ∷ hs) = with_text (speak h s).text (texts_of (speak h s) hs)

-- the reply by what a file gave of the peer of a router, where this is the one by a peer
abbrev pub RepliesPeer : (config router : List ℕ) → (IsReply : LoadedPeer → Answer → Type 0) → PeerLoad → Answer → Type 0
RepliesPeer config router IsReply (Err why) a = a ≡ refusal config why
RepliesPeer config router IsReply (Ok (Err lacks)) a = a ≡ lacks_answer config router lacks
RepliesPeer config router IsReply (Ok (Ok peer)) a = IsReply peer a

-- the reply to `bgp` by what a file gave
abbrev pub RepliesPeerRun : Option Contents → (absence fault : Type 0) → (config router recording : List ℕ) → PeerLoad → Answer → Type 0
RepliesPeerRun contents absence fault config router recording made a =
    RepliesPeer config router (λ peer. RepliesRun speaks outlets.Nowhere contents absence fault recording (speaking_with peer)) made a

-- the reply to `bgp`
abbrev pub RepliesBgp : Option Contents → (absence fault : Type 0) → (refused config router recording : List ℕ) → Answer → Type 0
RepliesBgp contents absence fault refused config router recording a =
    (made : PeerLoad) × PeerLoads contents absence fault refused config router made × RepliesPeerRun contents absence fault config router recording made a

-- the reply to `trace` or `walk`
abbrev pub RepliesLoaded : How → Option Contents → (absence fault : Type 0) → (refused : List ℕ) → Traced → Answer → Type 0
RepliesLoaded how contents absence fault refused traced a =
    (made : Load) × Loads contents absence fault refused traced.config made × RepliesFollow how contents absence fault traced made a

-- the reply to a job that needs no hub, whatever fails: the answer for what the files gave
abbrev pub RepliesJob : Option Job → Option Contents → (absence fault : Type 0) → (refused : List ℕ) → Answer → Type 0
RepliesJob None contents absence fault refused a = a ≡ usage
RepliesJob (Some (Check names)) contents absence fault refused a = (files : List (List ℕ × Load)) × EachLoads contents absence fault refused names files × (a ≡ check_answer files)
RepliesJob (Some (Plan config dp)) contents absence fault refused a = (made : Load) × Loads contents absence fault refused config made × (a ≡ plan_answer config dp (planned dp made))
RepliesJob (Some (Replay config recording)) contents absence fault refused a = (made : Load) × Loads contents absence fault refused config made × RepliesReplay contents absence fault config recording made a
RepliesJob (Some (Serve config events reload_ms listen)) contents absence fault refused a = ⊥
RepliesJob (Some (Gauge config recording)) contents absence fault refused a = (made : GaugeLoad) × GaugeLoads contents absence fault refused config made × RepliesGauge contents absence fault config recording made a
RepliesJob (Some (GaugeServe config events listen)) contents absence fault refused a = ⊥
RepliesJob (Some (Bench hosts)) contents absence fault refused a = a ≡ bench_answer (measured hosts)
RepliesJob (Some (Trace config recording dp port frame)) contents absence fault refused a = RepliesLoaded hows.Trace contents absence fault refused (traced_by config recording dp port frame) a
RepliesJob (Some (Walk config recording dp port frame)) contents absence fault refused a = RepliesLoaded hows.Walk contents absence fault refused (traced_by config recording dp port frame) a
RepliesJob (Some (Bgp config router recording)) contents absence fault refused a = RepliesBgp contents absence fault refused config router recording a
RepliesJob (Some (BgpServe config router events listen)) contents absence fault refused a = ⊥

-- the same, or that memory ran out before the job was known or begun
abbrev pub Replies : Option Job → Option Contents → (absence fault : Type 0) → (refused : List ℕ) → Answer → Type 0
Replies job contents absence fault refused a = RepliesJob job contents absence fault refused a ⊎ (a ≡ out_of_memory)

-- the answer; or a front of it on standard output, since memory ran out or a read failed
abbrev pub AnswersSoFar : (a whole : Answer) → (fault : Type 0) → Type 0
AnswersSoFar a whole fault = (a ≡ whole) ⊎ ((more : List ℕ) × (whole.out ≡ a.out ++ more) × ((a.status ≡ 8) ⊎ ((a.status ≡ 3) × fault)))

-- ---- how much of it

-- a write failed, the status says so, and a front of the reply was written
abbrev pub BreaksOff : Answer → (status : ℕ) → (out_old out_new err_old err_new : Option (List ℕ)) → (out_faults_old out_faults_new err_faults_old err_faults_new : ℕ) → Type 0
BreaksOff a status out_old out_new err_old err_new out_faults_old out_faults_new err_faults_old err_faults_new =
    (status ≡ 4) × AppendsFront out_old out_new a.out × AppendsFront err_old err_new a.err
    × (Rose out_faults_old out_faults_new ⊎ Rose err_faults_old err_faults_new)

-- the reply was written whole, with its status, and no write failed; or a write failed
abbrev pub Delivers : Answer → (status : ℕ) → (out_old out_new err_old err_new : Option (List ℕ)) → (out_faults_old out_faults_new err_faults_old err_faults_new : ℕ) → Type 0
Delivers a status out_old out_new err_old err_new out_faults_old out_faults_new err_faults_old err_faults_new =
    ((status ≡ a.status) × (out_new ≡ appended out_old a.out) × (err_new ≡ appended err_old a.err)
    × (out_faults_new ≡ out_faults_old) × (err_faults_new ≡ err_faults_old))
    ⊎ BreaksOff a status out_old out_new err_old err_new out_faults_old out_faults_new err_faults_old err_faults_new

-- one reply was delivered
abbrev pub Gives : Option Job → Option Contents → (absence fault : Type 0) → (refused : List ℕ) → (status : ℕ) → (out_old out_new err_old err_new : Option (List ℕ)) → (out_faults_old out_faults_new err_faults_old err_faults_new : ℕ) → Type 0
Gives job contents absence fault refused status out_old out_new err_old err_new out_faults_old out_faults_new err_faults_old err_faults_new =
    (a : Answer) × Replies job contents absence fault refused a × Delivers a status out_old out_new err_old err_new out_faults_old out_faults_new err_faults_old err_faults_new

-- ---- parts of a run

-- a reply to a run over a recording was delivered, or that memory ran out before it began
abbrev pub GivesRun : {S : Type 0} → Workings S → Outlet → Option Contents → (absence fault : Type 0) → (recording : List ℕ) → S → (status : ℕ) → (out_old out_new err_old err_new : Option (List ℕ)) → (out_faults_old out_faults_new err_faults_old err_faults_new : ℕ) → Type 0
GivesRun works outlet contents absence fault recording w status out_old out_new err_old err_new out_faults_old out_faults_new err_faults_old err_faults_new =
    (a : Answer) × (RepliesRun works outlet contents absence fault recording w a ⊎ (a ≡ out_of_memory))
    × Delivers a status out_old out_new err_old err_new out_faults_old out_faults_new err_faults_old err_faults_new

-- the reply to `bench` was delivered, or that memory ran out
abbrev pub GivesBench : (hosts status : ℕ) → (out_old out_new err_old err_new : Option (List ℕ)) → (out_faults_old out_faults_new err_faults_old err_faults_new : ℕ) → Type 0
GivesBench hosts status out_old out_new err_old err_new out_faults_old out_faults_new err_faults_old err_faults_new =
    (a : Answer) × ((a ≡ bench_answer (measured hosts)) ⊎ (a ≡ out_of_memory))
    × Delivers a status out_old out_new err_old err_new out_faults_old out_faults_new err_faults_old err_faults_new

-- the reply to `trace` or `walk` was delivered, or that memory ran out
abbrev pub GivesFollow : How → Option Contents → (absence fault : Type 0) → (refused : List ℕ) → Traced → (status : ℕ) → (out_old out_new err_old err_new : Option (List ℕ)) → (out_faults_old out_faults_new err_faults_old err_faults_new : ℕ) → Type 0
GivesFollow how contents absence fault refused traced status out_old out_new err_old err_new out_faults_old out_faults_new err_faults_old err_faults_new =
    (a : Answer) × (RepliesLoaded how contents absence fault refused traced a ⊎ (a ≡ out_of_memory))
    × Delivers a status out_old out_new err_old err_new out_faults_old out_faults_new err_faults_old err_faults_new

-- the reply to `bgp` was delivered, or that memory ran out
abbrev pub GivesBgp : Option Contents → (absence fault : Type 0) → (refused config router recording : List ℕ) → (status : ℕ) → (out_old out_new err_old err_new : Option (List ℕ)) → (out_faults_old out_faults_new err_faults_old err_faults_new : ℕ) → Type 0
GivesBgp contents absence fault refused config router recording status out_old out_new err_old err_new out_faults_old out_faults_new err_faults_old err_faults_new =
    (a : Answer) × (RepliesBgp contents absence fault refused config router recording a ⊎ (a ≡ out_of_memory))
    × Delivers a status out_old out_new err_old err_new out_faults_old out_faults_new err_faults_old err_faults_new

-- files of these names were loaded in order, and the answer delivered
abbrev pub Checks : Option Contents → (absence fault : Type 0) → (refused : List ℕ) → (names : List (List ℕ)) → (status : ℕ) → (out_old out_new err_old err_new : Option (List ℕ)) → (out_faults_old out_faults_new err_faults_old err_faults_new : ℕ) → Type 0
Checks contents absence fault refused names status out_old out_new err_old err_new out_faults_old out_faults_new err_faults_old err_faults_new =
    (files : List (List ℕ × Load)) × EachLoads contents absence fault refused names files
    × Delivers (check_answer files) status out_old out_new err_old err_new out_faults_old out_faults_new err_faults_old err_faults_new

-- one file's line was written; or the run ended there, whatever would have followed
abbrev pub GoesOn : (name : List ℕ) → Load → (ended : Option Status) → (out_old out_new err_old err_new : Option (List ℕ)) → (out_faults_old out_faults_new err_faults_old err_faults_new : ℕ) → Type 0
GoesOn name made None out_old out_new err_old err_new out_faults_old out_faults_new err_faults_old err_faults_new =
    (conf : Configuration) × (made ≡ Ok conf) × (out_new ≡ appended out_old (json_line conf)) × (err_new ≡ err_old) × (out_faults_new ≡ out_faults_old) × (err_faults_new ≡ err_faults_old)
GoesOn name made (Some status) out_old out_new err_old err_new out_faults_old out_faults_new err_faults_old err_faults_new =
    (more : Answer) → Delivers (check_step name made more) (number_of_status status) out_old out_new err_old err_new out_faults_old out_faults_new err_faults_old err_faults_new

-- ---- the file at fault

-- behind lines that were written stands the one that says that the file with this name wasn't read
abbrev pub NamesUnread : (name : List ℕ) → (err_old err_new : Option (List ℕ)) → Type 0
NamesUnread name err_old err_new = (lines : List ℕ) × (err_new ≡ appended err_old (lines ++ (unread_answer name).err))

-- a job that reads a recording
abbrev pub ReadsRecording : Option Job → Type 0
ReadsRecording None = ⊥
ReadsRecording (Some (Check files)) = ⊥
ReadsRecording (Some (Plan config dp)) = ⊥
ReadsRecording (Some (Replay config recording)) = Unit {0}
ReadsRecording (Some (Serve config events reload_ms listen)) = ⊥
ReadsRecording (Some (Gauge config recording)) = Unit {0}
ReadsRecording (Some (GaugeServe config events listen)) = ⊥
ReadsRecording (Some (Bench hosts)) = ⊥
ReadsRecording (Some (Trace config recording dp port frame)) = Unit {0}
ReadsRecording (Some (Walk config recording dp port frame)) = Unit {0}
ReadsRecording (Some (Bgp config router recording)) = Unit {0}
ReadsRecording (Some (BgpServe config router events listen)) = ⊥

-- ---- statuses

-- the status of a run over a recording by what its file holds: 3 where there is none, else by how its story ends, or 7 where that
-- has more turns than may be taken
abbrev pub IsRunStatus : {S : Type 0} → Workings S → S → (file : Option (List ℕ)) → ℕ → Type 0
IsRunStatus works w None n = n ≡ 3
IsRunStatus works w (Some bytes) n =
    ((story : List Happening) × (refused : Option RecordRefused) × IsStoryOf bytes story (closings_of works 0 w story) refused
    × (length story < 2 ^ 64 - 1) × (n ≡ number_of_status (status_after (replayed.Read refused))))
    ⊎ ((story : List Happening) × IsStorySoFar bytes story (closings_of works 0 w story) × (length story ≡ 2 ^ 64 - 1) × (n ≡ 7))

-- that of `serve`, `gauge-serve` and `bgp-serve`: it goes by the hub and by how many turns there may be
abbrev pub IsServeStatus : ℕ → Type 0
IsServeStatus n = (n ≡ 0) ⊎ ((n ≡ 6) ⊎ (n ≡ 7))

-- 2 where there is no peer to speak with, or else one that goes by the peer
abbrev pub IsPeerStatus : (IsRun : LoadedPeer → ℕ → Type 0) → FoundPeer → ℕ → Type 0
IsPeerStatus IsRun (Err lacks) n = n ≡ 2
IsPeerStatus IsRun (Ok peer) n = IsRun peer n

-- that of the refusal, or else one that goes by the configuration
abbrev pub IsLoadedStatus : {A : Type 0} → (config : List ℕ) → Result A LoadRefused → (IsRun : A → ℕ → Type 0) → ℕ → Type 0
IsLoadedStatus config (Err why) IsRun n = n ≡ (refusal config why).status
IsLoadedStatus config (Ok conf) IsRun n = IsRun conf n

-- the status of the answer to a job, where these files are held
abbrev pub IsStatusOf : Option Job → Held → ℕ → Type 0
IsStatusOf None held n = n ≡ 1
IsStatusOf (Some (Check files)) held n = n ≡ (check_answer (map (λ file. (file, loaded held file)) files)).status
IsStatusOf (Some (Plan config dp)) held n = n ≡ (plan_answer config dp (planned dp (loaded held config))).status
IsStatusOf (Some (Replay config recording)) held n = IsLoadedStatus config (loaded held config) (λ conf. IsRunStatus controller (first conf) (held recording)) n
IsStatusOf (Some (Serve config events reload_ms listen)) held n = IsLoadedStatus config (loaded held config) (λ conf. IsServeStatus) n
IsStatusOf (Some (Gauge config recording)) held n = IsLoadedStatus config (gauge_of held config) (λ conf. IsRunStatus monitor (begun conf) (held recording)) n
IsStatusOf (Some (GaugeServe config events listen)) held n = IsLoadedStatus config (gauge_of held config) (λ conf. IsServeStatus) n
IsStatusOf (Some (Bench hosts)) held n = n ≡ 0
IsStatusOf (Some (Trace config recording dp port frame)) held n = IsLoadedStatus config (loaded held config) (IsFollowStatus hows.Trace (traced_by config recording dp port frame) held) n
IsStatusOf (Some (Walk config recording dp port frame)) held n = IsLoadedStatus config (loaded held config) (IsFollowStatus hows.Walk (traced_by config recording dp port frame) held) n
IsStatusOf (Some (Bgp config router recording)) held n =
    IsLoadedStatus config (loaded_peer held config router) (IsPeerStatus (λ peer. IsRunStatus speaks (speaking_with peer) (held recording))) n
IsStatusOf (Some (BgpServe config router events listen)) held n = IsLoadedStatus config (loaded_peer held config router) (IsPeerStatus (λ peer. IsServeStatus)) n

-- a status is that of the answer; or a write failed, memory ran out, or a read failed
abbrev pub StatusFor : (status : ℕ) → (IsAnswered : ℕ → Type 0) → (fault : Type 0) → Type 0
StatusFor status IsAnswered fault = IsAnswered status ⊎ ((status ≡ 4) ⊎ ((status ≡ 8) ⊎ ((status ≡ 3) × fault)))

-- the statuses that there are
abbrev pub IsStatus : ℕ → Type 0
IsStatus n = (status : Status) × (n ≡ number_of_status status)

-- ---- the commands

-- each file is accepted, and their lines were written in order
pub record AreAccepted (names : List (List ℕ)) (held : Held) (before after : Option (List ℕ)) : Type 0 where
  pub confs : List Configuration
  pub accepted : map (loaded held) names ≡ map Ok confs
  pub lines : after ≡ appended before (flat_map json_line confs)

-- the file is accepted, and what was written opens the datapath
pub record IsOpened (config dp : List ℕ) (held : Held) (before after : Option (List ℕ)) : Type 0 where
  pub conf : Configuration
  pub batch : List ℕ
  pub accepted : loaded held config ≡ Ok conf
  pub written : after ≡ appended before batch
  pub opens : Opens conf dp batch

-- The recording is whole, or this record of it is refused. What was written is what a machine prints of the story that the records before
-- tell, where the machine closes what it closes, and its lines; and behind these the line that says which record is refused.
pub record IsRun {S : Type 0} (works : Workings S) (w : S) (prints : List Happening → List ℕ) (recording : List ℕ) (refused : Option RecordRefused) (held : Held) (out_old out_new err_old err_new : Option (List ℕ)) : Type 0 where
  pub bytes : List ℕ
  pub story : List Happening
  pub file : held recording ≡ Some bytes
  pub told : IsStoryOf bytes story (closings_of works 0 w story) refused
  pub out : out_new ≡ appended out_old (prints story)
  pub err : err_new ≡ appended err_old (hub_lines works w story ++ last_line recording (replayed.Read refused))

-- The configuration is accepted, and its controller was run so over the recording, with its records as what is printed; and all that is right.
pub record IsReplayed (config recording : List ℕ) (refused : Option RecordRefused) (held : Held) (out_old out_new err_old err_new : Option (List ℕ)) : Type 0 where
  pub conf : Configuration
  pub accepted : loaded held config ≡ Ok conf
  pub run : IsRun controller (first conf) (λ story. written_records (records_of (first conf) story)) recording refused held out_old out_new err_old err_new
  pub right : (front : List Happening) → IsFront front run.story → IsRight conf front

-- Gauge's configuration is accepted, and its Gauge was run so over the recording, with its lines as what is printed.
pub record IsWatched (config recording : List ℕ) (refused : Option RecordRefused) (held : Held) (out_old out_new err_old err_new : Option (List ℕ)) : Type 0 where
  pub conf : GaugeConf
  pub accepted : gauge_of held config ≡ Ok conf
  pub run : IsRun monitor (begun conf) (λ story. joined (gauge_lines (begun conf) story)) recording refused held out_old out_new err_old err_new

-- The configuration is accepted and the router has a peer, and its speaker was run so over the recording, with its records as what is
-- printed; and each text that it gives is accepted.
pub record IsSpoken (config router recording : List ℕ) (refused : Option RecordRefused) (held : Held) (out_old out_new err_old err_new : Option (List ℕ)) : Type 0 where
  pub peer : LoadedPeer
  pub accepted : loaded_peer held config router ≡ Ok (Ok peer)
  pub run : IsRun speaks (speaking_with peer) (λ story. out_of speaks outlets.Nowhere (speaking_with peer) story) recording refused held out_old out_new err_old err_new
  pub texts : AllByRecursion IsAccepted (texts_of (speaking_with peer) run.story)

-- The line of what is measured of the story in which so many hosts come was written; and all is right of each front of that story, which
-- happens to the controller of a configuration of its own.
pub record IsMeasured (hosts : ℕ) (before after : Option (List ℕ)) : Type 0 where
  pub written : after ≡ appended before (bench_line (measured hosts))
  pub right : (front : List Happening) → IsFront front (story_of hosts) → IsRight configuration front
