-- The reply to `trace` and `walk`.
use Rattle.std.specs.Prelude.{◌≡◌, ℕ, ◌-◌, ◌^◌, ◌<◌, ◌⊎◌, List, [], length, Option, Some, None, Ok, Err}
use Rattle.fg_outside.specs.Contents.{Contents, Tells}
use Rattle.fg_outside.specs.declared.hub.Happening.{Happening}
use Rattle.fg_outside.specs.Wrote.{appended}
use Rattle.conf_types.specs.Configuration.{Configuration}
use Rattle.conf_gather.specs.Gathered.{Held}
use Rattle.conf_load.specs.Loaded.{loaded}
use Rattle.command_line.specs.declared.meaning.Job.{Job}
use Rattle.command_line.specs.declared.meaning.Job.TheVariants as jobs
use Rattle.of_match.specs.declared.packet.Packet.{Packet}
use Rattle.pkt_view.specs.Packets.{packet}
use Rattle.recording.specs.declared.refused.RecordRefused.{RecordRefused}
use Rattle.recording.specs.Script.{IsStoryOf, IsStorySoFar}
use Rattle.ctl_world.specs.World.{first}
use Rattle.ctl_core.specs.Story.{behind}
use Rattle.law_stories.specs.Right.{IsRight}
use Rattle.hub_drive.specs.declared.replay.Replayed.TheVariants as replayed
use Rattle.hub_drive.specs.Driving.{IsFront}
use Rattle.ctl_drive.specs.Replay.{closed_in}
use Rattle.trace_story.specs.declared.entry.Missing.{Missing}
use Rattle.trace_story.specs.declared.following.Followed.{Followed}
use Rattle.trace_story.specs.declared.following.Followed.TheVariants as followed
use Rattle.trace_story.specs.declared.showing.How.{How}
use Rattle.trace_story.specs.declared.showing.How.TheVariants as hows
use Rattle.trace_story.specs.declared.showing.Shown.{Shown}
use Rattle.trace_story.specs.Entry.{missing_in}
use Rattle.trace_story.specs.Followed.{Follows}
use Rattle.trace_story.specs.Shown.{shown}
use Rattle.faucet_top.specs.declared.asked.Asked.{Asked}
use Rattle.faucet_top.specs.Answer.{Answer, Load, last_line, missing_answer, refusal, shown_answer}
use Rattle.faucet_top.specs.Ends.{status_after}
use Rattle.faucet_top.specs.Status.{number_of_status}

-- a frame that comes in by a port of a datapath, behind what a recording tells to the controller of a configuration file
pub record Traced : Type 0 where
  pub config : List ℕ
  pub recording : List ℕ
  pub dp : List ℕ
  pub port : ℕ
  pub frame : List ℕ

abbrev pub traced_by : (config recording dp : List ℕ) → (port : ℕ) → (frame : List ℕ) → Traced
traced_by config recording dp port frame = record { config = config; recording = recording; dp = dp; port = port; frame = frame }

-- as it is lent
abbrev pub traced_in : Asked → Traced
traced_in asked = traced_by asked.config.now asked.recording.now asked.dp.now asked.port asked.frame.now

-- the job that follows it so
abbrev pub job_for : How → Traced → Job
job_for hows.Trace traced = jobs.Trace traced.config traced.recording traced.dp traced.port traced.frame
job_for hows.Walk traced = jobs.Walk traced.config traced.recording traced.dp traced.port traced.frame

-- ---- the reply

-- what is shown, or how the run over the recording ended
abbrev pub followed_answer : (config recording : List ℕ) → Followed → Answer
followed_answer config recording (followed.Showed s) = shown_answer config s
followed_answer config recording (followed.Ended end) = record { out = []; err = last_line recording end; status = number_of_status (status_after end) }

-- How it ended goes by whether the recording is there, where the files tell that, but for want of memory.
pub record GoesByRecording (contents : Option Contents) (recording : List ℕ) (fault : Type 0) (end : Followed) : Type 0 where
  pub missing : Tells contents recording None → (end ≡ followed.Ended replayed.Unread) ⊎ (end ≡ followed.Ended replayed.Memory)
  pub there : (bytes : List ℕ) → Tells contents recording (Some bytes) → end ≡ followed.Ended replayed.Unread → fault

-- the reply where the configuration has the datapath and the interface
abbrev pub RepliesFollowed : How → Option Contents → (absence fault : Type 0) → Traced → Configuration → Answer → Type 0
RepliesFollowed how contents absence fault traced conf a =
    (p : Packet) × (packet traced.frame ≡ Some p)
    × ((end : Followed) × Follows how contents traced.recording absence fault conf traced.dp traced.port p end × GoesByRecording contents traced.recording fault end × (a ≡ followed_answer traced.config traced.recording end))

abbrev pub RepliesEntered : How → Option Contents → (absence fault : Type 0) → Traced → Configuration → Option Missing → Answer → Type 0
RepliesEntered how contents absence fault traced conf (Some missing) a = a ≡ missing_answer traced.config traced.dp traced.port missing
RepliesEntered how contents absence fault traced conf None a = RepliesFollowed how contents absence fault traced conf a

-- the reply by the configuration that a file gave
abbrev pub RepliesFollow : How → Option Contents → (absence fault : Type 0) → Traced → Load → Answer → Type 0
RepliesFollow how contents absence fault traced (Err why) a = a ≡ refusal traced.config why
RepliesFollow how contents absence fault traced (Ok conf) a =
    RepliesEntered how contents absence fault traced conf (missing_in conf traced.dp traced.port) a

-- ---- its status

-- 5 where a record is refused, else 0 where lines are shown and 9 where a datapath isn't ready
abbrev pub IsEndStatus : How → Configuration → Traced → List Happening → Option RecordRefused → ℕ → Type 0
IsEndStatus how conf traced story (Some refused) n = n ≡ 5
IsEndStatus how conf traced story None n =
    (p : Packet) × (packet traced.frame ≡ Some p) × (n ≡ (shown_answer [] (shown how (behind (first conf) story) traced.dp traced.port p)).status)

-- by what the recording holds: 3 where there is none, or 7 where its story has more turns than may be taken
abbrev pub IsFollowedStatus : How → Configuration → Traced → (file : Option (List ℕ)) → ℕ → Type 0
IsFollowedStatus how conf traced None n = n ≡ 3
IsFollowedStatus how conf traced (Some bytes) n =
    ((story : List Happening) × (refused : Option RecordRefused) × IsStoryOf bytes story (closed_in conf story) refused
    × (length story < 2 ^ 64 - 1) × IsEndStatus how conf traced story refused n)
    ⊎ ((story : List Happening) × IsStorySoFar bytes story (closed_in conf story) × (length story ≡ 2 ^ 64 - 1) × (n ≡ 7))

-- 2 where the datapath or the interface isn't there
abbrev pub IsEnteredStatus : How → Configuration → Traced → (file : Option (List ℕ)) → Option Missing → ℕ → Type 0
IsEnteredStatus how conf traced file (Some missing) n = n ≡ 2
IsEnteredStatus how conf traced file None n = IsFollowedStatus how conf traced file n

abbrev pub IsFollowStatus : How → Traced → Held → Configuration → ℕ → Type 0
IsFollowStatus how traced held conf n = IsEnteredStatus how conf traced (held traced.recording) (missing_in conf traced.dp traced.port) n

-- ---- the commands

-- The configuration is accepted and has the interface, and this is the story that the recording tells of its controller: of all its
-- records, or of those before this one, which is refused.
pub record IsEntered (traced : Traced) (refused : Option RecordRefused) (held : Held) : Type 0 where
  pub conf : Configuration
  pub bytes : List ℕ
  pub story : List Happening
  pub accepted : loaded held traced.config ≡ Ok conf
  pub enters : missing_in conf traced.dp traced.port ≡ None
  pub file : held traced.recording ≡ Some bytes
  pub told : IsStoryOf bytes story (closed_in conf story) refused
  pub right : (front : List Happening) → IsFront front story → IsRight conf front

-- Of the frame's packet this is shown by what the controller knows behind the recording, and it alone was written.
pub record IsFollowed (how : How) (traced : Traced) (held : Held) (s : Shown) (out_old out_new err_old err_new : Option (List ℕ)) : Type 0 where
  pub entered : IsEntered traced None held
  pub p : Packet
  pub reads : packet traced.frame ≡ Some p
  pub shows : shown how (behind (first entered.conf) entered.story) traced.dp traced.port p ≡ s
  pub out : out_new ≡ appended out_old (shown_answer traced.config s).out
  pub err : err_new ≡ appended err_old (shown_answer traced.config s).err

-- A record is refused, and the line that says so is all that was written.
pub record IsCutShort (traced : Traced) (refused : RecordRefused) (held : Held) (out_old out_new err_old err_new : Option (List ℕ)) : Type 0 where
  pub entered : IsEntered traced (Some refused) held
  pub out : out_new ≡ appended out_old []
  pub err : err_new ≡ appended err_old (last_line traced.recording (replayed.Read (Some refused)))
