-- The one answer of `replay` and of `gauge` to a recording, and what is written of it wherever the run stops.
use Rattle.std.specs.Prelude.{◌≡◌, ◌⊎◌, ◌<◌, ℕ, ◌-◌, ◌^◌, List, [], ◌++◌, length, Option, Some, Ok}
use Rattle.fg_outside.specs.declared.hub.Happening.{Happening}
use Rattle.fg_outside.specs.Contents.{Contents}
use Rattle.fg_outside.specs.Counts.{Rose}
use Rattle.fg_outside.specs.Wrote.{appended, AppendsFront}
use Rattle.conf_types.specs.Configuration.{Configuration}
use Rattle.conf_gather.specs.Gathered.{Held}
use Rattle.gauge_conf.specs.declared.gauge.GaugeConf.{GaugeConf}
use Rattle.conf_load.specs.Loaded.{loaded}
use Rattle.gauge_load.specs.Loaded.{gauge_of}
use Rattle.command_line.specs.declared.meaning.Job.{Job}
use Rattle.recording.specs.declared.refused.RecordRefused.{RecordRefused}
use Rattle.recording.specs.Script.{IsStoryOf}
use Rattle.ctl_world.specs.World.{first}
use Rattle.gauge_poll.specs.Monitoring.{begun}
use Rattle.hub_drive.specs.declared.replay.Replayed.{Replayed}
use Rattle.hub_drive.specs.declared.replay.Replayed.TheVariants.{Spent}
use Rattle.hub_drive.specs.declared.sayings.Outlet.{Outlet}
use Rattle.hub_drive.specs.Driving.{IsFront, closings_of, lines_of, out_of}
use Rattle.hub_drive.specs.Machine.{Workings}
use Rattle.ctl_drive.specs.Controller.{controller}
use Rattle.gauge_drive.specs.Gauge.{monitor}
use Rattle.faucet_top.specs.Answer.{last_line, unread}
use Rattle.faucet_top.specs.Given.{Gives}

-- ---- the one story

-- The files hold a recording, of which this is the one story, to its end or to its first refused record, where a machine that begins
-- with this closes what it closes.
pub record TellsStory {S : Type 0} (m : Workings S) (w : S) (held : Held) (recording : List ℕ) (story : List Happening) (refused : Option RecordRefused) : Type 0 where
  pub bytes : List ℕ
  pub file : held recording ≡ Some bytes
  pub told : IsStoryOf bytes story (closings_of m 0 w story) refused

-- they hold a configuration that is accepted beside it, and the machine is its controller
pub record IsReplayOf (held : Held) (config recording : List ℕ) (conf : Configuration) (story : List Happening) (refused : Option RecordRefused) : Type 0 where
  pub accepted : loaded held config ≡ Ok conf
  pub tells : TellsStory controller (first conf) held recording story refused

-- they hold one of Gauge's, and the machine is its Gauge
pub record IsGaugeOf (held : Held) (config recording : List ℕ) (conf : GaugeConf) (story : List Happening) (refused : Option RecordRefused) : Type 0 where
  pub accepted : gauge_of held config ≡ Ok conf
  pub tells : TellsStory monitor (begun conf) held recording story refused

-- ---- what is written of it

module _ {S : Type 0} (m : Workings S) (outlet : Outlet) (w : S) (story : List Happening) (out_old out_new err_old err_new : Option (List ℕ)) where
  -- On standard output stands a front of what the story gives; on standard error lines at the front of its lines and the one that
  -- says how the run ended, or a front of these.
  pub record AnswersFront : Type 0 where
    pub lines : List ℕ
    pub name : List ℕ
    pub end : Replayed
    pub out : AppendsFront out_old out_new (out_of m outlet w story)
    pub front : IsFront lines (lines_of m w story)
    pub err : AppendsFront err_old err_new (lines ++ last_line name end)

  -- The turns of a front of the story are answered whole, and behind their lines stands this one.
  pub record AnswersTurns (front : List Happening) (last : List ℕ) : Type 0 where
    pub is : IsFront front story
    pub out : out_new ≡ appended out_old (out_of m outlet w front)
    pub err : err_new ≡ appended err_old (lines_of m w front ++ last)

  -- a read failed: no turn is answered in part
  abbrev pub StopsUnread : Type 0
  StopsUnread = (front : List Happening) × (name : List ℕ) × AnswersTurns front (unread name).err

  -- as many turns were taken as may be, and each is answered whole
  abbrev pub StopsSpent : Type 0
  StopsSpent = (front : List Happening) × (length front ≡ 2 ^ 64 - 1) × AnswersTurns front (last_line [] Spent)

  -- that is so at status 7; at 0 and at 5 the story has fewer turns
  abbrev pub IsSpentAt7 : (status : ℕ) → Type 0
  IsSpentAt7 status = (status ≡ 7 → StopsSpent) × ((status ≡ 0) ⊎ (status ≡ 5) → length story < 2 ^ 64 - 1)

-- ---- of each reply

-- whatever reply to a job was delivered where the files hold this, it leaves so much on the streams, by its status
abbrev pub EachReplyLeaves : Job → Contents → (Leaves : (out_old out_new err_old err_new : Option (List ℕ)) → (status : ℕ) → Type 0) → Type 0
EachReplyLeaves job held Leaves =
    (absences_old absences_new faults_old faults_new status : ℕ) (name : List ℕ) (out_old out_new err_old err_new : Option (List ℕ)) (m0 m1 n0 n1 : ℕ)
    → Gives (Some job) (Some held) (Rose absences_old absences_new) (Rose faults_old faults_new) name status out_old out_new err_old err_new m0 m1 n0 n1
    → Leaves out_old out_new err_old err_new status
