-- What becomes of a hub on whose turns a controller is run beside a watched file, and of the recording that is written of it.
use Rattle.std.specs.Prelude.{◌≡◌, ℕ, ◌≤◌, Bool, if◌then◌else◌, List, length, map, Option}
use Rattle.fg_outside.specs.declared.hub.Happening.{Happening}
use Rattle.fg_outside.specs.Contents.{Contents}
use Rattle.fg_outside.specs.HubStep.{HubStep, Story, happening}
use Rattle.fg_outside.specs.Wrote.{appended, AppendsFront}
use Rattle.conf_types.specs.Configuration.{Configuration}
use Rattle.recording.specs.declared.record.Record.{Record}
use Rattle.recording.specs.Recording.{Records}
use Rattle.recording.specs.Turns.{turns}
use Rattle.recording_hub.specs.Recorded.{held}
use Rattle.recording_hub.specs.RecordedStory.{IsCut}
use Rattle.ctl_world.specs.World.{World, first}
use Rattle.hub_drive.specs.declared.drive.Drove.{Drove}
use Rattle.hub_drive.specs.declared.drive.Drove.TheVariants.{Done, HubFault, Spent, WriteFault, Memory}
use Rattle.ctl_drive.specs.Driving.{lines_of}
use Rattle.ctl_drive.specs.Replay.{closed_in}
use Rattle.ctl_serve.specs.Served.{Ended, Served, ServedPart}
use Rattle.ctl_recorded.specs.declared.run.RecordedEnd.{RecordedEnd}
use Rattle.ctl_recorded.specs.declared.run.RecordedEnd.TheVariants.{By, BrokeOff}

-- how serving ended, where the recording is broken or not: a broken one ends it, unless a write of lines failed or memory ran out
abbrev pub ended_by : Drove → Bool → RecordedEnd
ended_by Done is_broken = if is_broken then BrokeOff else By Done
ended_by HubFault is_broken = if is_broken then BrokeOff else By HubFault
ended_by Spent is_broken = if is_broken then BrokeOff else By Spent
ended_by WriteFault is_broken = By WriteFault
ended_by Memory is_broken = By Memory

-- ---- the recording

-- Behind what a sink had it took a recording of what happened to the controller of this configuration: records that give it, each
-- happening as a record holds it, where the controller closes what it closes.
pub record IsRecording (conf : Configuration) (happened : List Happening) (old new : Option (List ℕ)) : Type 0 where
  pub records : List Record
  pub bytes : List ℕ
  pub written : new ≡ appended old bytes
  pub is : Records bytes records
  pub tells : turns records (closed_in conf happened) ≡ map held happened

-- the same, and a front of one more record may stand behind it
pub record IsRecordingSoFar (conf : Configuration) (happened : List Happening) (old new : Option (List ℕ)) : Type 0 where
  pub records : List Record
  pub bytes : List ℕ
  pub part : List ℕ
  pub written : new ≡ appended (appended old bytes) part
  pub is : Records bytes records
  pub tells : turns records (closed_in conf happened) ≡ map held happened
  pub cut : IsCut part

-- by how serving ended
abbrev pub IsRecordedTo : Configuration → List Happening → (old new : Option (List ℕ)) → RecordedEnd → Type 0
IsRecordedTo conf happened old new (By Done) = IsRecording conf happened old new
IsRecordedTo conf happened old new (By HubFault) = IsRecording conf happened old new
IsRecordedTo conf happened old new (By Spent) = IsRecording conf happened old new
IsRecordedTo conf happened old new (By WriteFault) = IsRecordingSoFar conf happened old new
IsRecordedTo conf happened old new (By Memory) = IsRecordingSoFar conf happened old new
IsRecordedTo conf happened old new BrokeOff = IsRecordingSoFar conf happened old new

-- ---- the hub and the files

-- how often something happened
abbrev pub HasEnded : (most : ℕ) → List Happening → RecordedEnd → Type 0
HasEnded most happened (By drove) = Ended most happened drove
HasEnded most happened BrokeOff = length happened ≤ most

-- The hub was served up to a state, and behind that gave at most one happening more, of which no whole record was written.
pub record ServedBefore {H F : Type 0} (may : H → HubStep → H → Type 0) (contents : F → Option Contents) (faults : F → ℕ) (name text : List ℕ) (every : ℕ) (w : World) (happened : List Happening)
    (hub_old hub_new : H) (files_old files_new : F) : Type 0 where
  pub hub_then : H
  pub files_then : F
  pub served : Served may contents faults name text every (length happened) w happened Spent hub_old hub_then files_old files_then
  pub lost : List Happening
  pub few : length lost ≤ 1
  pub gave : Story may hub_then (map (λ (it : Happening). happening it) lost) hub_new
  pub counted : faults files_then ≤ faults files_new

-- by how serving ended: where the recording broke off, the hub was told all of what happened, as where all turns were taken
abbrev pub ServedTo : {H F : Type 0} → (H → HubStep → H → Type 0) → (F → Option Contents) → (F → ℕ) → (name text : List ℕ) → (every most : ℕ) → World → List Happening
    → (hub_old hub_new : H) → (files_old files_new : F) → RecordedEnd → Type 0
ServedTo may contents faults name text every most w happened hub_old hub_new files_old files_new (By Done) =
    Served may contents faults name text every most w happened Done hub_old hub_new files_old files_new
ServedTo may contents faults name text every most w happened hub_old hub_new files_old files_new (By HubFault) =
    Served may contents faults name text every most w happened HubFault hub_old hub_new files_old files_new
ServedTo may contents faults name text every most w happened hub_old hub_new files_old files_new (By Spent) =
    Served may contents faults name text every most w happened Spent hub_old hub_new files_old files_new
ServedTo may contents faults name text every most w happened hub_old hub_new files_old files_new (By WriteFault) =
    Served may contents faults name text every (length happened) w happened WriteFault hub_old hub_new files_old files_new
ServedTo may contents faults name text every most w happened hub_old hub_new files_old files_new (By Memory) =
    ServedPart may contents faults name text every w happened hub_old hub_new files_old files_new
ServedTo may contents faults name text every most w happened hub_old hub_new files_old files_new BrokeOff =
    ServedBefore may contents faults name text every w happened hub_old hub_new files_old files_new

-- ---- all of it

-- the lines that stand on standard error: all, or a front where their write failed or memory ran out
abbrev pub StandsTo : (err_old err_new : Option (List ℕ)) → RecordedEnd → (lines : List ℕ) → Type 0
StandsTo err_old err_new (By Done) lines = err_new ≡ appended err_old lines
StandsTo err_old err_new (By HubFault) lines = err_new ≡ appended err_old lines
StandsTo err_old err_new (By Spent) lines = err_new ≡ appended err_old lines
StandsTo err_old err_new (By WriteFault) lines = AppendsFront err_old err_new lines
StandsTo err_old err_new (By Memory) lines = AppendsFront err_old err_new lines
StandsTo err_old err_new BrokeOff lines = err_new ≡ appended err_old lines

-- This happened to the controller: hub and files were served so, the sink took a recording of it, and `Says` holds of the lines of
-- it.
pub record ServesRecorded {H F : Type 0} (may : H → HubStep → H → Type 0) (contents : F → Option Contents) (faults : F → ℕ) (name text : List ℕ) (every most : ℕ) (conf : Configuration)
    (hub_old hub_new : H) (files_old files_new : F) (sink_old sink_new : Option (List ℕ)) (Says : List ℕ → Type 0) (end : RecordedEnd) : Type 0 where
  pub happened : List Happening
  pub ended : HasEnded most happened end
  pub served : ServedTo may contents faults name text every most (first conf) happened hub_old hub_new files_old files_new end
  pub recorded : IsRecordedTo conf happened sink_old sink_new end
  pub said : Says (lines_of (first conf) happened)
