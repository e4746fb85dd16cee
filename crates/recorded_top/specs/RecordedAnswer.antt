-- What `faucet_recorded` answers, and what becomes of the hub and the sink that were handed in.
use Rattle.std.specs.Prelude.{◌≡◌, ◌⊎◌, ℕ, List, [], ◌∷◌, ◌++◌, Option, Some, None, Ok, codes}
use Rattle.fg_outside.specs.Contents.{Contents}
use Rattle.fg_outside.specs.HubStep.{HubStep}
use Rattle.conf_types.specs.Configuration.{Configuration}
use Rattle.command_line.specs.declared.recorded.RecordedServe.{RecordedServe}
use Rattle.watch_hub.specs.Look.{text_of}
use Rattle.hub_drive.specs.declared.drive.Drove.TheVariants as drove
use Rattle.hub_drive.specs.Driving.{IsFront}
use Rattle.ctl_recorded.specs.declared.run.RecordedEnd.{RecordedEnd}
use Rattle.ctl_recorded.specs.declared.run.RecordedEnd.TheVariants.{By, BrokeOff}
use Rattle.ctl_recorded.specs.RecordedRun.{ServesRecorded}
use Rattle.faucet_top.specs.declared.deliver.Status.{Status}
use Rattle.faucet_top.specs.declared.deliver.Status.TheVariants as statuses
use Rattle.faucet_top.specs.Answer.{Answer, line, out_of_memory, served_line}
use Rattle.faucet_top.specs.Ends.{status_served}
use Rattle.faucet_top.specs.Given.{Loads}
use Rattle.faucet_top.specs.Serving.{UnservedAnswer}
use Rattle.faucet_top.specs.Status.{number_of_status}

abbrev pub recorded_usage : Answer
recorded_usage = record {
  out = [];
  err = line (codes "usage: faucet_recorded CONFIG --events N --record FILE, and --reload-ms M or --listen A:P" ∷ []);
  status = 1;
}

-- the line behind those that the controller wrote, by how serving ended
abbrev pub recorded_line : (record_file : List ℕ) → RecordedEnd → List ℕ
recorded_line record_file (By end) = served_line end
recorded_line record_file BrokeOff = line (record_file ∷ codes ": write fault" ∷ [])

abbrev pub status_recorded : RecordedEnd → Status
status_recorded (By end) = status_served end
status_recorded BrokeOff = statuses.WriteFault

-- what is written where serving ended so, with these lines before
abbrev pub recorded_answer : (record_file lines : List ℕ) → RecordedEnd → Answer
recorded_answer record_file lines end = record { out = []; err = lines ++ recorded_line record_file end; status = number_of_status (status_recorded end) }

-- that was delivered with these lines, or with a front of them where memory ran out; or it broke off, where a write of lines failed
abbrev pub IsSaid : (record_file : List ℕ) → (delivered broke_off : Answer → Type 0) → RecordedEnd → (lines : List ℕ) → Type 0
IsSaid record_file delivered broke_off (By drove.Done) lines = delivered (recorded_answer record_file lines (By drove.Done))
IsSaid record_file delivered broke_off (By drove.HubFault) lines = delivered (recorded_answer record_file lines (By drove.HubFault))
IsSaid record_file delivered broke_off (By drove.Spent) lines = delivered (recorded_answer record_file lines (By drove.Spent))
IsSaid record_file delivered broke_off (By drove.WriteFault) lines = broke_off (recorded_answer record_file lines (By drove.WriteFault))
IsSaid record_file delivered broke_off (By drove.Memory) lines = (front : List ℕ) × IsFront front lines × delivered (recorded_answer record_file front (By drove.Memory))
IsSaid record_file delivered broke_off BrokeOff lines = delivered (recorded_answer record_file lines BrokeOff)

-- Neither hub nor sink was asked, since memory ran out or the configuration is refused; or the file gave this configuration, of a
-- document with this text, and its controller was run on the hub until that ended, of which the sink took a recording.
abbrev pub RepliesRecorded : {H F S : Type 0} → (H → HubStep → H → Type 0) → (F → Option Contents) → (F → ℕ) → (S → Option (List ℕ)) → (absence fault : Type 0) → (refused : List ℕ) → RecordedServe
    → (hub_old hub_new : H) → (files_old files_new : F) → (sink_old sink_new : S) → (delivered broke_off : Answer → Type 0) → Type 0
RepliesRecorded may contents faults wrote absence fault refused job hub_old hub_new files_old files_new sink_old sink_new delivered broke_off =
    ((a : Answer) × UnservedAnswer (contents files_old) absence fault refused job.config a × delivered a
    × (hub_new ≡ hub_old) × (contents files_new ≡ contents files_old) × (sink_new ≡ sink_old))
    ⊎ ((conf : Configuration) × (text : List ℕ) × Loads (contents files_old) absence fault refused job.config (Ok conf)
    × ((held : Contents) → contents files_old ≡ Some held → text_of (held 0) job.config ≡ Some text)
    × (end : RecordedEnd) × ServesRecorded may contents faults job.config text job.reload_ms job.events conf hub_old hub_new files_old files_new (wrote sink_old) (wrote sink_new) (IsSaid job.record_file delivered broke_off end) end)

-- whatever the words ask for: where they have no meaning, neither hub nor sink nor files were asked
abbrev pub GivesRecorded : {H F S : Type 0} → (H → HubStep → H → Type 0) → (F → Option Contents) → (F → ℕ) → (S → Option (List ℕ)) → (absence fault : Type 0) → (refused : List ℕ) → Option RecordedServe
    → (hub_old hub_new : H) → (files_old files_new : F) → (sink_old sink_new : S) → (delivered broke_off : Answer → Type 0) → Type 0
GivesRecorded may contents faults wrote absence fault refused None hub_old hub_new files_old files_new sink_old sink_new delivered broke_off =
    (a : Answer) × ((a ≡ recorded_usage) ⊎ (a ≡ out_of_memory)) × delivered a × (hub_new ≡ hub_old) × (files_new ≡ files_old) × (sink_new ≡ sink_old)
GivesRecorded may contents faults wrote absence fault refused (Some job) hub_old hub_new files_old files_new sink_old sink_new delivered broke_off =
    RepliesRecorded may contents faults wrote absence fault refused job hub_old hub_new files_old files_new sink_old sink_new delivered broke_off
