-- What a run over a recording has done.
use Rattle.std.specs.Prelude.{◌≡◌, ℕ, ◌-◌, ◌^◌, ◌<◌, ◌≤◌, ◌⊎◌, List, [], length, Option, Some, None}
use Rattle.fg_outside.specs.declared.hub.Happening.{Happening}
use Rattle.fg_outside.specs.Contents.{Contents, Tells}
use Rattle.fg_outside.specs.Counts.{Rose}
use Rattle.fg_outside.specs.Wrote.{appended, AppendsFront}
use Rattle.recording.specs.declared.refused.RecordRefused.{RecordRefused}
use Rattle.recording.specs.declared.script_hub.ScriptHub.{ScriptHub}
use Rattle.recording.specs.Script.{IsStoryOf, IsStoryOfFront, IsStorySoFar, ScriptStep, StandsFor, refusal_in, source_in}
use Rattle.hub_drive.specs.declared.drive.Drove.{Drove}
use Rattle.hub_drive.specs.declared.drive.Drove.TheVariants as drove
use Rattle.hub_drive.specs.declared.replay.Replayed.{Replayed}
use Rattle.hub_drive.specs.declared.replay.Replayed.TheVariants.{Read, Unread, Spent, WriteFault, Memory}
use Rattle.hub_drive.specs.declared.sayings.Outlet.{Outlet}
use Rattle.hub_drive.specs.Driven.{Drives, Goes, WholeButLast}
use Rattle.hub_drive.specs.Driving.{closings_of, lines_of, out_of}
use Rattle.hub_drive.specs.Machine.{Workings}

abbrev pub replayed_by : Drove → Option RecordRefused → Replayed
replayed_by drove.Done refused = Read refused
replayed_by drove.HubFault refused = Unread
replayed_by drove.Spent refused = Spent
replayed_by drove.WriteFault refused = WriteFault
replayed_by drove.Memory refused = Memory

-- ---- what was written of it, where this is known first

-- what goes to standard output, and the lines
pub record WritesAll {S : Type 0} (m : Workings S) (outlet : Outlet) (w : S) (story : List Happening) (out_old out_new err_old err_new : Option (List ℕ)) : Type 0 where
  pub out : out_new ≡ appended out_old (out_of m outlet w story)
  pub err : err_new ≡ appended err_old (lines_of m w story)

-- fronts of these, which end in the last turn
pub record WritesFront {S : Type 0} (m : Workings S) (outlet : Outlet) (w : S) (story : List Happening) (out_old out_new err_old err_new : Option (List ℕ)) : Type 0 where
  pub out : AppendsFront out_old out_new (out_of m outlet w story)
  pub err : AppendsFront err_old err_new (lines_of m w story)
  pub but_last : WholeButLast m outlet w story out_old out_new err_old err_new

-- where the files tell the recording, so much of its story was taken in
abbrev pub TellsSoFar : {S : Type 0} → Workings S → Option Contents → (name : List ℕ) → S → List Happening → Type 0
TellsSoFar m contents name w story = (bytes : List ℕ) → Tells contents name (Some bytes) → IsStorySoFar bytes story (closings_of m 0 w story)

-- where they tell it, the story is that of whole records at its front
abbrev pub TellsFront : {S : Type 0} → Workings S → Option Contents → (name : List ℕ) → S → List Happening → Type 0
TellsFront m contents name w story = (bytes : List ℕ) → Tells contents name (Some bytes) → IsStoryOfFront bytes story (closings_of m 0 w story)

-- by how the run ended
abbrev pub Replays : {S : Type 0} → Workings S → Outlet → Option Contents → (name : List ℕ) → (absence fault : Type 0) → S → (out_old out_new err_old err_new : Option (List ℕ)) → Replayed → Type 0
Replays m outlet contents name absence fault w out_old out_new err_old err_new (Read refused) =
    (story : List Happening) × WritesAll m outlet w story out_old out_new err_old err_new × (length story < 2 ^ 64 - 1)
    × ((bytes : List ℕ) → Tells contents name (Some bytes) → IsStoryOf bytes story (closings_of m 0 w story) refused)
Replays m outlet contents name absence fault w out_old out_new err_old err_new Unread =
    (story : List Happening) × WritesAll m outlet w story out_old out_new err_old err_new × TellsFront m contents name w story × (absence ⊎ fault)
Replays m outlet contents name absence fault w out_old out_new err_old err_new Spent =
    (story : List Happening) × WritesAll m outlet w story out_old out_new err_old err_new × TellsSoFar m contents name w story × (length story ≡ 2 ^ 64 - 1)
Replays m outlet contents name absence fault w out_old out_new err_old err_new WriteFault =
    (story : List Happening) × WritesFront m outlet w story out_old out_new err_old err_new × TellsSoFar m contents name w story
Replays m outlet contents name absence fault w out_old out_new err_old err_new Memory =
    (story : List Happening) × WritesFront m outlet w story out_old out_new err_old err_new × TellsSoFar m contents name w story

-- The files that it was read from are handed back. Where it wasn't read, though it is there, a read failed, and the file that was refused
-- last is then the recording, unless the count of faults stood at its last value. No read that failed is passed over, or tried again in
-- silence.
pub record GivesBack {F : Type 0} (contents : F → Option Contents) (faults absences : F → ℕ) (refused : F → List ℕ) (name : List ℕ) (old new : F) (unread : Type 0) : Type 0 where
  pub there : (bytes : List ℕ) → Tells (contents old) name (Some bytes) → unread → Rose (faults old) (faults new)
  pub named : unread → faults old < 2 ^ 64 - 1 → refused new ≡ name
  pub no_fault : (unread → ⊥) → faults old < 2 ^ 64 - 1 → faults new ≡ faults old
  pub same_contents : contents new ≡ contents old
  pub no_fewer_faults : faults old ≤ faults new
  pub no_fewer_absences : absences old ≤ absences new

-- ---- the run over a source

-- a hub that began to read this source went along its calls, and gave it back
pub record ReadsSource {F : Type 0} (left : F → Option (List ℕ)) (may : F → F → Type 0) (from to : F) : Type 0 where
  pub hub : ScriptHub F
  pub after : ScriptHub F
  pub begins : StandsFor left (left from) hub [] None []
  pub takes : source_in hub ≡ from
  pub gives : source_in after ≡ to
  pub goes : Goes (ScriptStep left may) hub after

-- a machine was driven by it
pub record RunsSource {S F : Type 0} (m : Workings S) (outlet : Outlet) (left : F → Option (List ℕ)) (may : F → F → Type 0) (w : S) (from : F) (out_old out_new err_old err_new : Option (List ℕ))
    (how : Drove) (refused : Option RecordRefused) : Type 0 where
  pub hub : ScriptHub F
  pub after : ScriptHub F
  pub begins : StandsFor left (left from) hub [] None []
  pub tells : refused ≡ refusal_in after
  pub drives : Drives m (ScriptStep left may) outlet (2 ^ 64 - 1) w hub after out_old out_new err_old err_new how
