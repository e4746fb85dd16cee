-- The replay of a recording, from what the hub that reads it gave and was told.
use Rattle.std.proofs.Common.{◌≡◌, ◌≤◌, ◌<◌, ◌⊎◌, inl, inr, ℕ, ◌+◌, ◌-◌, ◌^◌, min, arith, Bool, true, false, List, [], Option, Some, None, Result, Ok, Err, IfOk, OnOk, OnErr, refl, sym, ap, subst, ◌∙◌}
use Rattle.std.specs.Result.{result_unwrap_or}
use Rattle.fg_outside.specs.declared.file_source.FileSource.{FileSource}
use Rattle.fg_outside.specs.declared.hub.Happening.{Happening}
use Rattle.fg_outside.specs.declared.hub.Turn.TheVariants.{Done as is_done, Failed as has_failed}
use Rattle.fg_outside.specs.Contents.{Contents}
use Rattle.fg_outside.specs.Contents.{Tells as FilesTell}
use Rattle.fg_outside.specs.Counts.{Rose}
use Rattle.fg_outside.specs.FileSource.{faults_of, files_of, left_in, missing_of, name_of, KeepsFiles}
use Rattle.fg_outside.specs.Wrote.{appended}
use Rattle.fg_outside.specs.HubStep.{HubStep, Leads, happenings, story, turned}
use Rattle.fg_outside.proofs.SinkLemmas.{appended-nil}
use Rattle.fg_outside.proofs.CountLemmas.{Rose-since}
use Rattle.fg_outside.proofs.StepLemmas.{Went-all, KeepsFiles-fault, KeepsFiles-read, KeepsFiles-same, KeepsFiles-then}
use Rattle.recording.specs.declared.refused.RecordRefused.{RecordRefused}
use Rattle.recording.specs.declared.script_hub.ScriptHub.{ScriptHub}
use Rattle.recording.specs.Script.{refusal_in, source_in, IsStoryOf, IsStoryOfFront, IsStorySoFar, ScriptStep, StandsFor}
use Rattle.recording.specs.Turns.{Closing, closings}
use Rattle.recording.proofs.Whole.{done_told, failed_told, source_goes, stopped_told}
use Rattle.hub_drive.specs.declared.drive.Drove.{Drove}
use Rattle.hub_drive.specs.declared.drive.Drove.TheVariants as drove
use Rattle.hub_drive.specs.declared.replay.Replayed.TheVariants as replayed
use Rattle.hub_drive.specs.declared.sayings.Outlet.{Outlet}
use Rattle.hub_drive.specs.Driving.{Deed, IsFront, closings_of, deeds, deeds_of, out_of}
use Rattle.hub_drive.specs.Machine.{Workings}
use Rattle.hub_drive.specs.Driven.{Drives}
use Rattle.hub_drive.specs.Replay.{GivesBack, ReadsSource, Replays, RunsSource, TellsFront, TellsSoFar, replayed_by}
use Rattle.hub_drive.proofs.Deeds.{told_with_all, whole_closed, whole_happened}
use Rattle.hub_drive.proofs.Stories.{out-none}
use Rattle.hub_drive.proofs.Telling.{IsFront-same}

-- ---- nothing was read

module _ {S : Type 0} (m : Workings S) (outlet : Outlet) (contents : Option Contents) (name : List ℕ) (w : S) where
  nothing_told : TellsFront m contents name w []
  nothing_told = λ bytes tells. record { records = []; front = []; rest = bytes; parts = refl; are = record { spell = refl; follow = tt }; told = refl }

  nothing_out : (out : Option (List ℕ)) → out ≡ appended out (out_of m outlet w [])
  nothing_out out = sym (ap (λ (l : List ℕ). appended out l) (out-none m outlet w) ∙ appended-nil out)

  pub never_read : (absence fault : Type 0) (out err : Option (List ℕ)) → absence ⊎ fault → Replays m outlet contents name absence fault w out out err err replayed.Unread
  never_read absence fault out err why = ([], record { out = nothing_out out; err = sym (appended-nil err) }, nothing_told, why)

-- a file that isn't there, or isn't read
pub why_unread : {E : Type 0} (there : Result Bool E) (absence fault : Type 0) → IfOk there (λ b. b ≡ false → absence) → OnErr there fault → result_unwrap_or there false ≡ false → absence ⊎ fault
why_unread (Ok b) absence fault absent failed h = inl (absent h)
why_unread (Err e) absence fault absent failed h = inr failed

pub was_there : {E : Type 0} (there : Result Bool E) → IfOk there (λ b. b ≡ false) → result_unwrap_or there false ≡ true → ⊥
was_there (Ok b) missing h = cc
was_there (Err e) missing h = cc

pub failed_write : (how : Drove) (refused : Option RecordRefused) → replayed_by how refused ≡ replayed.WriteFault → how ≡ drove.WriteFault
failed_write drove.Done refused h = cc
failed_write drove.HubFault refused h = cc
failed_write drove.Spent refused h = cc
failed_write drove.WriteFault refused h = refl
failed_write drove.Memory refused h = cc

pub no_failed_write : (how : Drove) (refused : Option RecordRefused) → (replayed_by how refused ≡ replayed.WriteFault → ⊥) → how ≡ drove.WriteFault → ⊥
no_failed_write how refused other is = other (ap (λ (d : Drove). replayed_by d refused) is)

pub no_failed_read : (how : Drove) (refused : Option RecordRefused) → (replayed_by how refused ≡ replayed.Unread → ⊥) → how ≡ drove.HubFault → ⊥
no_failed_read how refused other is = other (ap (λ (d : Drove). replayed_by d refused) is)

-- a file that is there was read
pub was_read : {E : Type 0} (there : Result Bool E) (kept : Type 0) → OnOk there kept → result_unwrap_or there false ≡ true → kept
was_read (Ok b) kept read h = read
was_read (Err e) kept read h = cc

-- counts that together stay, of which none fell, stay each, unless they stand at their last value
none_rose : (faults old now : ℕ) (missed missed_now : ℕ) → missed ≡ 0 → old ≡ faults → old ≤ now
    → min (now + missed_now) (2 ^ 64 - 1) ≡ min (old + missed) (2 ^ 64 - 1) → faults < 2 ^ 64 - 1 → now ≡ faults
none_rose faults old now missed missed_now none so_far grown same below = omega (arith, none, so_far, grown, same, below)

-- a count that rose is greater, where it didn't stand at its last value
grew : (faults old missed now : ℕ) → missed ≡ 0 → old ≡ faults → faults < 2 ^ 64 - 1 → Rose (min (old + missed) (2 ^ 64 - 1)) now → min (old + missed) (2 ^ 64 - 1) < now
grew faults old missed now none so_far below rose = omega (arith, none, so_far, below, rose)

-- ---- what was read

module _ {F : Type 0} (held : F → Option Contents) (faults absences : F → ℕ) (named : F → List ℕ) where
  -- the steps of the hub that reads a file
  abbrev pub MayRead : ScriptHub (FileSource F) → HubStep → ScriptHub (FileSource F) → Type 0
  MayRead old step new = ScriptStep (left_in held) (KeepsFiles held faults absences named) old step new

  -- a hub that begins to read this file
  abbrev pub BeginsToRead : Option Contents → List ℕ → ScriptHub (FileSource F) → Type 0
  BeginsToRead contents name hub = (bytes : List ℕ) → FilesTell contents name (Some bytes) → StandsFor (left_in held) (Some bytes) hub [] None []

  -- along any calls its files are kept
  pub reads_keep : (from to : FileSource F) → ReadsSource (left_in held) (KeepsFiles held faults absences named) from to → KeepsFiles held faults absences named from to
  reads_keep from to reads =
      subst (λ (s : FileSource F). KeepsFiles held faults absences named from s) reads.gives
      (subst (λ (s : FileSource F). KeepsFiles held faults absences named s (source_in reads.after)) reads.takes
      (Went-all (KeepsFiles held faults absences named) (KeepsFiles held faults absences named) (KeepsFiles-same held faults absences named) (KeepsFiles-then held faults absences named) (λ (a b : FileSource F) keeps. keeps) (source_in reads.hub) (source_in reads.after)
      (source_goes (left_in held) (KeepsFiles held faults absences named) reads.hub reads.after reads.goes.0 reads.goes.1)))

  -- a fault of the hub is one of its files
  pub fault_of_files : (files : F) (old new : FileSource F) → missing_of old ≡ 0 → faults files ≤ faults (files_of old) → absences files ≤ absences (files_of old) → KeepsFiles held faults absences named old new → Rose (faults_of faults old) (faults_of faults new) → Rose (absences files) (absences (files_of new)) ⊎ Rose (faults files) (faults (files_of new))
  fault_of_files files old new none faults_so_far absences_so_far keeps rose =
      elim (KeepsFiles-fault held faults absences named old new none keeps rose) [
        | inl risen ↦ inr (Rose-since (faults files) (faults (files_of old)) (faults (files_of new)) faults_so_far risen)
        | inr risen ↦ inl (Rose-since (absences files) (absences (files_of old)) (absences (files_of new)) absences_so_far risen)
      ]

  -- where the faults of the hub stay, those of its files do
  pub none_of_files : (files : F) (old new : FileSource F) → missing_of old ≡ 0 → faults (files_of old) ≡ faults files → KeepsFiles held faults absences named old new → faults_of faults new ≡ faults_of faults old → faults files < 2 ^ 64 - 1 → faults (files_of new) ≡ faults files
  none_of_files files old new none so_far keeps same below =
      none_rose (faults files) (faults (files_of old)) (faults (files_of new)) (missing_of old) (missing_of new) none so_far keeps.files_faults same below

  -- where the faults of the hub grew, the file that its files last refused is the one that it reads
  pub named_by_file : (files : F) (old new : FileSource F) (name : List ℕ) → missing_of old ≡ 0 → faults (files_of old) ≡ faults files → name_of old ≡ name → KeepsFiles held faults absences named old new
      → Rose (faults_of faults old) (faults_of faults new) → faults files < 2 ^ 64 - 1 → named (files_of new) ≡ name
  named_by_file files old new name none so_far is keeps rose below =
      keeps.named (grew (faults files) (faults (files_of old)) (missing_of old) (faults_of faults new) none so_far below rose) ∙ keeps.same_name ∙ is

  -- where the file is told, a fault is one of reading it
  pub fault_of_told : (files : F) (old new : FileSource F) (bytes : List ℕ) → missing_of old ≡ 0 → FilesTell (held (files_of old)) (name_of old) (Some bytes) → faults files ≤ faults (files_of old) → KeepsFiles held faults absences named old new → Rose (faults_of faults old) (faults_of faults new) → Rose (faults files) (faults (files_of new))
  fault_of_told files old new bytes none tells so_far keeps rose = Rose-since (faults files) (faults (files_of old)) (faults (files_of new)) so_far (KeepsFiles-read held faults absences named old new bytes none tells keeps rose)

  -- the files behind a run over one of them
  module _ (files : F) (old new : FileSource F) (name : List ℕ) (none : missing_of old ≡ 0) (is : name_of old ≡ name) (same : held (files_of old) ≡ held files) (so_far : faults (files_of old) ≡ faults files)
      (no_fewer : absences files ≤ absences (files_of old)) (keeps : KeepsFiles held faults absences named old new) (unread : Type 0)
      (rose : unread → Rose (faults_of faults old) (faults_of faults new)) (stayed : (unread → ⊥) → faults_of faults new ≡ faults_of faults old) where
    pub gives_back : GivesBack held faults absences named name files (files_of new) unread
    gives_back = record {
      there = λ bytes tells not_read. fault_of_told files old new bytes none (rw (same, is) tells) (omega (arith, so_far)) keeps (rose not_read);
      named = λ not_read below. named_by_file files old new name none so_far is keeps (rose not_read) below;
      no_fault = λ read below. none_of_files files old new none so_far keeps (stayed read) below;
      same_contents = keeps.same_contents ∙ same;
      no_fewer_faults = omega (arith, so_far, keeps.files_faults);
      no_fewer_absences = omega (arith, no_fewer, keeps.files_absences);
    }

module _ {S F : Type 0} (m : Workings S) (outlet : Outlet) (held : F → Option Contents) (faults absences : F → ℕ) (named : F → List ℕ) where
  module _ (contents : Option Contents) (name : List ℕ) (w : S) (hub : ScriptHub (FileSource F)) (begins : BeginsToRead held faults absences named contents name hub) where
    so_far : (hs : List Happening) (steps : List HubStep) (to : ScriptHub (FileSource F)) → Leads (MayRead held faults absences named) hub steps to → IsFront (deeds (story steps)) (deeds_of m outlet w hs) → happenings (story steps) ≡ hs → TellsSoFar m contents name w hs
    so_far hs steps to way front happened = λ bytes tells.
        let told = stopped_told (left_in held) (KeepsFiles held faults absences named) bytes hub to steps (begins bytes tells) way in
        told_with_all m outlet w hs (story steps) bytes front happened (subst (λ (l : List Happening). IsStorySoFar bytes l (closings 0 (story steps))) happened told)

    pub whole_so_far : (hs : List Happening) (steps : List HubStep) (to : ScriptHub (FileSource F)) → Leads (MayRead held faults absences named) hub steps to → deeds (story steps) ≡ deeds_of m outlet w hs → TellsSoFar m contents name w hs
    whole_so_far hs steps to way told =
        so_far hs steps to way (subst (λ (l : List Deed). IsFront (deeds (story steps)) l) told (IsFront-same (deeds (story steps)))) (whole_happened m outlet w hs (story steps) told)

    whole_front : (hs : List Happening) (steps : List HubStep) (to after : ScriptHub (FileSource F)) → Leads (MayRead held faults absences named) hub steps to → deeds (story steps) ≡ deeds_of m outlet w hs → MayRead held faults absences named to (turned has_failed) after → TellsFront m contents name w hs
    whole_front hs steps to after way told failed = λ bytes tells.
        subst (λ (l : List Closing). IsStoryOfFront bytes hs l) (whole_closed m outlet w hs (story steps) 0 told)
        (subst (λ (l : List Happening). IsStoryOfFront bytes l (closings 0 (story steps))) (whole_happened m outlet w hs (story steps) told)
        (failed_told (left_in held) (KeepsFiles held faults absences named) bytes hub to after steps (begins bytes tells) way failed))

    pub whole_story : (hs : List Happening) (steps : List HubStep) (to after : ScriptHub (FileSource F)) → Leads (MayRead held faults absences named) hub steps to → deeds (story steps) ≡ deeds_of m outlet w hs → MayRead held faults absences named to (turned is_done) after → (bytes : List ℕ) → FilesTell contents name (Some bytes) → IsStoryOf bytes hs (closings_of m 0 w hs) (refusal_in after)
    whole_story hs steps to after way told done bytes tells =
        subst (λ (l : List Closing). IsStoryOf bytes hs l (refusal_in after)) (whole_closed m outlet w hs (story steps) 0 told)
        (subst (λ (l : List Happening). IsStoryOf bytes l (closings 0 (story steps)) (refusal_in after)) (whole_happened m outlet w hs (story steps) told)
        (done_told (left_in held) (KeepsFiles held faults absences named) bytes hub to after steps (begins bytes tells) way done))

    -- by how driving ended
    pub replays : (absence fault : Type 0) (after : ScriptHub (FileSource F)) (out_old out_new err_old err_new : Option (List ℕ)) (refused : Option RecordRefused) → refused ≡ refusal_in after → (how : Drove) → Drives m (MayRead held faults absences named) outlet (2 ^ 64 - 1) w hub after out_old out_new err_old err_new how → (how ≡ drove.HubFault → absence ⊎ fault) → Replays m outlet contents name absence fault w out_old out_new err_old err_new (replayed_by how refused)
    replays absence fault after out_old out_new err_old err_new refused is drove.Done (hs, mid, few, all, done) why = (
      hs,
      record { out = all.out; err = all.err },
      few,
      λ bytes tells. subst (λ (r : Option RecordRefused). IsStoryOf bytes hs (closings_of m 0 w hs) r) (sym is) (whole_story hs all.told.steps mid after all.told.leads all.told.deeds done bytes tells),
    )
    replays absence fault after out_old out_new err_old err_new refused is drove.HubFault (hs, mid, few, all, failed) why = (
      hs,
      record { out = all.out; err = all.err },
      whole_front hs all.told.steps mid after all.told.leads all.told.deeds failed,
      why refl,
    )
    replays absence fault after out_old out_new err_old err_new refused is drove.Spent (hs, most, all) why = (
      hs,
      record { out = all.out; err = all.err },
      whole_so_far hs all.told.steps after all.told.leads all.told.deeds,
      most,
    )
    replays absence fault after out_old out_new err_old err_new refused is drove.WriteFault (hs, few, front, all_told) why = (
      hs,
      record { out = front.out; err = front.err; but_last = front.but_last },
      so_far hs front.told.steps after front.told.leads front.told.front front.happened,
    )
    replays absence fault after out_old out_new err_old err_new refused is drove.Memory (hs, few, front) why = (
      hs,
      record { out = front.out; err = front.err; but_last = front.but_last },
      so_far hs front.told.steps after front.told.leads front.told.front front.happened,
    )

  -- ---- a run over the file

  module _ (contents : Option Contents) (name : List ℕ) (w : S) (from : FileSource F) (out_old out_new err_old err_new : Option (List ℕ)) (how : Drove) (refused : Option RecordRefused)
      (runs : RunsSource m outlet (left_in held) (KeepsFiles held faults absences named) w from out_old out_new err_old err_new how refused) where
    pub run_replays : ((bytes : List ℕ) → FilesTell contents name (Some bytes) → left_in held from ≡ Some bytes) → (absence fault : Type 0) → (how ≡ drove.HubFault → absence ⊎ fault) → Replays m outlet contents name absence fault w out_old out_new err_old err_new (replayed_by how refused)
    run_replays left absence fault why =
        replays contents name w runs.hub
        (λ bytes tells. subst (λ (l : Option (List ℕ)). StandsFor (left_in held) l runs.hub [] None []) (left bytes tells) runs.begins)
        absence fault runs.after out_old out_new err_old err_new refused runs.tells how runs.drives why

pub unread_fault : (how : Drove) (refused : Option RecordRefused) → replayed_by how refused ≡ replayed.Unread → how ≡ drove.HubFault
unread_fault drove.Done refused h = cc
unread_fault drove.HubFault refused h = refl
unread_fault drove.Spent refused h = cc
unread_fault drove.WriteFault refused h = cc
unread_fault drove.Memory refused h = cc

-- a file that is there, and isn't read
pub why_not_read : {E : Type 0} (there : Result Bool E) (fault : Type 0) → IfOk there (λ b. b ≡ true) → OnErr there fault → result_unwrap_or there false ≡ false → fault
why_not_read (Ok b) fault is failed h = cc
why_not_read (Err e) fault is failed h = failed

-- the name of a file that is there, and isn't read, or isn't there
pub named_unread : {E : Type 0} (there : Result Bool E) (named : Type 0) → IfOk there (λ b. b ≡ false → named) → OnErr there named → result_unwrap_or there false ≡ false → named
named_unread (Ok b) named absent failed h = absent h
named_unread (Err e) named absent failed h = failed
