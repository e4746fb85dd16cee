-- The run over a recording that writes nothing, from what the hub that reads it gave and was told.
use Rattle.std.proofs.Common.{◌≡◌, ◌⊎◌, ◌-◌, ◌^◌, ℕ, List, [], Option, Some, None, refl, sym, subst}
use Rattle.fg_outside.specs.declared.file_source.FileSource.{FileSource}
use Rattle.fg_outside.specs.Contents.{Contents}
use Rattle.fg_outside.specs.Contents.{Tells as FilesTell}
use Rattle.fg_outside.specs.FileSource.{left_in, KeepsFiles}
use Rattle.recording.specs.declared.refused.RecordRefused.{RecordRefused}
use Rattle.recording.specs.declared.script_hub.ScriptHub.{ScriptHub}
use Rattle.recording.specs.Script.{refusal_in, IsStoryOf, StandsFor}
use Rattle.hub_drive.specs.declared.drive.Drove.{Drove}
use Rattle.hub_drive.specs.declared.drive.Drove.TheVariants as drove
use Rattle.hub_drive.specs.declared.replay.Replayed.TheVariants as replayed
use Rattle.hub_drive.specs.declared.sayings.Outlet.TheVariants.{Nowhere}
use Rattle.hub_drive.specs.Driving.{closings_of}
use Rattle.hub_drive.specs.Machine.{Workings}
use Rattle.hub_drive.specs.Replay.{replayed_by}
use Rattle.hub_drive.specs.Still.{Ended, RunsStill, Took}
use Rattle.hub_drive.proofs.Replaying.{BeginsToRead, MayRead, whole_so_far, whole_story}

module _ {S F : Type 0} (m : Workings S) (held : F → Option Contents) (faults absences : F → ℕ) (named : F → List ℕ) (contents : Option Contents) (name : List ℕ) (w : S) (stands : S → Type 0) where
  module _ (hub : ScriptHub (FileSource F)) (begins : BeginsToRead held faults absences named contents name hub) where
    ended : (absence fault : Type 0) (after : ScriptHub (FileSource F)) (refused : Option RecordRefused) → refused ≡ refusal_in after → (how : Drove)
        → Took m (MayRead held faults absences named) (2 ^ 64 - 1) w stands hub after how → (how ≡ drove.HubFault → absence ⊎ fault)
        → Ended m contents name absence fault w stands (replayed_by how refused)
    ended absence fault after refused is drove.Done (hs, mid, few, told, done, known) why = (
      hs,
      few,
      known,
      λ bytes tells. subst (λ (r : Option RecordRefused). IsStoryOf bytes hs (closings_of m 0 w hs) r) (sym is)
          (whole_story m Nowhere held faults absences named contents name w hub begins hs told.steps mid after told.leads told.deeds done bytes tells),
    )
    ended absence fault after refused is drove.HubFault took why = why refl
    ended absence fault after refused is drove.Spent (hs, most, told) why = (
      hs,
      most,
      whole_so_far m Nowhere held faults absences named contents name w hub begins hs told.steps after told.leads told.deeds,
    )
    ended absence fault after refused is drove.WriteFault took why = absurd took
    ended absence fault after refused is drove.Memory took why = tt

  -- a run over the file
  module _ (from : FileSource F) (how : Drove) (refused : Option RecordRefused) (runs : RunsStill m (left_in held) (KeepsFiles held faults absences named) w stands from how refused) where
    pub run_ended : ((bytes : List ℕ) → FilesTell contents name (Some bytes) → left_in held from ≡ Some bytes) → (absence fault : Type 0) → (how ≡ drove.HubFault → absence ⊎ fault)
        → Ended m contents name absence fault w stands (replayed_by how refused)
    run_ended left absence fault why =
        ended runs.hub (λ bytes tells. subst (λ (l : Option (List ℕ)). StandsFor (left_in held) l runs.hub [] None []) (left bytes tells) runs.begins)
        absence fault runs.after refused runs.tells how runs.took why
