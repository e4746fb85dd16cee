-- What a run over a recording has done that writes nothing.
use Rattle.std.specs.Prelude.{◌≡◌, ℕ, ◌-◌, ◌^◌, ◌<◌, ◌⊎◌, List, [], length, Option, Some, None}
use Rattle.fg_outside.specs.declared.hub.Happening.{Happening}
use Rattle.fg_outside.specs.declared.hub.Turn.TheVariants as turns
use Rattle.fg_outside.specs.Contents.{Contents}
use Rattle.fg_outside.specs.Contents.{Tells as FilesTell}
use Rattle.fg_outside.specs.HubStep.{HubStep, turned}
use Rattle.recording.specs.declared.refused.RecordRefused.{RecordRefused}
use Rattle.recording.specs.declared.script_hub.ScriptHub.{ScriptHub}
use Rattle.recording.specs.Script.{IsStoryOf, ScriptStep, StandsFor, refusal_in}
use Rattle.hub_drive.specs.declared.drive.Drove.{Drove}
use Rattle.hub_drive.specs.declared.drive.Drove.TheVariants as drove
use Rattle.hub_drive.specs.declared.replay.Replayed.{Replayed}
use Rattle.hub_drive.specs.declared.replay.Replayed.TheVariants.{Read, Unread, Spent, WriteFault, Memory}
use Rattle.hub_drive.specs.declared.sayings.Outlet.TheVariants.{Nowhere}
use Rattle.hub_drive.specs.Driven.{Tells}
use Rattle.hub_drive.specs.Driving.{closings_of, deeds_of}
use Rattle.hub_drive.specs.Machine.{Workings, behind}
use Rattle.hub_drive.specs.Replay.{TellsSoFar}

-- Where it was read to its end or to a refused record, the story that was taken in is that of the recording, and this holds of what is
-- known behind it.
abbrev pub Ended : {S : Type 0} → Workings S → Option Contents → (name : List ℕ) → (absence fault : Type 0) → S → (stands : S → Type 0) → Replayed → Type 0
Ended m contents name absence fault w stands (Read refused) =
    (story : List Happening) × (length story < 2 ^ 64 - 1) × stands (behind m w story)
    × ((bytes : List ℕ) → FilesTell contents name (Some bytes) → IsStoryOf bytes story (closings_of m 0 w story) refused)
Ended m contents name absence fault w stands Unread = absence ⊎ fault
Ended m contents name absence fault w stands Spent =
    (story : List Happening) × (length story ≡ 2 ^ 64 - 1) × TellsSoFar m contents name w story
Ended m contents name absence fault w stands WriteFault = ⊥
Ended m contents name absence fault w stands Memory = Unit {0}

-- ---- on a hub

-- a hub gave this story and was told what is closed in it, by how that ended
abbrev pub Took : {S H : Type 0} → Workings S → (H → HubStep → H → Type 0) → (most : ℕ) → S → (stands : S → Type 0) → (hub_old hub_new : H) → Drove → Type 0
Took {H = H} m may most w stands hub_old hub_new drove.Done =
    (hs : List Happening) × (mid : H) × (length hs < most) × Tells may hub_old (deeds_of m Nowhere w hs) mid × may mid (turned turns.Done) hub_new
    × stands (behind m w hs)
Took m may most w stands hub_old hub_new drove.HubFault = Unit {0}
Took m may most w stands hub_old hub_new drove.Spent = (hs : List Happening) × (length hs ≡ most) × Tells may hub_old (deeds_of m Nowhere w hs) hub_new
Took m may most w stands hub_old hub_new drove.WriteFault = ⊥
Took m may most w stands hub_old hub_new drove.Memory = Unit {0}

-- the same on a hub that read this source
pub record RunsStill {S F : Type 0} (m : Workings S) (left : F → Option (List ℕ)) (may : F → F → Type 0) (w : S) (stands : S → Type 0) (from : F) (how : Drove) (refused : Option RecordRefused) : Type 0 where
  pub hub : ScriptHub F
  pub after : ScriptHub F
  pub begins : StandsFor left (left from) hub [] None []
  pub tells : refused ≡ refusal_in after
  pub took : Took m (ScriptStep left may) (2 ^ 64 - 1) w stands hub after how
