-- The recording of what happened to a controller.
use Rattle.std.proofs.Common.{◌≡◌, ℕ, false, List, [], ◌∷◌, ◌++◌, map, Option, sym, ap, ◌∙◌}
use Rattle.std.proofs.lemmas.List.{append-nil}
use Rattle.fg_outside.specs.declared.hub.Happening.{Happening}
use Rattle.fg_outside.specs.HubStep.{HubStep, Event, happenings, story, told_by}
use Rattle.fg_outside.specs.Wrote.{appended}
use Rattle.fg_outside.proofs.SinkLemmas.{appended-nil}
use Rattle.fg_outside.proofs.StoryLemmas.{story-next}
use Rattle.conf_types.specs.Configuration.{Configuration}
use Rattle.recording.specs.Turns.{Closing, closings, turns}
use Rattle.recording_hub.specs.declared.recording_hub.RecordingHub.{RecordingHub}
use Rattle.recording_hub.specs.Recorded.{held}
use Rattle.recording_hub.specs.RecordedStory.{RecordedStory}
use Rattle.recording_hub.specs.RecordingHub.{has_failed, sink_in}
use Rattle.ctl_world.specs.World.{first}
use Rattle.hub_drive.specs.declared.sayings.Outlet.TheVariants.{Hub}
use Rattle.hub_drive.specs.Driving.{IsFront, deeds}
use Rattle.ctl_drive.specs.Driving.{deeds_of}
use Rattle.hub_drive.proofs.Deeds.{whole_closed, whole_happened}
use Rattle.ctl_drive.specs.Controller.{controller}
use Rattle.ctl_recorded.specs.RecordedRun.{IsRecording, IsRecordingSoFar}
use Rattle.ctl_recorded.proofs.Closings.{front_closed}

-- a call that tells nothing
pub quiet_deeds : (steps : List HubStep) (step : HubStep) → told_by step ≡ [] → deeds (story (steps ++ step ∷ [])) ≡ deeds (story steps)
quiet_deeds steps step none = ap (λ (l : List Event). deeds l) (story-next steps step ∙ ap (λ (l : List Event). story steps ++ l) none ∙ append-nil (story steps))

module _ {H S : Type 0} (may : H → HubStep → H → Type 0) (wrote : S → Option (List ℕ)) (from to : RecordingHub H S) (events : List Event) (r : RecordedStory may wrote from events to) (conf : Configuration) (hs : List Happening) where
  tells_all : deeds events ≡ deeds_of Hub (first conf) hs → turns r.records (closings 0 events) ≡ map held hs
  tells_all told = r.tells ∙ ap (λ (l : List Happening). map held l) (whole_happened controller Hub (first conf) hs events told)

  -- where it is whole, and all was told
  pub recording_of : deeds events ≡ deeds_of Hub (first conf) hs → has_failed to ≡ false → IsRecording conf hs (wrote (sink_in from)) (wrote (sink_in to))
  recording_of told whole = record {
    records = r.records;
    bytes = r.bytes;
    written = r.written ∙ ap (λ (l : List ℕ). appended (appended (wrote (sink_in from)) r.bytes) l) (r.whole whole) ∙ appended-nil (appended (wrote (sink_in from)) r.bytes);
    is = r.is;
    tells = ap (λ (l : List Closing). turns r.records l) (sym (whole_closed controller Hub (first conf) hs events 0 told)) ∙ tells_all told;
  }

  -- where all was told
  pub recording_so_far : deeds events ≡ deeds_of Hub (first conf) hs → IsRecordingSoFar conf hs (wrote (sink_in from)) (wrote (sink_in to))
  recording_so_far told = record {
    records = r.records;
    bytes = r.bytes;
    part = r.part;
    written = r.written;
    is = r.is;
    tells = ap (λ (l : List Closing). turns r.records l) (sym (whole_closed controller Hub (first conf) hs events 0 told)) ∙ tells_all told;
    cut = r.cut;
  }

  -- where a front was told of all that happened
  pub recording_of_front : IsFront (deeds events) (deeds_of Hub (first conf) hs) → happenings events ≡ hs → IsRecordingSoFar conf hs (wrote (sink_in from)) (wrote (sink_in to))
  recording_of_front front happened = record {
    records = r.records;
    bytes = r.bytes;
    part = r.part;
    written = r.written;
    is = r.is;
    tells = front_closed (first conf) hs events r.records front happened (r.tells ∙ ap (λ (l : List Happening). map held l) happened);
    cut = r.cut;
  }
