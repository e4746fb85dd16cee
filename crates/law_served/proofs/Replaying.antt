-- A replay of what a sink took.
use Rattle.std.proofs.Common.{◌≡◌, ℕ, List, [], ◌++◌, map, Option, Some, None, refl, sym, ap, subst, ◌∙◌}
use Rattle.fg_outside.specs.declared.hub.Happening.{Happening}
use Rattle.fg_outside.specs.Contents.{Contents, Tells}
use Rattle.fg_outside.specs.Wrote.{appended}
use Rattle.conf_types.specs.Configuration.{Configuration}
use Rattle.recording.specs.declared.record.Record.{Record}
use Rattle.recording.specs.declared.refused.RecordRefused.{RecordRefused}
use Rattle.recording.specs.Recording.{Records}
use Rattle.recording.specs.Script.{IsStoryOf}
use Rattle.recording.specs.Turns.{turns}
use Rattle.recording.proofs.Grammar.{not_both, one_list}
use Rattle.recording_hub.specs.Recorded.{held}
use Rattle.recording_hub.specs.RecordedStory.{AreHeld}
use Rattle.recording_hub.proofs.Telling.{all_held}
use Rattle.ctl_world.specs.World.{first}
use Rattle.hub_drive.specs.declared.replay.Replayed.TheVariants.{Read}
use Rattle.hub_drive.specs.Driving.{IsFront}
use Rattle.ctl_drive.specs.Controller.{controller}
use Rattle.ctl_drive.specs.Replay.{Replays, WritesAll, closed_in}
use Rattle.law_recordings.proofs.Begun.{whole_records_story}
use Rattle.law_recordings.proofs.Told.{one_story}
use Rattle.ctl_recorded.specs.RecordedRun.{IsRecording, IsRecordingSoFar}

-- ---- the replay

tells_held : (conf : Configuration) (happened : List Happening) (records : List Record) → AreHeld happened → turns records (closed_in conf happened) ≡ map held happened → happened ≡ turns records (closed_in conf happened)
tells_held conf happened records are tells = sym (tells ∙ all_held happened are)

same_bytes : (bytes all : List ℕ) → Some all ≡ appended (Some []) bytes → all ≡ bytes
same_bytes bytes all is = cc

pub replayed_story : (conf : Configuration) (happened other : List Happening) (bytes : List ℕ) (refused : Option RecordRefused) → AreHeld happened
    → IsRecording conf happened (Some []) (Some bytes) → IsStoryOf bytes other (closed_in conf other) refused → (other ≡ happened) × (refused ≡ None)
replayed_story conf happened other bytes None are recording is =
    let whole : Records bytes recording.records = subst (λ (l : List ℕ). Records l recording.records) (sym (same_bytes recording.bytes bytes recording.written)) recording.is in
    let same : is.records ≡ recording.records = one_list bytes is.records recording.records (is.whole refl) whole in (
      one_story controller (first conf) recording.records other happened (is.told ∙ ap (λ (l : List Record). turns l (closed_in conf other)) same) (tells_held conf happened recording.records are recording.tells),
      refl,
    )
replayed_story conf happened other bytes (Some r) are recording is =
    let whole : Records bytes recording.records = subst (λ (l : List ℕ). Records l recording.records) (sym (same_bytes recording.bytes bytes recording.written)) recording.is in
    absurd (not_both bytes recording.records is.records r.number r.cause whole (is.refuses r refl))

pub replayed_streams : (conf : Configuration) (happened : List Happening) (bytes name : List ℕ) (contents : Option Contents) (absence fault : Type 0) (out_old out err_old err : Option (List ℕ)) (refused : Option RecordRefused) → AreHeld happened
    → IsRecording conf happened (Some []) (Some bytes) → Tells contents name (Some bytes) → Replays contents name absence fault conf out_old out err_old err (Read refused) → WritesAll conf happened out_old out err_old err × (refused ≡ None)
replayed_streams conf happened bytes name contents absence fault out_old out err_old err refused are recording told (story, writes, few, is) =
    let one = replayed_story conf happened story bytes refused are recording (is bytes told) in
    (subst (λ (l : List Happening). WritesAll conf l out_old out err_old err) one.0 writes, one.1)

pub broken_story : (conf : Configuration) (happened other : List Happening) (bytes : List ℕ) (refused : Option RecordRefused) → AreHeld happened
    → IsRecordingSoFar conf happened (Some []) (Some bytes) → IsStoryOf bytes other (closed_in conf other) refused → IsFront happened other
broken_story conf happened other bytes refused are recording is =
    let same : bytes ≡ recording.bytes ++ recording.part = same_bytes (recording.bytes ++ recording.part) bytes recording.written in
    whole_records_story controller (first conf) bytes happened other refused is (record {
      records = recording.records;
      front = recording.bytes;
      rest = recording.part;
      parts = same;
      are = recording.is;
      told = tells_held conf happened recording.records are recording.tells;
    })
