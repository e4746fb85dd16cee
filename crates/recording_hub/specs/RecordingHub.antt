-- What callers see of a hub whose happenings are recorded, and the steps that it may take.
use Rattle.std.specs.Prelude.{◌≡◌, ◌≢◌, ◌⊎◌, ◌≤◌, ◌+◌, ℕ, Bool, true, false, List, Option}
use Rattle.fg_outside.specs.declared.hub.Happening.{Happening}
use Rattle.fg_outside.specs.declared.hub.Turn.{Turn}
use Rattle.fg_outside.specs.declared.hub.Turn.TheVariants.{Happened, Done, Failed, Memory}
use Rattle.fg_outside.specs.declared.hub.Said.TheVariants as answers
use Rattle.fg_outside.specs.HubStep.{HubStep, turned, said, closed, Leads}
use Rattle.recording.specs.Recording.{first_place}
use Rattle.recording_hub.specs.declared.recording_hub.RecordingHub.{RecordingHub}
use Rattle.recording_hub.specs.Recorded.{record_of}
use Rattle.recording_hub.specs.Recorder.{place_of, is_broken, Notes, Breaks, Rests, NotesClosing}

-- the hub that it passes on
abbrev pub hub_in : {H S : Type 0} → RecordingHub H S → H
hub_in it = it.hub

-- the sink that takes the recording
abbrev pub sink_in : {H S : Type 0} → RecordingHub H S → S
sink_in it = it.recorder.sink

-- the recording is broken: a record had no place behind the others, or wasn't written whole
abbrev pub has_failed : {H S : Type 0} → RecordingHub H S → Bool
has_failed it = is_broken it.recorder

-- memory ran out in it
abbrev pub is_spent : {H S : Type 0} → RecordingHub H S → Bool
is_spent it = it.spent

-- how often a turn failed: the hub's, or since the recording is broken
abbrev pub faults_of : {H S : Type 0} → (H → ℕ) → RecordingHub H S → ℕ
faults_of faults it = faults (hub_in it) + it.failures

-- nothing was recorded yet
pub record IsBegun {H S : Type 0} (it : RecordingHub H S) : Type 0 where
  pub place : place_of it.recorder ≡ first_place
  pub whole : has_failed it ≡ false
  pub running : is_spent it ≡ false
  pub counted : it.failures ≡ 0

-- ---- its steps

-- the hub gives a happening, whose record is written
pub record Gives {H S : Type 0} (may : H → HubStep → H → Type 0) (wrote : S → Option (List ℕ)) (old : RecordingHub H S) (it : Happening) (new : RecordingHub H S) : Type 0 where
  pub ran : is_spent old ≡ false
  pub was_whole : has_failed old ≡ false
  pub hub : may (hub_in old) (turned (Happened it)) (hub_in new)
  pub noted : Notes wrote old.recorder (record_of (place_of old.recorder).moment it) new.recorder

-- the hub gives a happening whose record isn't written whole
pub record BreaksOff {H S : Type 0} (may : H → HubStep → H → Type 0) (wrote : S → Option (List ℕ)) (faults : S → ℕ) (old new : RecordingHub H S) : Type 0 where
  pub was_whole : has_failed old ≡ false
  pub it : Happening
  pub hub : may (hub_in old) (turned (Happened it)) (hub_in new)
  pub breaks : Breaks wrote faults old.recorder (record_of (place_of old.recorder).moment it) new.recorder

-- the recording was broken, and the hub isn't asked
pub record StaysBroken {H S : Type 0} (old new : RecordingHub H S) : Type 0 where
  pub was_broken : has_failed old ≡ true
  pub hub : hub_in new ≡ hub_in old
  pub recorder : new.recorder ≡ old.recorder

-- the hub gives this answer in place of a happening, and nothing is written
pub record EndsWith {H S : Type 0} (may : H → HubStep → H → Type 0) (answer : Turn) (old new : RecordingHub H S) : Type 0 where
  pub was_whole : has_failed old ≡ false
  pub hub : may (hub_in old) (turned answer) (hub_in new)
  pub recorder : new.recorder ≡ old.recorder

-- the hub is called in the same way, and nothing is written
pub record Calls {H S : Type 0} (may : H → HubStep → H → Type 0) (step : HubStep) (old new : RecordingHub H S) : Type 0 where
  pub hub : may (hub_in old) step (hub_in new)
  pub recorder : new.recorder ≡ old.recorder

-- the hub closes a connection, and so does the recording
pub record Closes {H S : Type 0} (may : H → HubStep → H → Type 0) (wrote : S → Option (List ℕ)) (faults : S → ℕ) (conn : ℕ) (old new : RecordingHub H S) : Type 0 where
  pub ran : is_spent old ≡ false
  pub hub : may (hub_in old) (closed conn) (hub_in new)
  pub noted : NotesClosing wrote faults old.recorder conn new.recorder

-- the hub closes a connection, and nothing is written of it: memory ran out, now or before
pub record ClosesUnnoted {H S : Type 0} (may : H → HubStep → H → Type 0) (wrote : S → Option (List ℕ)) (conn : ℕ) (old new : RecordingHub H S) : Type 0 where
  pub hub : may (hub_in old) (closed conn) (hub_in new)
  pub rests : Rests wrote old.recorder new.recorder
  pub spent : is_spent new ≡ true

-- what the hub was asked where memory ran out in a turn: nothing; or its turn was answered so; or it gave a happening, which isn't
-- passed on
pub data IsAskedOnce {H : Type 0} (may : H → HubStep → H → Type 0) (old new : H) : Type 0 where
  nothing : new ≡ old → IsAskedOnce may old new
  in_vain : may old (turned Memory) new → IsAskedOnce may old new
  lost : (it : Happening) → may old (turned (Happened it)) new → IsAskedOnce may old new

-- memory ran out in a turn, and nothing is written
pub record LosesTurn {H S : Type 0} (may : H → HubStep → H → Type 0) (wrote : S → Option (List ℕ)) (old new : RecordingHub H S) : Type 0 where
  pub hub : IsAskedOnce may (hub_in old) (hub_in new)
  pub rests : Rests wrote old.recorder new.recorder
  pub spent : is_spent new ≡ true

-- Memory ran out for a piece: the hub, called in the same way, had none; or it ran out before, and the hub isn't called.
pub record LosesPiece {H S : Type 0} (may : H → HubStep → H → Type 0) (conn : ℕ) (piece : List ℕ) (old new : RecordingHub H S) : Type 0 where
  pub hub : is_spent old ≡ false → may (hub_in old) (said conn piece answers.Memory) (hub_in new)
  pub no_hub : is_spent old ≡ true → hub_in new ≡ hub_in old
  pub recorder : new.recorder ≡ old.recorder
  pub spent : is_spent new ≡ true

-- what a call does, by its answer
abbrev pub Does : {H S : Type 0} → (H → HubStep → H → Type 0) → (S → Option (List ℕ)) → (S → ℕ) → RecordingHub H S → HubStep → RecordingHub H S → Type 0
Does may wrote faults old (turned (Happened it)) new = Gives may wrote old it new
Does may wrote faults old (turned Done) new = EndsWith may Done old new
Does may wrote faults old (turned Failed) new = EndsWith may Failed old new ⊎ (BreaksOff may wrote faults old new ⊎ StaysBroken old new)
Does may wrote faults old (turned Memory) new = LosesTurn may wrote old new
Does may wrote faults old (said conn piece answers.Taken) new = Calls may (said conn piece answers.Taken) old new
Does may wrote faults old (said conn piece answers.Gone) new = Calls may (said conn piece answers.Gone) old new
Does may wrote faults old (said conn piece answers.Memory) new = LosesPiece may conn piece old new
Does may wrote faults old (closed conn) new = Closes may wrote faults conn old new ⊎ ClosesUnnoted may wrote conn old new

-- whatever a call does, the hub went by steps that it may take
pub record GoesAlong {H S : Type 0} (may : H → HubStep → H → Type 0) (old new : RecordingHub H S) : Type 0 where
  pub way : List HubStep
  pub leads : Leads may (hub_in old) way (hub_in new)

-- What a call does to the counts: but for a turn that failed while the recording is whole, the hub's faults stand; turns fail of
-- its own only since the recording is broken.
pub record Counts {H S : Type 0} (hub_faults : H → ℕ) (faults : S → ℕ) (old : RecordingHub H S) (step : HubStep) (new : RecordingHub H S) : Type 0 where
  pub answered : step ≢ turned Failed → hub_faults (hub_in new) ≡ hub_faults (hub_in old)
  pub broken : has_failed new ≡ true → hub_faults (hub_in new) ≡ hub_faults (hub_in old)
  pub own : has_failed new ≡ false → new.failures ≡ old.failures
  pub hub : hub_faults (hub_in old) ≤ hub_faults (hub_in new)
  pub sink : faults (sink_in old) ≤ faults (sink_in new)

-- a step that it may take: a spent one stays so
pub record RecordingStep {H S : Type 0} (may : H → HubStep → H → Type 0) (hub_faults : H → ℕ) (wrote : S → Option (List ℕ)) (faults : S → ℕ) (old : RecordingHub H S) (step : HubStep) (new : RecordingHub H S) : Type 0 where
  pub does : Does may wrote faults old step new
  pub along : GoesAlong may old new
  pub running : is_spent new ≡ false → is_spent old ≡ false
  pub counts : Counts hub_faults faults old step new
