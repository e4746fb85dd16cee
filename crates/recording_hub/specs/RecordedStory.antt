-- The recording of a story.
use Rattle.std.specs.Prelude.{◌≡◌, ◌≤◌, ℕ, false, List, [], ◌∷◌, length, map, take, Option}
use Rattle.fg_outside.specs.declared.hub.Happening.{Happening}
use Rattle.fg_outside.specs.declared.hub.Happening.TheVariants.{Opened, Heard, Closed, Moment, Reload}
use Rattle.fg_outside.specs.declared.hub.EndCause.TheVariants.{End}
use Rattle.fg_outside.specs.HubStep.{HubStep, Event, happenings, Story}
use Rattle.fg_outside.specs.Wrote.{appended}
use Rattle.recording.specs.declared.record.Record.{Record}
use Rattle.recording.specs.Recording.{Records}
use Rattle.recording.specs.Turns.{closings, turns}
use Rattle.recording_hub.specs.declared.recording_hub.RecordingHub.{RecordingHub}
use Rattle.recording_hub.specs.Recorded.{bytes_of, held}
use Rattle.recording_hub.specs.RecordingHub.{has_failed, hub_in, is_spent, sink_in}

-- the bytes are the front of a record
pub record IsCut (bytes : List ℕ) : Type 0 where
  pub r : Record
  pub len : ℕ
  pub front : bytes ≡ take len (bytes_of r)

-- Between two states the sink took a recording of the story: its records give the turns that happened, as records can hold
-- them, where the connections are closed that were closed. A part of one more record may stand behind it once it is broken.
pub record RecordedStory {H S : Type 0} (may : H → HubStep → H → Type 0) (wrote : S → Option (List ℕ)) (from : RecordingHub H S) (events : List Event) (to : RecordingHub H S) : Type 0 where
  -- the story is the hub's, unless the last happening was lost
  pub hub : has_failed to ≡ false → is_spent to ≡ false → Story may (hub_in from) events (hub_in to)
  pub records : List Record
  pub bytes : List ℕ
  pub part : List ℕ
  pub written : wrote (sink_in to) ≡ appended (appended (wrote (sink_in from)) bytes) part
  pub is : Records bytes records
  pub tells : turns records (closings 0 events) ≡ map held (happenings events)
  pub whole : has_failed to ≡ false → part ≡ []
  pub cut : IsCut part

-- a record holds it as it is: a connection that ended was ended by the other side, and a text isn't too long
abbrev pub IsHeld : Happening → Type 0
IsHeld (Opened conn) = Unit {0}
IsHeld (Heard conn piece) = Unit {0}
IsHeld (Closed conn cause) = cause ≡ End
IsHeld (Moment moment) = Unit {0}
IsHeld (Reload text) = length text ≤ 1048576

abbrev pub AreHeld : List Happening → Type 0
AreHeld [] = Unit {0}
AreHeld (it ∷ its) = IsHeld it × AreHeld its
