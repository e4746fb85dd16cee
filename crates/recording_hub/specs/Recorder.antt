-- What becomes of a recording that is being written.
use Rattle.std.specs.Prelude.{◌≡◌, ◌⊎◌, ◌&&◌, ℕ, ◌-◌, ◌^◌, Bool, true, false, nat_lt, nat_le, List, length, Option}
use Rattle.fg_outside.specs.Counts.{Rose}
use Rattle.fg_outside.specs.Wrote.{appended, AppendsFront}
use Rattle.recording.specs.declared.record.Record.{Record}
use Rattle.recording.specs.Kinds.{is_length}
use Rattle.recording.specs.Conns.{is_among, is_conn}
use Rattle.recording.specs.Layout.{Spells}
use Rattle.recording.specs.Recording.{Place, after}
use Rattle.recording_hub.specs.declared.recorder.Recorder.{Recorder}
use Rattle.recording_hub.specs.Recorded.{bytes_of, record_of_closing}

-- how far the recording has come
abbrev pub place_of : {S : Type 0} → Recorder S → Place
place_of rec = record { count = rec.count; moment = rec.moment; opened = rec.opened }

-- a record had no place behind the others, or wasn't written whole
abbrev pub is_broken : {S : Type 0} → Recorder S → Bool
is_broken rec = rec.broken

-- the record may stand there, as Follows says
abbrev pub may_follow : Place → Record → Bool
may_follow place r = nat_lt place.count (2 ^ 64 - 2) && is_length r.kind (length r.body) && nat_le place.moment r.moment && is_conn r.kind r.conn place.opened

-- the record may stand behind the others, and is written there
pub record Notes {S : Type 0} (wrote : S → Option (List ℕ)) (old : Recorder S) (r : Record) (new : Recorder S) : Type 0 where
  pub follows : may_follow (place_of old) r ≡ true
  pub spells : Spells r (bytes_of r)
  pub bytes : wrote new.sink ≡ appended (wrote old.sink) (bytes_of r)
  pub place : place_of new ≡ after (place_of old) r
  pub whole : is_broken new ≡ false

-- the record may not stand there, or a write failed: a front of it is written at most
pub record Breaks {S : Type 0} (wrote : S → Option (List ℕ)) (faults : S → ℕ) (old : Recorder S) (r : Record) (new : Recorder S) : Type 0 where
  pub front : AppendsFront (wrote old.sink) (wrote new.sink) (bytes_of r)
  pub why : (may_follow (place_of old) r ≡ false) ⊎ Rose (faults old.sink) (faults new.sink)
  pub broken : is_broken new ≡ true

abbrev pub Puts : {S : Type 0} → (S → Option (List ℕ)) → (S → ℕ) → Recorder S → Record → Recorder S → Type 0
Puts wrote faults old r new = Notes wrote old r new ⊎ Breaks wrote faults old r new

-- nothing is written
pub record Rests {S : Type 0} (wrote : S → Option (List ℕ)) (old new : Recorder S) : Type 0 where
  pub bytes : wrote new.sink ≡ wrote old.sink
  pub place : place_of new ≡ place_of old
  pub broken : is_broken new ≡ is_broken old

-- nothing is written of a connection that isn't open in the recording, or of any in a broken one
pub record PassesClosing {S : Type 0} (old : Recorder S) (conn : ℕ) (new : Recorder S) : Type 0 where
  pub why : (is_broken old ≡ true) ⊎ (is_among (place_of old).opened conn ≡ false)
  pub same : new ≡ old

-- a connection that is open in the recording is closed there too
pub record ClosesToo {S : Type 0} (wrote : S → Option (List ℕ)) (faults : S → ℕ) (old : Recorder S) (conn : ℕ) (new : Recorder S) : Type 0 where
  pub whole : is_broken old ≡ false
  pub there : is_among (place_of old).opened conn ≡ true
  pub puts : Puts wrote faults old (record_of_closing (place_of old).moment conn) new

-- a connection was closed
abbrev pub NotesClosing : {S : Type 0} → (S → Option (List ℕ)) → (S → ℕ) → Recorder S → (conn : ℕ) → Recorder S → Type 0
NotesClosing wrote faults old conn new = PassesClosing old conn new ⊎ ClosesToo wrote faults old conn new
