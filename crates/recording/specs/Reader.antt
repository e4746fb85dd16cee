-- What callers see of the reader of a recording.
use Rattle.std.specs.Prelude.{◌≡◌, ℕ, ◌<◌, List, [], ◌++◌, length, Option, Some, None}
use Rattle.fg_outside.specs.Left.{prepended, IsAtEnd}
use Rattle.recording.specs.declared.reader.Reader.{Reader}
use Rattle.recording.specs.declared.record.Record.{Record}
use Rattle.recording.specs.declared.refused.RecordCause.{RecordCause}
use Rattle.recording.specs.declared.refused.RecordCause.TheVariants.{Cut, Kind, Length, Falls, Conn, Many}
use Rattle.recording.specs.Layout.{Spells}
use Rattle.recording.specs.Recording.{Place, Follows, after}
use Rattle.recording.specs.Refused.{refusal}

-- where the recording stands in front of the record that is read next
abbrev pub place_of : {S : Type 0} → Reader S → Place
place_of reader = record { count = reader.count; moment = reader.moment; opened = reader.opened }

abbrev pub source_of : {S : Type 0} → Reader S → S
source_of reader = reader.source

-- the bytes of that record that were taken from the source
abbrev pub part_of : {S : Type 0} → Reader S → List ℕ
part_of reader = reader.head ++ reader.body

-- all that is left of the recording from that record on, where the source tells it
abbrev pub left_of : {S : Type 0} → (S → Option (List ℕ)) → Reader S → Option (List ℕ)
left_of left reader = prepended (part_of reader) (left reader.source)

-- why that record is refused, where that is known
abbrev pub refused_of : {S : Type 0} → Reader S → Option RecordCause
refused_of reader = reader.refused

-- a record was taken, and no byte behind it
pub record Takes {S : Type 0} (left : S → Option (List ℕ)) (old : Reader S) (r : Record) (new : Reader S) : Type 0 where
  pub piece : List ℕ
  pub parts : left_of left old ≡ prepended piece (left_of left new)
  pub spells : Spells r piece
  pub follows : Follows (place_of old) r
  pub place : place_of new ≡ after (place_of old) r
  pub none : part_of new ≡ []
  pub unrefused : refused_of new ≡ None

-- the recording ends in front of the next record
pub record Ends {S : Type 0} (left : S → Option (List ℕ)) (reader : Reader S) : Type 0 where
  pub none : part_of reader ≡ []
  pub end : IsAtEnd (left (source_of reader))
  pub unrefused : refused_of reader ≡ None

-- a refused record is read as far as its fault: to the end of the recording, or as far as the header
abbrev pub IsReadTo : RecordCause → (part : List ℕ) → (left : Option (List ℕ)) → Type 0
IsReadTo Cut part left = IsAtEnd left
IsReadTo Kind part left = length part ≡ 17
IsReadTo Length part left = length part ≡ 17
IsReadTo Falls part left = length part ≡ 17
IsReadTo Conn part left = length part ≡ 17
IsReadTo Many part left = length part ≡ 1

-- the next record is refused
pub record Refuses {S : Type 0} (left : S → Option (List ℕ)) (reader : Reader S) (cause : RecordCause) : Type 0 where
  pub why : (bytes : List ℕ) → left_of left reader ≡ Some bytes → refusal (place_of reader) bytes ≡ Some cause
  pub begun : 0 < length (part_of reader)
  pub read : IsReadTo cause (part_of reader) (left (source_of reader))
