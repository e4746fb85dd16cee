-- The record that is written of what happens.
use Rattle.std.specs.Prelude.{ℕ, nat_lt, if◌then◌else◌, List, [], ◌∷◌, length}
use Rattle.fg_outside.specs.declared.hub.Happening.{Happening}
use Rattle.fg_outside.specs.declared.hub.Happening.TheVariants as happenings
use Rattle.fg_outside.specs.declared.hub.EndCause.TheVariants.{End}
use Rattle.recording.specs.declared.kind.RecordKind.TheVariants as kinds
use Rattle.recording.specs.declared.record.Record.{Record}
use Rattle.recording.specs.Kinds.{number_of}
use Rattle.recording.specs.Written.{laid}

-- A text that a record can hold. A longer one is no configuration, and one byte 0, which is none either, stands in its place.
abbrev pub held_text : List ℕ → List ℕ
held_text text = if nat_lt 1048576 (length text) then 0 ∷ [] else text

-- what a record tells in place of a happening: an end without its cause, and a text that it can hold
abbrev pub held : Happening → Happening
held (happenings.Opened conn) = happenings.Opened conn
held (happenings.Heard conn piece) = happenings.Heard conn piece
held (happenings.Closed conn cause) = happenings.Closed conn End
held (happenings.Moment moment) = happenings.Moment moment
held (happenings.Reload text) = happenings.Reload (held_text text)

-- the record of a happening, where the last moment was this
abbrev pub record_of : (last : ℕ) → Happening → Record
record_of last (happenings.Opened conn) = record { moment = last; kind = kinds.Open; conn = conn; body = [] }
record_of last (happenings.Heard conn piece) = record { moment = last; kind = kinds.Bytes; conn = conn; body = piece }
record_of last (happenings.Closed conn cause) = record { moment = last; kind = kinds.Close; conn = conn; body = [] }
record_of last (happenings.Moment moment) = record { moment = moment; kind = kinds.Moment; conn = 0; body = [] }
record_of last (happenings.Reload text) = record { moment = last; kind = kinds.Reload; conn = 0; body = held_text text }

-- the record of a connection that was closed, which a reader passes over
abbrev pub record_of_closing : (last conn : ℕ) → Record
record_of_closing last conn = record { moment = last; kind = kinds.Close; conn = conn; body = [] }

-- its bytes
abbrev pub bytes_of : Record → List ℕ
bytes_of r = laid r.moment (number_of r.kind) r.conn r.body
