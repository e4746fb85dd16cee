-- The first record of a recording that is refused, and why.
use Rattle.std.specs.Prelude.{◌≡◌, ℕ, ◌+◌, ◌-◌, ◌^◌, ◌<◌, not, nat_lt, if◌then◌else◌, List, ◌++◌, length, Option, Some, None}
use Rattle.std.specs.Option.{option_or}
use Rattle.recording.specs.declared.kind.RecordKind.{RecordKind}
use Rattle.recording.specs.declared.record.Record.{Record}
use Rattle.recording.specs.declared.refused.RecordCause.{RecordCause}
use Rattle.recording.specs.declared.refused.RecordCause.TheVariants.{Cut, Kind, Length, Falls, Conn, Many}
use Rattle.recording.specs.Kinds.{kind_of, is_length}
use Rattle.recording.specs.Conns.{is_conn}
use Rattle.recording.specs.Layout.{moment_in, kind_in, conn_in, len_in}
use Rattle.recording.specs.Recording.{Place, first_place, after_all, AllSpell, AllFollow}

-- what is wrong with a header of a kind that is read
abbrev pub kind_refusal : Place → List ℕ → RecordKind → Option RecordCause
kind_refusal place bytes kind =
    if not (is_length kind (len_in bytes))
    then Some Length
    else (if nat_lt (moment_in bytes) place.moment then Some Falls else (if not (is_conn kind (conn_in bytes) place.opened) then Some Conn else None))

-- what is wrong with a header
abbrev pub header_refusal : Place → List ℕ → Option RecordKind → Option RecordCause
header_refusal place bytes None = Some Kind
header_refusal place bytes (Some kind) = kind_refusal place bytes kind

-- what is wrong with the record at the front of these bytes, of which there is one at least: the first cause of the table
abbrev pub refusal : Place → List ℕ → Option RecordCause
refusal place bytes =
    if nat_lt (place.count + 1) (2 ^ 64 - 1)
    then (if nat_lt (length bytes) 17
    then Some Cut
    else option_or (header_refusal place bytes (kind_of (kind_in bytes))) (if nat_lt (length bytes) (17 + len_in bytes) then Some Cut else None))
    else Some Many

-- behind records that follow on one another stands a record that is refused, with this number, counted from 1, and cause
pub record IsRefused (bytes : List ℕ) (records : List Record) (number : ℕ) (cause : RecordCause) : Type 0 where
  pub front : List ℕ
  pub rest : List ℕ
  pub parts : bytes ≡ front ++ rest
  pub spell : AllSpell records front
  pub follow : AllFollow first_place records
  pub begun : 0 < length rest
  pub why : refusal (after_all first_place records) rest ≡ Some cause
  pub numbered : number ≡ length records + 1
