-- The records that a replay writes, as bytes: of the same layout as those that are read.
use Rattle.std.specs.Prelude.{ℕ, ◌^◌, ◌<◌, List, [], ◌∷◌, ◌++◌, length, Option, Some, None}
use Rattle.std.specs.List.{flat_map}
use Rattle.byteorder.specs.Endian.{big_bytes}
use Rattle.recording.specs.declared.written.SwitchError.{SwitchError}

-- a number as so many bytes, the highest byte first
unfoldable pub number : (len value : ℕ) → List ℕ
number len value = big_bytes len value

-- what a written record tells: a message that was sent, or a connection that the controller closed, with the number of the
-- cause and, for an error of the switch, its type and code
pub data Written : Type 0 where
  sent : List ℕ → Written
  closed : ℕ → Option SwitchError → Written

-- its kind
abbrev pub kind_number : Written → ℕ
kind_number (sent message) = 130
kind_number (closed cause error) = 131

-- the type and code of an error
abbrev pub error_bytes : Option SwitchError → List ℕ
error_bytes None = []
error_bytes (Some error) = number 2 error.kind ++ number 2 error.code

-- its bytes behind the header
abbrev pub body_of : Written → List ℕ
body_of (sent message) = message
body_of (closed cause error) = (cause ∷ []) ++ error_bytes error

-- a record with these parts
abbrev pub laid : (moment kind conn : ℕ) (body : List ℕ) → List ℕ
laid moment kind conn body = number 8 moment ++ (kind ∷ []) ++ number 4 conn ++ number 4 (length body) ++ body

pub record WrittenRecord : Type 0 where
  pub moment : ℕ
  pub conn : ℕ
  pub told : Written

abbrev pub written : WrittenRecord → List ℕ
written r = laid r.moment (kind_number r.told) r.conn (body_of r.told)

-- the bytes of a list of written records
abbrev pub written_records : List WrittenRecord → List ℕ
written_records records = flat_map written records

-- the numbers fit the bytes that they have
abbrev pub IsErrorOk : Option SwitchError → Type 0
IsErrorOk None = Unit {0}
IsErrorOk (Some error) = (error.kind < 2 ^ 16) × (error.code < 2 ^ 16)

abbrev pub IsTold : Written → Type 0
IsTold (sent message) = Unit {0}
IsTold (closed cause error) = (cause < 256) × IsErrorOk error

pub record IsWritable (r : WrittenRecord) : Type 0 where
  pub moment : r.moment < 2 ^ 64
  pub conn : r.conn < 2 ^ 32
  pub len : length (body_of r.told) < 2 ^ 32
  pub told : IsTold r.told

abbrev pub AreWritable : List WrittenRecord → Type 0
AreWritable [] = Unit {0}
AreWritable (r ∷ records) = IsWritable r × AreWritable records
