-- A record as it lies in bytes: a moment in milliseconds in 8 bytes, a kind in 1, a connection in 4, a length in 4, and as
-- many bytes.
use Rattle.std.specs.Prelude.{◌≡◌, ℕ, ◌+◌, List, length, drop}
use Rattle.recording.specs.declared.record.Record.{Record}
use Rattle.recording.specs.Numbers.{number_at}
use Rattle.recording.specs.Kinds.{number_of}

-- the parts of a header, as they stand in the first 17 bytes
abbrev pub moment_in : List ℕ → ℕ
moment_in bytes = number_at 8 0 bytes

abbrev pub kind_in : List ℕ → ℕ
kind_in bytes = number_at 1 8 bytes

abbrev pub conn_in : List ℕ → ℕ
conn_in bytes = number_at 4 9 bytes

abbrev pub len_in : List ℕ → ℕ
len_in bytes = number_at 4 13 bytes

pub record HasLayout (moment kind conn : ℕ) (body : List ℕ) (bytes : List ℕ) : Type 0 where
  pub size : length bytes ≡ 17 + length body
  pub has_moment : moment_in bytes ≡ moment
  pub has_kind : kind_in bytes ≡ kind
  pub has_conn : conn_in bytes ≡ conn
  pub has_len : len_in bytes ≡ length body
  pub has_body : drop 17 bytes ≡ body

-- the bytes spell a record that is read
abbrev pub Spells : Record → List ℕ → Type 0
Spells r bytes = HasLayout r.moment (number_of r.kind) r.conn r.body bytes
