-- Lists of connections.
use Rattle.std.specs.Prelude.{◌==◌, ℕ, Bool, not, List, filter}
use Rattle.std.specs.List.{list_any}
use Rattle.std.specs.Ordering.{nat_cmp}
use Rattle.std.specs.BTreeSet.{insert_key}
use Rattle.recording.specs.declared.kind.RecordKind.{RecordKind}
use Rattle.recording.specs.declared.kind.RecordKind.TheVariants.{Open, Bytes, Close, Reload, Moment}

abbrev pub is_among : List ℕ → ℕ → Bool
is_among conns conn = list_any (λ c. c == conn) conns

abbrev pub without : List ℕ → ℕ → List ℕ
without conns conn = filter (λ c. not (c == conn)) conns

-- the list ascends, and so it does with the connection at its place
abbrev pub with_one : List ℕ → ℕ → List ℕ
with_one conns conn = insert_key nat_cmp conns conn

-- the connections that are open behind a record of this kind
abbrev pub open_after : RecordKind → ℕ → List ℕ → List ℕ
open_after Open conn opened = with_one opened conn
open_after Bytes conn opened = opened
open_after Close conn opened = without opened conn
open_after Reload conn opened = opened
open_after Moment conn opened = opened

-- a record of this kind may name this connection: it opens one that isn't open, speaks of one that is, or names 0
abbrev pub is_conn : RecordKind → ℕ → List ℕ → Bool
is_conn Open conn opened = not (is_among opened conn)
is_conn Bytes conn opened = is_among opened conn
is_conn Close conn opened = is_among opened conn
is_conn Reload conn opened = conn == 0
is_conn Moment conn opened = conn == 0
