-- Records that are the same but for where the bytes of a connection are cut, and stories of which the same is written.
use Rattle.std.specs.Prelude.{◌≡◌, ℕ, List, [], ◌∷◌, ◌++◌}
use Rattle.fg_outside.specs.declared.hub.Happening.{Happening}
use Rattle.conf_types.specs.Configuration.{Configuration}
use Rattle.recording.specs.declared.kind.RecordKind.TheVariants.{Bytes}
use Rattle.recording.specs.declared.record.Record.{Record}
use Rattle.ctl_world.specs.World.{first}
use Rattle.ctl_drive.specs.Driving.{lines_of, records_of}

-- bytes that came on a connection at a moment
abbrev pub came : (moment conn : ℕ) → List ℕ → Record
came moment conn body = record { moment = moment; kind = Bytes; conn = conn; body = body }

-- Where the one list has a record of bytes, the other may have two of that moment and connection with its pieces in order, and so
-- on, either way. Nothing else differs.
pub data SameButCuts : List Record → List Record → Type 0 where
  none : SameButCuts [] []
  same : (r : Record) (records others : List Record) → SameButCuts records others → SameButCuts (r ∷ records) (r ∷ others)
  cut : (moment conn : ℕ) (front back : List ℕ) (records others : List Record) → SameButCuts records others
      → SameButCuts (came moment conn (front ++ back) ∷ records) (came moment conn front ∷ came moment conn back ∷ others)
  swapped : (records others : List Record) → SameButCuts records others → SameButCuts others records
  chained : (records between others : List Record) → SameButCuts records between → SameButCuts between others → SameButCuts records others

-- of both stories the same records are written on standard output, and the same lines on standard error
pub record WritesTheSame (conf : Configuration) (story other : List Happening) : Type 0 where
  pub records : records_of (first conf) story ≡ records_of (first conf) other
  pub lines : lines_of (first conf) story ≡ lines_of (first conf) other
