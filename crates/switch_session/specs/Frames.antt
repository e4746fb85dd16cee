-- Frames in a stream of bytes (OpenFlow 1.3, 7.1): each begins with a header of 8 bytes, which tells the length of the whole.
use Rattle.std.specs.Prelude.{◌≡◌, ◌≤◌, ◌<◌, ℕ, List, [], ◌∷◌, ◌++◌, length}
use Rattle.std.specs.List.{concat, AllByRecursion}
use Rattle.of_wire.specs.Numbers.{number_in}
use Rattle.switch_session.specs.declared.stream.Got.{Got}
use Rattle.switch_session.specs.declared.stream.Got.TheVariants.{NotYet, Frame, Bad}
use Rattle.switch_session.specs.declared.stream.Cut.{Cut}
use Rattle.switch_session.specs.declared.stream.Cut.TheVariants.{NotYet as Nothing, Whole, Bad as Wrong}

-- the length that the header at the front tells
abbrev pub told_length : List ℕ → ℕ
told_length bytes = number_in 2 2 bytes

-- a header, and as many bytes as it tells
pub record IsFrame (bytes : List ℕ) : Type 0 where
  pub header : 8 ≤ length bytes
  pub whole : told_length bytes ≡ length bytes

-- less than a frame: once the header is there, it tells of more bytes than came
abbrev pub IsBegun : List ℕ → Type 0
IsBegun bytes = 8 ≤ length bytes → (8 ≤ told_length bytes) × (length bytes < told_length bytes)

-- a header that tells fewer bytes than it has itself
pub record IsBad (bytes : List ℕ) : Type 0 where
  pub header : 8 ≤ length bytes
  pub small : told_length bytes < 8

-- what the answer says of the unread bytes before and after
abbrev pub Cuts : Got → (before after : List ℕ) → Type 0
Cuts NotYet before after = IsBegun before × (after ≡ before)
Cuts (Frame frame) before after = IsFrame frame.bytes.now × (before ≡ frame.bytes.now ++ after)
Cuts Bad before after = IsBad before × (after ≡ before)

abbrev pub OnNotYet : Got → Type 0 → Type 0
OnNotYet NotYet P = P
OnNotYet (Frame frame) P = Unit {0}
OnNotYet Bad P = Unit {0}

-- what stands at the front of the bytes
abbrev pub IsCut : Cut → List ℕ → Type 0
IsCut Nothing bytes = IsBegun bytes × (length bytes < 65535)
IsCut (Whole len) bytes = (8 ≤ len) × (len ≤ length bytes) × (told_length bytes ≡ len)
IsCut Wrong bytes = IsBad bytes

-- ---- Whole streams

-- no frame stands at the front
abbrev pub HasNoFrame : List ℕ → Type 0
HasNoFrame bytes = (frame rest : List ℕ) → IsFrame frame → bytes ≡ frame ++ rest → ⊥

-- the stream is these frames, and then bytes that begin with none
pub record Splits (stream : List ℕ) (frames : List (List ℕ)) (rest : List ℕ) : Type 0 where
  pub whole : stream ≡ concat frames ++ rest
  pub each : AllByRecursion IsFrame frames
  pub ended : HasNoFrame rest

-- calls of feed and next, in any order, on a stream with these unread bytes: the pieces that were fed, the frames that
-- were given, and what is unread then
pub data Calls : (unread : List ℕ) → (pieces frames : List (List ℕ)) → (rest : List ℕ) → Type 0 where
  none : (unread : List ℕ) → Calls unread [] [] unread
  feed : (unread piece : List ℕ) (pieces frames : List (List ℕ)) (rest : List ℕ) → Calls (unread ++ piece) pieces frames rest
      → Calls unread (piece ∷ pieces) frames rest
  next : (before frame after : List ℕ) (pieces frames : List (List ℕ)) (rest : List ℕ) → IsFrame frame → before ≡ frame ++ after
      → Calls after pieces frames rest → Calls before pieces (frame ∷ frames) rest
