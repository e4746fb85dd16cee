-- What is done about a story: what a hub gives and is told, and what is written.
use Rattle.std.specs.Prelude.{◌≡◌, ℕ, ◌+◌, List, [], ◌∷◌, ◌++◌, map, Option, Some, None}
use Rattle.std.specs.List.{flat_map}
use Rattle.std.specs.Option.{option_map_or}
use Rattle.fg_outside.specs.declared.hub.Happening.{Happening}
use Rattle.fg_outside.specs.HubStep.{Event, happening, saying, closing}
use Rattle.recording.specs.declared.written.SwitchError.{SwitchError as Told}
use Rattle.recording.specs.Turns.{Closing as ClosedThere}
use Rattle.recording.specs.Written.{WrittenRecord, sent, closed, written_records}
use Rattle.switch_session.specs.declared.closing.Closing.{Closing}
use Rattle.switch_session.specs.declared.closing.Closing.TheVariants.{WrongVersion, BadFrame, UnknownDp, TooFewTables, Auxiliary, Replaced, SwitchError, Silent, Overfull, LinkFault, End}
use Rattle.switch_session.specs.Closings.{number_of}
use Rattle.ctl_life.specs.declared.saying.Saying.{Saying}
use Rattle.ctl_life.specs.declared.saying.Saying.TheVariants.{Send, Close, Line}
use Rattle.hub_drive.specs.declared.sayings.Outlet.{Outlet}
use Rattle.hub_drive.specs.declared.sayings.Outlet.TheVariants.{Records, Hub, Nowhere}
use Rattle.hub_drive.specs.Machine.{Workings, printed}

-- a list is a front of another
pub record IsFront {X : Type 0} (front whole : List X) : Type 0 where
  pub rest : List X
  pub parts : whole ≡ front ++ rest

-- ---- one saying

-- what a hub gave or was told, whatever it answered: something happened, a message was said on a connection, a connection
-- was closed
pub data Deed : Type 0 where
  gave : Happening → Deed
  said : ℕ → List ℕ → Deed
  shut : ℕ → Deed

abbrev pub deeds : List Event → List Deed
deeds [] = []
deeds (happening it ∷ events) = gave it ∷ deeds events
deeds (saying conn piece answer ∷ events) = said conn piece ∷ deeds events
deeds (closing conn ∷ events) = shut conn ∷ deeds events

-- what a saying has for the hub
abbrev pub deeds_by : Outlet → Saying → List Deed
deeds_by Records (Send conn message) = []
deeds_by Hub (Send conn message) = said conn message ∷ []
deeds_by Nowhere (Send conn message) = []
deeds_by outlet (Close conn cause) = shut conn ∷ []
deeds_by outlet (Line text) = []

-- the type and code of an error for which a connection is closed
abbrev pub error_of : Closing → Option Told
error_of WrongVersion = None
error_of BadFrame = None
error_of UnknownDp = None
error_of TooFewTables = None
error_of Auxiliary = None
error_of Replaced = None
error_of (SwitchError kind code) = Some (record { kind = kind; code = code })
error_of Silent = None
error_of Overfull = None
error_of LinkFault = None
error_of End = None

-- its record, if it has one
abbrev pub record_by : (moment : ℕ) → Saying → List WrittenRecord
record_by moment (Send conn message) = record { moment = moment; conn = conn; told = sent message } ∷ []
record_by moment (Close conn cause) = record { moment = moment; conn = conn; told = closed (number_of cause) (error_of cause) } ∷ []
record_by moment (Line text) = []

abbrev pub written_by : (moment : ℕ) → Saying → List ℕ
written_by moment one = written_records (record_by moment one)

-- what goes to standard output of these sayings and of what is printed
abbrev pub written_on : Outlet → (moment : ℕ) → List Saying → (prints : List ℕ) → List ℕ
written_on Records moment sayings prints = flat_map (written_by moment) sayings
written_on Hub moment sayings prints = prints
written_on Nowhere moment sayings prints = prints

-- its line with its end, if it is one
abbrev pub line_by : Saying → List ℕ
line_by (Send conn message) = []
line_by (Close conn cause) = []
line_by (Line text) = text ++ 10 ∷ []

-- the connection that it closes, if it closes one
abbrev pub shut_by : Saying → List ℕ
shut_by (Send conn message) = []
shut_by (Close conn cause) = conn ∷ []
shut_by (Line text) = []

-- ---- a turn, and a story

module _ {S : Type 0} (m : Workings S) where
  -- what is said in a turn
  abbrev pub sayings_of : Happening → S → List Saying
  sayings_of h w = m.says (m.turn h w)

  abbrev pub turn_deeds : Outlet → Happening → S → List Deed
  turn_deeds outlet h w = gave h ∷ flat_map (deeds_by outlet) (sayings_of h w)

  abbrev pub turn_lines : Happening → S → List ℕ
  turn_lines h w = flat_map line_by (sayings_of h w)

  -- a record carries the moment of its turn
  abbrev pub turn_records : Happening → S → List WrittenRecord
  turn_records h w = flat_map (record_by (m.moment (m.turn h w))) (sayings_of h w)

  -- what goes to standard output in a turn
  abbrev pub turn_out : Outlet → Happening → S → List ℕ
  turn_out outlet h w = written_on outlet (m.moment (m.turn h w)) (sayings_of h w) (printed m (m.turn h w))

  -- what a hub gives and is told in a story that begins where this is known
  abbrev pub deeds_of : Outlet → S → List Happening → List Deed
  deeds_of outlet w [] = []
  deeds_of outlet w (h ∷ hs) = turn_deeds outlet h w ++ deeds_of outlet (m.turn h w) hs

  -- its lines on standard error
  abbrev pub lines_of : S → List Happening → List ℕ
  lines_of w [] = []
  lines_of w (h ∷ hs) = turn_lines h w ++ lines_of (m.turn h w) hs

  -- its records, one for each message and each closing
  abbrev pub records_of : S → List Happening → List WrittenRecord
  records_of w [] = []
  records_of w (h ∷ hs) = turn_records h w ++ records_of (m.turn h w) hs

  -- what is printed in it, where each turn prints this
  abbrev pub prints_of : (S → List ℕ) → S → List Happening → List ℕ
  prints_of prints w [] = []
  prints_of prints w (h ∷ hs) = prints (m.turn h w) ++ prints_of prints (m.turn h w) hs

  -- what goes to standard output
  abbrev pub out_of : Outlet → S → List Happening → List ℕ
  out_of Records w hs = written_records (records_of w hs)
  out_of Hub w hs = option_map_or (λ (prints : S → List ℕ). prints_of prints w hs) m.prints []
  out_of Nowhere w hs = option_map_or (λ (prints : S → List ℕ). prints_of prints w hs) m.prints []

  -- the connections that are closed, each with how many happenings came before, where so many came before the story
  abbrev pub closings_of : (given : ℕ) → S → List Happening → List ClosedThere
  closings_of given w [] = []
  closings_of given w (h ∷ hs) =
      map (λ conn. record { conn = conn; behind = given + 1 }) (flat_map shut_by (sayings_of h w)) ++ closings_of (given + 1) (m.turn h w) hs
