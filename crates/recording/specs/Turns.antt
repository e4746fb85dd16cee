-- The happenings that the records of a recording give.
use Rattle.std.specs.Prelude.{◌==◌, ◌&&◌, ◌||◌, ℕ, ◌+◌, Bool, false, not, nat_lt, if◌then◌else◌, List, [], ◌∷◌, ◌++◌, length, drop}
use Rattle.std.specs.List.{fold, list_any}
use Rattle.fg_outside.specs.declared.hub.Happening.{Happening}
use Rattle.fg_outside.specs.declared.hub.Happening.TheVariants as happenings
use Rattle.fg_outside.specs.declared.hub.EndCause.TheVariants.{End}
use Rattle.fg_outside.specs.HubStep.{Event, happening, saying, closing}
use Rattle.recording.specs.declared.kind.RecordKind.{RecordKind}
use Rattle.recording.specs.declared.kind.RecordKind.TheVariants.{Open, Bytes, Close, Reload, Moment}
use Rattle.recording.specs.declared.record.Record.{Record}
use Rattle.recording.specs.Kinds.{is_of_connection, is_moment}

-- a closing by the controller: of which connection, and how many happenings were given before it
pub record Closing : Type 0 where
  pub conn : ℕ
  pub behind : ℕ

-- those of a story that follows so many happenings
abbrev pub closings : ℕ → List Event → List Closing
closings given [] = []
closings given (happening it ∷ events) = closings (given + 1) events
closings given (saying conn piece answer ∷ events) = closings given events
closings given (closing conn ∷ events) = record { conn = conn; behind = given } ∷ closings given events

abbrev pub opens : ℕ → Happening → Bool
opens conn (happenings.Opened c) = c == conn
opens conn (happenings.Heard c piece) = false
opens conn (happenings.Closed c cause) = false
opens conn (happenings.Moment moment) = false
opens conn (happenings.Reload text) = false

-- the closing is one of the connection, behind no more than these happenings, and none of those since has opened it
abbrev pub shuts : List Happening → ℕ → Closing → Bool
shuts given conn c = c.conn == conn && not (nat_lt (length given) c.behind) && not (list_any (opens conn) (drop c.behind given))

-- behind these happenings the connection is one that the controller closed
abbrev pub is_shut : List Closing → List Happening → ℕ → Bool
is_shut closes given conn = list_any (shuts given conn) closes

-- what a record tells beside the moment
abbrev pub own_of : RecordKind → ℕ → List ℕ → List Happening
own_of Open conn body = happenings.Opened conn ∷ []
own_of Bytes conn body = happenings.Heard conn body ∷ []
own_of Close conn body = happenings.Closed conn End ∷ []
own_of Reload conn body = happenings.Reload body ∷ []
own_of Moment conn body = []

abbrev pub own : Record → List Happening
own r = own_of r.kind r.conn r.body

-- the moment first, where it isn't the last one or the record tells nothing else
abbrev pub clock : ℕ → Record → List Happening
clock last r = if nat_lt last r.moment || is_moment r.kind then happenings.Moment r.moment ∷ [] else []

-- a record of a connection that the controller closed tells nothing of its own
abbrev pub is_passed_over : List Closing → List Happening → Record → Bool
is_passed_over closes given r = is_of_connection r.kind && is_shut closes given r.conn

-- what was told so far, and the last moment
pub record Told : Type 0 where
  pub given : List Happening
  pub moment : ℕ

abbrev pub with_own : List Closing → List Happening → Record → List Happening
with_own closes given r = if is_passed_over closes given r then given else given ++ own r

abbrev pub tell : List Closing → Told → Record → Told
tell closes told r = record { given = with_own closes (told.given ++ clock told.moment r) r; moment = r.moment }

abbrev pub told_by : List Closing → List Record → Told
told_by closes records = fold (tell closes) (record { given = []; moment = 0 }) records

-- the happenings that the records give, where the controller closed these connections
abbrev pub turns : List Record → List Closing → List Happening
turns records closes = (told_by closes records).given
