-- What callers see of a hub that reads a recording, and the story that it tells.
use Rattle.std.specs.Prelude.{◌≡◌, ◌==◌, ◌⊎◌, ◌+◌, ◌≤◌, ℕ, Bool, true, false, not, if◌then◌else◌, List, [], ◌∷◌, ◌++◌, length, Option, Some, None}
use Rattle.std.specs.List.{fold}
use Rattle.std.specs.Option.{option_map}
use Rattle.fg_outside.specs.declared.hub.Happening.{Happening}
use Rattle.fg_outside.specs.declared.hub.Happening.TheVariants as happenings_of
use Rattle.fg_outside.specs.declared.hub.EndCause.TheVariants.{End}
use Rattle.fg_outside.specs.declared.hub.Turn.{Turn}
use Rattle.fg_outside.specs.declared.hub.Turn.TheVariants.{Happened, Done, Failed, Memory}
use Rattle.fg_outside.specs.declared.hub.Said.{Said}
use Rattle.fg_outside.specs.declared.hub.Said.TheVariants as answers
use Rattle.fg_outside.specs.Left.{prepended}
use Rattle.fg_outside.specs.HubStep.{HubStep, turned, said, closed, Event, happening, saying, closing, happenings}
use Rattle.fg_outside.specs.HubStep.{told_by as added_by}
use Rattle.fg_outside.specs.Steps.{Went}
use Rattle.recording.specs.declared.kind.RecordKind.{RecordKind}
use Rattle.recording.specs.declared.kind.RecordKind.TheVariants as kinds
use Rattle.recording.specs.declared.record.Record.{Record}
use Rattle.recording.specs.declared.refused.RecordCause.{RecordCause}
use Rattle.recording.specs.declared.refused.RecordRefused.{RecordRefused}
use Rattle.recording.specs.declared.script_hub.ScriptHub.{ScriptHub}
use Rattle.recording.specs.Conns.{is_among, open_after}
use Rattle.recording.specs.Layout.{len_in}
use Rattle.recording.specs.Recording.{first_place, after_all, AllSpell, AllFollow, Records}
use Rattle.recording.specs.Refused.{IsRefused}
use Rattle.recording.specs.Reader.{place_of, source_of, part_of, left_of, refused_of, Takes, Ends, Refuses}
use Rattle.recording.specs.Turns.{Closing, closings, is_shut, clock, told_by, turns}

-- the source that it reads
abbrev pub source_in : {S : Type 0} → ScriptHub S → S
source_in hub = source_of hub.reader

-- memory ran out in it
abbrev pub is_spent : {S : Type 0} → ScriptHub S → Bool
is_spent hub = hub.spent

-- the connection is open: it was opened, and neither ended since nor was closed
abbrev pub is_live : {S : Type 0} → ScriptHub S → ℕ → Bool
is_live hub conn = is_among hub.live conn

-- the refused record, where it was reached
abbrev pub refusal_in : {S : Type 0} → ScriptHub S → Option RecordRefused
refusal_in hub = option_map (λ cause. record { number = (place_of hub.reader).count + 1; cause = cause }) (refused_of hub.reader)

-- what it answers to a piece that is said
abbrev pub answer_of : {S : Type 0} → ScriptHub S → ℕ → Said
answer_of hub conn = if hub.spent then answers.Memory else (if is_live hub conn then answers.Taken else answers.Gone)

-- ---- the story

-- the record of which the moment was told, and whose own is still to come
abbrev pub listed : Option Record → List Record
listed None = []
listed (Some r) = r ∷ []

abbrev pub clock_of : ℕ → Option Record → List Happening
clock_of last None = []
clock_of last (Some r) = clock last r

-- whether the connection is open behind an event, where it was so before
abbrev pub opened_by : ℕ → Bool → Event → Bool
opened_by conn before (happening (happenings_of.Opened c)) = if c == conn then true else before
opened_by conn before (happening (happenings_of.Heard c piece)) = before
opened_by conn before (happening (happenings_of.Closed c cause)) = if c == conn then false else before
opened_by conn before (happening (happenings_of.Moment moment)) = before
opened_by conn before (happening (happenings_of.Reload text)) = before
opened_by conn before (saying c piece answer) = before
opened_by conn before (closing c) = if c == conn then false else before

-- whether it is open behind a story
abbrev pub is_open_in : List Event → ℕ → Bool
is_open_in events conn = fold (opened_by conn) false events

-- what a hub that isn't spent has of these records
pub record Runs {S : Type 0} (left : S → Option (List ℕ)) (hub : ScriptHub S) (records : List Record) (waits : Option Record) (rest : Option (List ℕ)) : Type 0 where
  pub place : place_of hub.reader ≡ after_all first_place (records ++ listed waits)
  pub waiting : hub.waiting ≡ waits
  pub behind : rest ≡ left_of left hub.reader
  pub refused : (cause : RecordCause) → refused_of hub.reader ≡ Some cause → Refuses left hub.reader cause

-- The hub stands for these records at the front of a recording, and for this story: its happenings are the turns of the
-- records, as far as the last of them doesn't wait to tell its own.
pub record StandsFor {S : Type 0} (left : S → Option (List ℕ)) (whole : Option (List ℕ)) (hub : ScriptHub S) (records : List Record) (waits : Option Record) (events : List Event) : Type 0 where
  pub front : List ℕ
  pub rest : Option (List ℕ)
  pub parts : whole ≡ prepended front rest
  pub spell : AllSpell (records ++ listed waits) front
  pub follow : AllFollow first_place (records ++ listed waits)
  pub gave :
      let told = told_by (closings 0 events) records in
      happenings events ≡ told.given ++ clock_of told.moment waits
  pub live : (conn : ℕ) → is_live hub conn ≡ is_open_in events conn
  pub shut :
      (conn : ℕ) → is_among (after_all first_place records).opened conn ≡ true → is_live hub conn ≡ not (is_shut (closings 0 events) (happenings events) conn)
  pub runs : is_spent hub ≡ false → Runs left hub records waits rest

-- whatever records and story the hub stood for, it stands for as many or more afterwards, and for that story with these
-- events behind it
abbrev pub Keeps : {S : Type 0} → (S → Option (List ℕ)) → ScriptHub S → List Event → ScriptHub S → Type 0
Keeps left old events new =
    (whole : Option (List ℕ)) (records : List Record) (waits : Option Record) (before : List Event) → StandsFor left whole old records waits before
    → (more : List Record) × (later : Option Record) × StandsFor left whole new more later (before ++ events)

-- ---- what its answers say

-- all bytes that were taken are those of records that told their turn or were passed over
pub record IsBehind {S : Type 0} (hub : ScriptHub S) : Type 0 where
  pub runs : is_spent hub ≡ false
  pub none : part_of hub.reader ≡ []
  pub unrefused : refused_of hub.reader ≡ None

-- the bytes that were taken of the record that is read next reach no further than it does: of a header no more than its 17
-- bytes, and behind it no more than it tells
abbrev pub IsWithin : List ℕ → Type 0
IsWithin part = length part ≤ 17 + len_in part

-- a read failed: all records before have told their own, none is refused, and what was taken of the next one stays
pub record IsInside {S : Type 0} (hub : ScriptHub S) : Type 0 where
  pub runs : is_spent hub ≡ false
  pub none_waits : hub.waiting ≡ None
  pub unrefused : refused_of hub.reader ≡ None
  pub within : IsWithin (part_of hub.reader)

-- the recording ends, or its next record is refused
pub record IsOver {S : Type 0} (left : S → Option (List ℕ)) (hub : ScriptHub S) : Type 0 where
  pub runs : is_spent hub ≡ false
  pub none_waits : hub.waiting ≡ None
  pub ended : refused_of hub.reader ≡ None → Ends left hub.reader

abbrev pub Answers : {S : Type 0} → (S → Option (List ℕ)) → ScriptHub S → HubStep → ScriptHub S → Type 0
Answers left old (turned (Happened it)) new = IsBehind new
Answers left old (turned Done) new = IsOver left new
Answers left old (turned Failed) new = IsInside new
Answers left old (turned Memory) new = is_spent new ≡ true
Answers left old (said conn piece answer) new = (answer ≡ answer_of old conn) × (new ≡ old)
Answers left old (closed conn) new = (is_spent new ≡ is_spent old) × (new.reader ≡ old.reader)

-- a step that the hub may take
pub record ScriptStep {S : Type 0} (left : S → Option (List ℕ)) (may : S → S → Type 0) (old : ScriptHub S) (step : HubStep) (new : ScriptHub S) : Type 0 where
  pub story : Keeps left old (added_by step) new
  pub answer : Answers left old step new
  -- its source went by steps that it may take
  pub source : Went may (source_in old) (source_in new)

-- ---- the two parts of a turn

-- what a record tells of its own, where its connection is open or isn't
abbrev pub own_kind : Bool → RecordKind → ℕ → List ℕ → Option Happening
own_kind live kinds.Open conn body = Some (happenings_of.Opened conn)
own_kind live kinds.Bytes conn body = if live then Some (happenings_of.Heard conn body) else None
own_kind live kinds.Close conn body = if live then Some (happenings_of.Closed conn End) else None
own_kind live kinds.Reload conn body = Some (happenings_of.Reload body)
own_kind live kinds.Moment conn body = None

abbrev pub own_where : Bool → Record → Option Happening
own_where live r = own_kind live r.kind r.conn r.body

-- the record that waited has told its own, if anything
pub record Told {S : Type 0} (old : ScriptHub S) (r : Record) (new : ScriptHub S) : Type 0 where
  pub live : new.live ≡ open_after r.kind r.conn old.live
  pub waiting : new.waiting ≡ None
  pub reader : new.reader ≡ old.reader
  pub spent : new.spent ≡ old.spent

-- memory ran out
pub record RanOut {S : Type 0} (old new : ScriptHub S) : Type 0 where
  pub live : new.live ≡ old.live
  pub spent : new.spent ≡ true

abbrev pub TellsOwn : {S : Type 0} → Record → ScriptHub S → Option Turn → ScriptHub S → Type 0
TellsOwn r old answer new =
    ((answer ≡ option_map (λ it. Happened it) (own_where (is_live old r.conn) r)) × Told old r new)
    ⊎ ((answer ≡ Some Memory) × RanOut old new)

-- the next record was read, and waits
pub record Waits {S : Type 0} (left : S → Option (List ℕ)) (old : ScriptHub S) (told : List Happening) (new : ScriptHub S) : Type 0 where
  pub r : Record
  pub takes : Takes left old.reader r new.reader
  pub told_first : clock (place_of old.reader).moment r ≡ told
  pub waiting : new.waiting ≡ Some r
  pub live : new.live ≡ old.live
  pub spent : new.spent ≡ old.spent

-- no record was read
pub record Stays {S : Type 0} (left : S → Option (List ℕ)) (old new : ScriptHub S) : Type 0 where
  pub same : left_of left new.reader ≡ left_of left old.reader
  pub place : place_of new.reader ≡ place_of old.reader
  pub refuses : (cause : RecordCause) → refused_of old.reader ≡ None → refused_of new.reader ≡ Some cause → Refuses left new.reader cause
  pub stays : (cause : RecordCause) → refused_of old.reader ≡ Some cause → new.reader ≡ old.reader
  pub waiting : new.waiting ≡ old.waiting
  pub live : new.live ≡ old.live
  pub spent : new.spent ≡ old.spent

abbrev pub ReadsOn : {S : Type 0} → (S → Option (List ℕ)) → ScriptHub S → Option Turn → ScriptHub S → Type 0
ReadsOn left old None new = Waits left old [] new
ReadsOn left old (Some (Happened it)) new = Waits left old (it ∷ []) new
ReadsOn left old (Some Done) new = Stays left old new × (refused_of new.reader ≡ None → Ends left new.reader)
ReadsOn left old (Some Failed) new = Stays left old new × (refused_of new.reader ≡ None)
ReadsOn left old (Some Memory) new = RanOut old new

-- ---- which story a recording tells

-- that of all records of the recording, or of those before its first refused one, where these connections are closed
pub record IsStoryOf (bytes : List ℕ) (story : List Happening) (closes : List Closing) (refused : Option RecordRefused) : Type 0 where
  pub records : List Record
  pub told : story ≡ turns records closes
  pub whole : refused ≡ None → Records bytes records
  pub refuses : (r : RecordRefused) → refused ≡ Some r → IsRefused bytes records r.number r.cause

-- that of records at its front, of the last of which the moment alone may be told
pub record IsStorySoFar (bytes : List ℕ) (story : List Happening) (closes : List Closing) : Type 0 where
  pub records : List Record
  pub waits : Option Record
  pub front : List ℕ
  pub rest : List ℕ
  pub parts : bytes ≡ front ++ rest
  pub spell : AllSpell (records ++ listed waits) front
  pub follow : AllFollow first_place (records ++ listed waits)
  pub told :
      let told = told_by closes records in
      story ≡ told.given ++ clock_of told.moment waits

-- that of all records at its front, where more may stand behind them
pub record IsStoryOfFront (bytes : List ℕ) (story : List Happening) (closes : List Closing) : Type 0 where
  pub records : List Record
  pub front : List ℕ
  pub rest : List ℕ
  pub parts : bytes ≡ front ++ rest
  pub are : Records front records
  pub told : story ≡ turns records closes

-- of a recording exactly the bytes behind these records are left
pub record IsReadBehind (bytes : List ℕ) (left : Option (List ℕ)) : Type 0 where
  pub records : List Record
  pub front : List ℕ
  pub rest : List ℕ
  pub parts : bytes ≡ front ++ rest
  pub spell : AllSpell records front
  pub behind : left ≡ Some rest

-- of a recording exactly the bytes behind these records are left, and what happened are their turns: each told its own before the
-- next was read, and of the last alone it may still come
pub record IsReadAndTold (bytes : List ℕ) (events : List Event) (left : Option (List ℕ)) : Type 0 where
  pub records : List Record
  pub waits : Option Record
  pub front : List ℕ
  pub rest : List ℕ
  pub parts : bytes ≡ front ++ rest
  pub spell : AllSpell (records ++ listed waits) front
  pub behind : left ≡ Some rest
  pub told :
      let told = told_by (closings 0 events) records in
      happenings events ≡ told.given ++ clock_of told.moment waits

-- the same as of what is left, but for a part of the record behind these, which reaches no further than that record does
pub record IsReadInside (bytes : List ℕ) (left : Option (List ℕ)) : Type 0 where
  pub records : List Record
  pub front : List ℕ
  pub part : List ℕ
  pub rest : List ℕ
  pub parts : bytes ≡ front ++ (part ++ rest)
  pub spell : AllSpell records front
  pub within : IsWithin part
  pub behind : left ≡ Some rest
