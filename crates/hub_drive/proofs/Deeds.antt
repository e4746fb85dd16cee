-- What happened and what was closed, by what a hub gave and was told.
use Rattle.std.proofs.Common.{◌≡◌, ℕ, ◌+◌, ◌≤◌, List, [], ◌∷◌, ◌++◌, length, map, refl, sym, ap, subst, ◌∙◌, append_assoc, arith, length-append}
use Rattle.std.proofs.lemmas.List.{append-nil}
use Rattle.std.specs.List.{flat_map}
use Rattle.fg_outside.specs.declared.hub.Happening.{Happening}
use Rattle.fg_outside.specs.HubStep.{Event, happening, saying, closing, happenings}
use Rattle.recording.specs.declared.record.Record.{Record}
use Rattle.recording.specs.Script.{IsStorySoFar, clock_of}
use Rattle.recording.specs.Turns.{Closing, Told, closings, told_by}
use Rattle.recording.proofs.Turning.{told_by-later}
use Rattle.ctl_life.specs.declared.saying.Saying.{Saying}
use Rattle.ctl_life.specs.declared.saying.Saying.TheVariants.{Send, Close, Line}
use Rattle.hub_drive.specs.declared.sayings.Outlet.{Outlet}
use Rattle.hub_drive.specs.declared.sayings.Outlet.TheVariants.{Records, Hub, Nowhere}
use Rattle.hub_drive.specs.Machine.{Workings}
use Rattle.hub_drive.specs.Driving.{Deed, gave, said, shut, IsFront, closings_of, deeds, deeds_by, deeds_of, sayings_of, shut_by}

abbrev pub happened_in : List Deed → List Happening
happened_in [] = []
happened_in (gave h ∷ ds) = h ∷ happened_in ds
happened_in (said conn piece ∷ ds) = happened_in ds
happened_in (shut conn ∷ ds) = happened_in ds

abbrev pub shut_in : ℕ → List Deed → List Closing
shut_in given [] = []
shut_in given (gave h ∷ ds) = shut_in (given + 1) ds
shut_in given (said conn piece ∷ ds) = shut_in given ds
shut_in given (shut conn ∷ ds) = record { conn = conn; behind = given } ∷ shut_in given ds

pub happenings_are : (events : List Event) → happenings events ≡ happened_in (deeds events)
happenings_are [] = refl
happenings_are (happening h ∷ events) = ap (λ (l : List Happening). h ∷ l) (happenings_are events)
happenings_are (saying conn piece answer ∷ events) = happenings_are events
happenings_are (closing conn ∷ events) = happenings_are events

pub closings_are : (given : ℕ) (events : List Event) → closings given events ≡ shut_in given (deeds events)
closings_are given [] = refl
closings_are given (happening h ∷ events) = closings_are (given + 1) events
closings_are given (saying conn piece answer ∷ events) = closings_are given events
closings_are given (closing conn ∷ events) = ap (λ (l : List Closing). record { conn = conn; behind = given } ∷ l) (closings_are given events)

pub deeds-append : (xs ys : List Event) → deeds (xs ++ ys) ≡ deeds xs ++ deeds ys
deeds-append [] ys = refl
deeds-append (happening h ∷ xs) ys = ap (λ (l : List Deed). gave h ∷ l) (deeds-append xs ys)
deeds-append (saying conn piece answer ∷ xs) ys = ap (λ (l : List Deed). said conn piece ∷ l) (deeds-append xs ys)
deeds-append (closing conn ∷ xs) ys = ap (λ (l : List Deed). shut conn ∷ l) (deeds-append xs ys)

pub happened-append : (xs ys : List Deed) → happened_in (xs ++ ys) ≡ happened_in xs ++ happened_in ys
happened-append [] ys = refl
happened-append (gave h ∷ xs) ys = ap (λ (l : List Happening). h ∷ l) (happened-append xs ys)
happened-append (said conn piece ∷ xs) ys = happened-append xs ys
happened-append (shut conn ∷ xs) ys = happened-append xs ys

-- what is closed in a front is a front of what is closed
shut-front : (given : ℕ) (xs ys : List Deed) → IsFront (shut_in given xs) (shut_in given (xs ++ ys))
shut-front given [] ys = record { rest = shut_in given ys; parts = refl }
shut-front given (gave h ∷ xs) ys = shut-front (given + 1) xs ys
shut-front given (said conn piece ∷ xs) ys = shut-front given xs ys
shut-front given (shut conn ∷ xs) ys =
    let below = shut-front given xs ys in
    record { rest = below.rest; parts = ap (λ (l : List Closing). record { conn = conn; behind = given } ∷ l) below.parts }

shut-append : (given : ℕ) (xs ys : List Deed) → shut_in given (xs ++ ys) ≡ shut_in given xs ++ shut_in (given + length (happened_in xs)) ys
shut-append given [] ys = ap (λ n. shut_in n ys) (omega arith)
shut-append given (gave h ∷ xs) ys = shut-append (given + 1) xs ys ∙ ap (λ n. shut_in (given + 1) xs ++ shut_in n ys) (omega arith)
shut-append given (said conn piece ∷ xs) ys = shut-append given xs ys
shut-append given (shut conn ∷ xs) ys = ap (λ (l : List Closing). record { conn = conn; behind = given } ∷ l) (shut-append given xs ys)

-- ---- of what is said

-- nothing happened
pub none_happened : (outlet : Outlet) (sayings : List Saying) → happened_in (flat_map (deeds_by outlet) sayings) ≡ []
none_happened Records [] = refl
none_happened Records (Send conn message ∷ sayings) = none_happened Records sayings
none_happened Records (Close conn cause ∷ sayings) = none_happened Records sayings
none_happened Records (Line text ∷ sayings) = none_happened Records sayings
none_happened Nowhere [] = refl
none_happened Nowhere (Send conn message ∷ sayings) = none_happened Nowhere sayings
none_happened Nowhere (Close conn cause ∷ sayings) = none_happened Nowhere sayings
none_happened Nowhere (Line text ∷ sayings) = none_happened Nowhere sayings
none_happened Hub [] = refl
none_happened Hub (Send conn message ∷ sayings) = none_happened Hub sayings
none_happened Hub (Close conn cause ∷ sayings) = none_happened Hub sayings
none_happened Hub (Line text ∷ sayings) = none_happened Hub sayings

none_before : (xs ys : List Happening) → xs ++ ys ≡ [] → xs ≡ []
none_before [] ys h = refl
none_before (x ∷ xs) ys h = cc

-- nor in a front of it
pub none_happened_before : (outlet : Outlet) (sayings : List Saying) (front : List Deed) → IsFront front (flat_map (deeds_by outlet) sayings) → happened_in front ≡ []
none_happened_before outlet sayings front is =
    none_before (happened_in front) (happened_in is.rest)
    (sym (happened-append front is.rest) ∙ ap happened_in (sym is.parts) ∙ none_happened outlet sayings)

shut_by_sayings : (given : ℕ) (outlet : Outlet) (sayings : List Saying) (more : List Deed) → shut_in given (flat_map (deeds_by outlet) sayings ++ more) ≡ map (λ (conn : ℕ). let c : Closing = record { conn = conn; behind = given } in c) (flat_map shut_by sayings) ++ shut_in given more
shut_by_sayings given Records [] more = refl
shut_by_sayings given Records (Send conn message ∷ sayings) more = shut_by_sayings given Records sayings more
shut_by_sayings given Records (Close conn cause ∷ sayings) more = ap (λ (l : List Closing). record { conn = conn; behind = given } ∷ l) (shut_by_sayings given Records sayings more)
shut_by_sayings given Records (Line text ∷ sayings) more = shut_by_sayings given Records sayings more
shut_by_sayings given Hub [] more = refl
shut_by_sayings given Hub (Send conn message ∷ sayings) more = shut_by_sayings given Hub sayings more
shut_by_sayings given Hub (Close conn cause ∷ sayings) more = ap (λ (l : List Closing). record { conn = conn; behind = given } ∷ l) (shut_by_sayings given Hub sayings more)
shut_by_sayings given Hub (Line text ∷ sayings) more = shut_by_sayings given Hub sayings more
shut_by_sayings given Nowhere [] more = refl
shut_by_sayings given Nowhere (Send conn message ∷ sayings) more = shut_by_sayings given Nowhere sayings more
shut_by_sayings given Nowhere (Close conn cause ∷ sayings) more = ap (λ (l : List Closing). record { conn = conn; behind = given } ∷ l) (shut_by_sayings given Nowhere sayings more)
shut_by_sayings given Nowhere (Line text ∷ sayings) more = shut_by_sayings given Nowhere sayings more

-- nothing more stands behind all
none_more : (xs ys : List Happening) → xs ≡ xs ++ ys → ys ≡ []
none_more xs [] is = refl
none_more xs (y ∷ ys) is = absurd (omega (arith, ap (λ (l : List Happening). length l) is, length-append xs (y ∷ ys)))

-- closings behind all that was told change nothing of it
late_same : (n : ℕ) (closes : List Closing) (ds : List Deed) (records : List Record) → happened_in ds ≡ [] → length (told_by closes records).given ≤ n
    → told_by (closes ++ shut_in n ds) records ≡ told_by closes records
late_same n closes [] records none within = ap (λ (l : List Closing). told_by l records) (append-nil closes)
late_same n closes (gave h ∷ ds) records none within = absurd (cc)
late_same n closes (said conn piece ∷ ds) records none within = late_same n closes ds records none within
late_same n closes (shut conn ∷ ds) records none within =
    let c : Closing = record { conn = conn; behind = n } in
    let same : told_by (closes ++ c ∷ []) records ≡ told_by closes records = told_by-later closes c records within in
    ap (λ (l : List Closing). told_by l records) (sym (append_assoc closes (c ∷ []) (shut_in n ds)))
    ∙ late_same n (closes ++ c ∷ []) ds records none (subst (λ (t : Told). length t.given ≤ n) (sym same) within)
    ∙ same

-- ---- of a story

module _ {S : Type 0} (m : Workings S) (outlet : Outlet) where
  pub happened-deeds : (w : S) (hs : List Happening) → happened_in (deeds_of m outlet w hs) ≡ hs
  happened-deeds w [] = refl
  happened-deeds w (h ∷ hs) =
      let here : List Deed = flat_map (deeds_by outlet) (sayings_of m h w) in
      let more : List Deed = deeds_of m outlet (m.turn h w) hs in
      ap (λ (l : List Happening). h ∷ l)
      (happened-append here more
      ∙ ap (λ (l : List Happening). l ++ happened_in more) (none_happened outlet (sayings_of m h w))
      ∙ happened-deeds (m.turn h w) hs)

  pub shut-deeds : (given : ℕ) (w : S) (hs : List Happening) → shut_in given (deeds_of m outlet w hs) ≡ closings_of m given w hs
  shut-deeds given w [] = refl
  shut-deeds given w (h ∷ hs) =
      shut_by_sayings (given + 1) outlet (sayings_of m h w) (deeds_of m outlet (m.turn h w) hs)
      ∙ ap (λ (l : List Closing). map (λ (conn : ℕ). let c : Closing = record { conn = conn; behind = given + 1 } in c) (flat_map shut_by (sayings_of m h w)) ++ l) (shut-deeds (given + 1) (m.turn h w) hs)

  pub whole_happened : (w : S) (hs : List Happening) (events : List Event) → deeds events ≡ deeds_of m outlet w hs → happenings events ≡ hs
  whole_happened w hs events told = happenings_are events ∙ ap happened_in told ∙ happened-deeds w hs

  pub whole_closed : (w : S) (hs : List Happening) (events : List Event) (given : ℕ) → deeds events ≡ deeds_of m outlet w hs → closings given events ≡ closings_of m given w hs
  whole_closed w hs events given told = closings_are given events ∙ ap (shut_in given) told ∙ shut-deeds given w hs

  pub front_happened : (w : S) (hs : List Happening) (events : List Event) → IsFront (deeds events) (deeds_of m outlet w hs) → IsFront (happenings events) hs
  front_happened w hs events front = record {
    rest = happened_in front.rest;
    parts =
        sym (happened-deeds w hs)
        ∙ ap happened_in front.parts
        ∙ happened-append (deeds events) front.rest
        ∙ ap (λ (l : List Happening). l ++ happened_in front.rest) (sym (happenings_are events));
  }

  pub front_closed : (w : S) (hs : List Happening) (events : List Event) (given : ℕ) → IsFront (deeds events) (deeds_of m outlet w hs) → IsFront (closings given events) (closings_of m given w hs)
  front_closed w hs events given front =
      let below = shut-front given (deeds events) front.rest in
      record {
        rest = below.rest;
        parts =
            sym (shut-deeds given w hs)
            ∙ ap (shut_in given) front.parts
            ∙ below.parts
            ∙ ap (λ (l : List Closing). l ++ below.rest) (sym (closings_are given events));
      }

  -- ---- what is closed behind all that happened changes nothing of it

  none_behind : (w : S) (hs : List Happening) (events : List Event) (front : IsFront (deeds events) (deeds_of m outlet w hs)) → happenings events ≡ hs → happened_in front.rest ≡ []
  none_behind w hs events front all =
      none_more hs (happened_in front.rest)
      (sym (happened-deeds w hs)
      ∙ ap happened_in front.parts
      ∙ happened-append (deeds events) front.rest
      ∙ ap (λ (l : List Happening). l ++ happened_in front.rest) (sym (happenings_are events) ∙ all))

  late_closed : (w : S) (hs : List Happening) (events : List Event) (front : IsFront (deeds events) (deeds_of m outlet w hs)) → happenings events ≡ hs
      → closings_of m 0 w hs ≡ closings 0 events ++ shut_in (0 + length hs) front.rest
  late_closed w hs events front all =
      sym (shut-deeds 0 w hs)
      ∙ ap (shut_in 0) front.parts
      ∙ shut-append 0 (deeds events) front.rest
      ∙ ap (λ n. shut_in 0 (deeds events) ++ shut_in n front.rest) (ap (λ (l : List Happening). 0 + length l) (sym (happenings_are events) ∙ all))
      ∙ ap (λ (l : List Closing). l ++ shut_in (0 + length hs) front.rest) (sym (closings_are 0 events))

  -- a story that is told with the closings so far is told with all of them
  pub told_with_all : (w : S) (hs : List Happening) (events : List Event) (bytes : List ℕ) → IsFront (deeds events) (deeds_of m outlet w hs) → happenings events ≡ hs
      → IsStorySoFar bytes hs (closings 0 events) → IsStorySoFar bytes hs (closings_of m 0 w hs)
  told_with_all w hs events bytes front all is =
      let told : Told = told_by (closings 0 events) is.records in
      let within : length told.given ≤ 0 + length hs = omega (arith, ap (λ (l : List Happening). length l) is.told, length-append told.given (clock_of told.moment is.waits)) in
      let same : told_by (closings_of m 0 w hs) is.records ≡ told =
      ap (λ (l : List Closing). told_by l is.records) (late_closed w hs events front all)
      ∙ late_same (0 + length hs) (closings 0 events) front.rest is.records (none_behind w hs events front all) within
      in
      record {
        records = is.records;
        waits = is.waits;
        front = is.front;
        rest = is.rest;
        parts = is.parts;
        spell = is.spell;
        follow = is.follow;
        told = is.told ∙ ap (λ (t : Told). t.given ++ clock_of t.moment is.waits) (sym same);
      }
