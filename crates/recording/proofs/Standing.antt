-- What a hub that reads a recording stands for, a record or an event at a time.
use Rattle.std.proofs.Common.{◌≡◌, ◌==◌, ◌&&◌, ◌||◌, ℕ, ◌+◌, Bool, true, false, not, if◌then◌else◌, List, [], ◌∷◌, ◌++◌, length, Option, Some, None, refl, sym, ◌∙◌, ap, subst, arith, nat_lt, append_assoc, length-append}
use Rattle.std.proofs.lemmas.List.{append-nil}
use Rattle.std.proofs.lemmas.List.Sums.{fold_push}
use Rattle.std.proofs.lemmas.Map.Views.{any-filter_same}
use Rattle.std.proofs.lemmas.Bool.{eqb-true}
use Rattle.std.proofs.lemmas.Bool.Decides.{nat_tests}
use Rattle.std.proofs.Math.Bool.{and-true}
use Rattle.std.specs.List.{fold}
use Rattle.fg_outside.specs.declared.hub.Happening.{Happening}
use Rattle.fg_outside.specs.declared.hub.Happening.TheVariants as happens
use Rattle.fg_outside.specs.declared.hub.EndCause.TheVariants.{End}
use Rattle.fg_outside.specs.HubStep.{Event, happenings}
use Rattle.fg_outside.specs.Left.{prepended}
use Rattle.recording.specs.declared.kind.RecordKind.{RecordKind}
use Rattle.recording.specs.declared.kind.RecordKind.TheVariants as kinds
use Rattle.recording.specs.declared.record.Record.{Record}
use Rattle.recording.specs.declared.script_hub.ScriptHub.{ScriptHub}
use Rattle.recording.specs.declared.refused.RecordCause.{RecordCause}
use Rattle.recording.specs.declared.reader.Reader.{Reader}
use Rattle.recording.specs.Kinds.{is_of_connection, is_moment}
use Rattle.recording.specs.Conns.{is_among, without, open_after, is_conn}
use Rattle.recording.specs.Layout.{Spells}
use Rattle.recording.specs.Recording.{Place, first_place, after, after_all, Follows, AllSpell, AllFollow}
use Rattle.recording.specs.Reader.{place_of, left_of, refused_of, Refuses}
use Rattle.recording.specs.Turns as turning
use Rattle.recording.specs.Script as script
use Rattle.recording.specs.Turns.{Closing, closings, opens, is_shut, own_of, with_own, clock, tell, told_by}
use Rattle.recording.specs.Script.{is_live, is_spent, listed, clock_of, is_open_in, opened_by, own_kind, own_where, Runs, StandsFor, Keeps, Waits, Stays}
use Rattle.recording.proofs.Parts.{prepended-append}
use Rattle.recording.proofs.Ascending.{is_among-with_one}
use Rattle.recording.proofs.Turning.{AreWithin, within_more, within_push, closings-within, is_shut-happening, is_shut-closing, told_by-later, told_by-push}

-- ---- records behind records

pub AllSpell-push : (records : List Record) (xs : List ℕ) (r : Record) (ys : List ℕ) → AllSpell records xs → Spells r ys → AllSpell (records ++ r ∷ []) (xs ++ ys)
AllSpell-push [] xs r ys none spells = (ys, [], ap (λ (l : List ℕ). l ++ ys) none ∙ sym (append-nil ys), spells, refl)
AllSpell-push (q ∷ records) xs r ys (first, rest, parts, here, more) spells = (
  first,
  rest ++ ys,
  ap (λ (l : List ℕ). l ++ ys) parts ∙ append_assoc first rest ys,
  here,
  AllSpell-push records rest r ys more spells,
)

pub after_all-push : (place : Place) (records : List Record) (r : Record) → after_all place (records ++ r ∷ []) ≡ after (after_all place records) r
after_all-push place records r = fold_push after place records r

pub AllFollow-push : (place : Place) (records : List Record) (r : Record) → AllFollow place records → Follows (after_all place records) r → AllFollow place (records ++ r ∷ [])
AllFollow-push place [] r all follows = (follows, tt)
AllFollow-push place (q ∷ records) r all follows = (all.0, AllFollow-push (after place q) records r all.1 follows)

AllFollow-last : (place : Place) (records : List Record) (r : Record) → AllFollow place (records ++ r ∷ []) → Follows (after_all place records) r
AllFollow-last place [] r all = all.0
AllFollow-last place (q ∷ records) r all = AllFollow-last (after place q) records r all.1

same_moment : (closes : List Closing) (place : Place) (told : turning.Told) (records : List Record) → place.moment ≡ told.moment → (after_all place records).moment ≡ (fold (tell closes) told records).moment
same_moment closes place told [] h = h
same_moment closes place told (r ∷ records) h = same_moment closes (after place r) (tell closes told r) records refl

-- ---- connections

same_test : (k conn c : ℕ) → k ≡ conn → not (k == c) ≡ not (c == conn)
same_test k conn c h = grind (arith, nat_tests)

pub is_among-without : (conns : List ℕ) (c conn : ℕ) → is_among (without conns c) conn ≡ (not (c == conn) && is_among conns conn)
is_among-without conns c conn = any-filter_same (λ k. k == conn) (λ k. not (k == c)) (not (c == conn)) (λ k h. same_test k conn c (eqb-true k conn h)) conns

-- ---- a record tells its own

abbrev pub told_list : Option Happening → List Happening
told_list None = []
told_list (Some it) = it ∷ []

abbrev pub SaysShut : List ℕ → List Closing → List Happening → ℕ → Type 0
SaysShut live closes given conn = is_among live conn ≡ not (is_shut closes given conn)

own_given : (kind : RecordKind) (c : ℕ) (body : List ℕ) (live shut : Bool) (given : List Happening) → (is_of_connection kind ≡ true → live ≡ not shut) → (if is_of_connection kind && shut then given else given ++ own_of kind c body) ≡ given ++ told_list (own_kind live kind c body)
own_given kinds.Open c body live shut given h = refl
own_given kinds.Bytes c body true true given h = cc (h refl)
own_given kinds.Bytes c body false true given h = sym (append-nil given)
own_given kinds.Bytes c body true false given h = refl
own_given kinds.Bytes c body false false given h = cc (h refl)
own_given kinds.Close c body true true given h = cc (h refl)
own_given kinds.Close c body false true given h = sym (append-nil given)
own_given kinds.Close c body true false given h = refl
own_given kinds.Close c body false false given h = cc (h refl)
own_given kinds.Reload c body live shut given h = refl
own_given kinds.Moment c body live shut given h = refl

-- a happening that opens no connection
quiet : (closes : List Closing) (given : List Happening) (it : Happening) (conn : ℕ) → AreWithin (length given) closes → opens conn it ≡ false → is_shut closes (given ++ it ∷ []) conn ≡ is_shut closes given conn
quiet closes given it conn within h = is_shut-happening closes given it conn within ∙ ap (λ b. is_shut closes given conn && not b) h ∙ and-true (is_shut closes given conn)

quietly : (told : Bool) (it : Happening) (live : List ℕ) (closes : List Closing) (given : List Happening) (conn : ℕ) → AreWithin (length given) closes → opens conn it ≡ false → SaysShut live closes given conn → SaysShut live closes (given ++ told_list (if told then Some it else None)) conn
quietly true it live closes given conn within h says = says ∙ ap (λ b. not b) (sym (quiet closes given it conn within h))
quietly false it live closes given conn within h says = says ∙ ap (λ (l : List Happening). not (is_shut closes l conn)) (sym (append-nil given))

opened_now : (opened live shut same : Bool) → (opened ≡ true → live ≡ not shut) → (opened || same) ≡ true → (live || same) ≡ not (shut && not same)
opened_now opened true true true h there = refl
opened_now opened true false true h there = refl
opened_now opened false true true h there = refl
opened_now opened false false true h there = refl
opened_now true true true false h there = cc (h refl)
opened_now true true false false h there = refl
opened_now true false true false h there = refl
opened_now true false false false h there = cc (h refl)
opened_now false live shut false h there = cc

still_open : (opened same : Bool) → (not same && opened) ≡ true → (opened ≡ true) × (same ≡ false)
still_open true false there = (refl, refl)
still_open false false there = cc
still_open opened true there = cc

own_shut : (kind : RecordKind) (c : ℕ) (body : List ℕ) (live opened : List ℕ) (closes : List Closing) (given : List Happening) (conn : ℕ) → AreWithin (length given) closes → (is_among opened conn ≡ true → SaysShut live closes given conn) → is_among (open_after kind c opened) conn ≡ true → SaysShut (open_after kind c live) closes (given ++ told_list (own_kind (is_among live c) kind c body)) conn
own_shut kinds.Open c body live opened closes given conn within h there =
    is_among-with_one live c conn
    ∙ opened_now (is_among opened conn) (is_among live conn) (is_shut closes given conn) (c == conn) h (sym (is_among-with_one opened c conn) ∙ there)
    ∙ ap (λ b. not b) (sym (is_shut-happening closes given (happens.Opened c) conn within))
own_shut kinds.Bytes c body live opened closes given conn within h there = quietly (is_among live c) (happens.Heard c body) live closes given conn within refl (h there)
own_shut kinds.Close c body live opened closes given conn within h there =
    let open_still = still_open (is_among opened conn) (c == conn) (sym (is_among-without opened c conn) ∙ there) in
    is_among-without live c conn
    ∙ ap (λ b. not b && is_among live conn) open_still.1
    ∙ quietly (is_among live c) (happens.Closed c End) live closes given conn within refl (h open_still.0)
own_shut kinds.Reload c body live opened closes given conn within h there = quietly true (happens.Reload body) live closes given conn within refl (h there)
own_shut kinds.Moment c body live opened closes given conn within h there = quietly false (happens.Reload body) live closes given conn within refl (h there)

moment_shut : (told : Bool) (live : List ℕ) (closes : List Closing) (given : List Happening) (conn moment : ℕ) → AreWithin (length given) closes → SaysShut live closes given conn → SaysShut live closes (given ++ (if told then happens.Moment moment ∷ [] else [])) conn
moment_shut true live closes given conn moment within says = quietly true (happens.Moment moment) live closes given conn within refl says
moment_shut false live closes given conn moment within says = quietly false (happens.Moment moment) live closes given conn within refl says

clock_shut : (live : List ℕ) (closes : List Closing) (given : List Happening) (conn last : ℕ) (r : Record) → AreWithin (length given) closes → SaysShut live closes given conn → SaysShut live closes (given ++ clock last r) conn
clock_shut live closes given conn last r within says = moment_shut (nat_lt last r.moment || is_moment r.kind) live closes given conn r.moment within says

not_refused : (found : Option RecordCause) (cause : RecordCause) → found ≡ None → found ≡ Some cause → ⊥
not_refused found cause none is = cc

named_open : (kind : RecordKind) (conn : ℕ) (opened : List ℕ) → is_of_connection kind ≡ true → is_conn kind conn opened ≡ true → is_among opened conn ≡ true
named_open kinds.Open conn opened of_conn is = cc
named_open kinds.Bytes conn opened of_conn is = is
named_open kinds.Close conn opened of_conn is = is
named_open kinds.Reload conn opened of_conn is = cc
named_open kinds.Moment conn opened of_conn is = cc

-- ---- what stands, apart from the events

-- the records that a hub has read are those that the front of the recording spells
pub record Front (whole : Option (List ℕ)) (records : List Record) : Type 0 where
  pub front : List ℕ
  pub rest : Option (List ℕ)
  pub parts : whole ≡ prepended front rest
  pub spell : AllSpell records front
  pub follow : AllFollow first_place records

-- a part of what a hub stands for, by the closings and the happenings of the story
pub record Core {S : Type 0} (left : S → Option (List ℕ)) (whole : Option (List ℕ)) (hub : ScriptHub S) (records : List Record) (waits : Option Record) (closes : List Closing) (given : List Happening) : Type 0 where
  pub read : Front whole (records ++ listed waits)
  pub gave : given ≡ (told_by closes records).given ++ clock_of (told_by closes records).moment waits
  pub within : AreWithin (length given) closes
  pub shut : (conn : ℕ) → is_among (after_all first_place records).opened conn ≡ true → SaysShut hub.live closes given conn
  pub runs : is_spent hub ≡ false → Runs left hub records waits read.rest

neither : (same shut : Bool) → (not same && not shut) ≡ not (shut || same)
neither true true = refl
neither true false = refl
neither false true = refl
neither false false = refl

not_both : (b : Bool) → b ≡ true → b ≡ false → ⊥
not_both b h k = cc

module _ {S : Type 0} (left : S → Option (List ℕ)) (whole : Option (List ℕ)) where
  pub core_of : (hub : ScriptHub S) (records : List Record) (waits : Option Record) (events : List Event) → StandsFor left whole hub records waits events → Core left whole hub records waits (closings 0 events) (happenings events)
  core_of hub records waits events stands = record {
    read = record { front = stands.front; rest = stands.rest; parts = stands.parts; spell = stands.spell; follow = stands.follow };
    gave = stands.gave;
    within = within_more (0 + length (happenings events)) (length (happenings events)) (closings 0 events) (omega arith) (closings-within 0 events);
    shut = stands.shut;
    runs = stands.runs;
  }

  pub stands_by : (hub : ScriptHub S) (records : List Record) (waits : Option Record) (events : List Event) → Core left whole hub records waits (closings 0 events) (happenings events) → ((conn : ℕ) → is_live hub conn ≡ is_open_in events conn) → StandsFor left whole hub records waits events
  stands_by hub records waits events core live = record {
    front = core.read.front;
    rest = core.read.rest;
    parts = core.read.parts;
    spell = core.read.spell;
    follow = core.read.follow;
    gave = core.gave;
    live = live;
    shut = core.shut;
    runs = core.runs;
  }

  refused_still : {hub new : ScriptHub S} (found : Option RecordCause) (cause : RecordCause) → refused_of hub.reader ≡ found → ((k : RecordCause) → refused_of hub.reader ≡ Some k → Refuses left hub.reader k) → Stays left hub new → refused_of new.reader ≡ Some cause → Refuses left new.reader cause
  refused_still None cause is before stays now = stays.refuses cause is now
  refused_still (Some k) cause is before stays now =
      let same = stays.stays k is in
      subst (λ (rd : Reader S). Refuses left rd cause) (sym same) (before cause (ap (λ (rd : Reader S). refused_of rd) (sym same) ∙ now))

  -- the record that waits tells its own
  pub own_told : (hub new : ScriptHub S) (records : List Record) (r : Record) (closes : List Closing) (given : List Happening) → Core left whole hub records (Some r) closes given → script.Told hub r new → Core left whole new (records ++ r ∷ []) None closes (given ++ told_list (own_where (is_live hub r.conn) r))
  own_told hub new records r closes given core told =
      let place = after_all first_place records in
      let so_far = told_by closes records in
      let follows : Follows place r = AllFollow-last first_place records r core.read.follow in
      let all : (records ++ r ∷ []) ++ [] ≡ records ++ r ∷ [] = append-nil (records ++ r ∷ []) in
      let live_says : is_of_connection r.kind ≡ true → is_live hub r.conn ≡ not (is_shut closes given r.conn) =
      λ of_conn. core.shut r.conn (named_open r.kind r.conn place.opened of_conn follows.conn)
      in
      record {
        read = record {
          front = core.read.front;
          rest = core.read.rest;
          parts = core.read.parts;
          spell = subst (λ (l : List Record). AllSpell l core.read.front) (sym all) core.read.spell;
          follow = subst (λ (l : List Record). AllFollow first_place l) (sym all) core.read.follow;
        };
        gave =
            sym (own_given r.kind r.conn r.body (is_live hub r.conn) (is_shut closes given r.conn) given live_says)
            ∙ ap (λ (l : List Happening). with_own closes l r) core.gave
            ∙ ap (λ (t : turning.Told). t.given) (sym (told_by-push closes records r))
            ∙ sym (append-nil (told_by closes (records ++ r ∷ [])).given);
        within = within_more (length given) _ closes (omega (arith, length-append given (told_list (own_where (is_live hub r.conn) r)))) core.within;
        shut = λ conn there.
            let now : is_among (open_after r.kind r.conn place.opened) conn ≡ true = ap (λ (p : Place). is_among p.opened conn) (sym (after_all-push first_place records r)) ∙ there in
            subst (λ (l : List ℕ). SaysShut l closes (given ++ told_list (own_where (is_live hub r.conn) r)) conn) (sym told.live) (own_shut r.kind r.conn r.body hub.live place.opened closes given conn core.within (core.shut conn) now);
        runs = λ running.
            let runs = core.runs (sym told.spent ∙ running) in
            record {
              place = ap (λ (rd : Reader S). place_of rd) told.reader ∙ runs.place ∙ ap (λ (l : List Record). after_all first_place l) (sym all);
              waiting = told.waiting;
              behind = runs.behind ∙ ap (λ (rd : Reader S). left_of left rd) (sym told.reader);
              refused = λ cause is. subst (λ (rd : Reader S). Refuses left rd cause) (sym told.reader) (runs.refused cause (ap (λ (rd : Reader S). refused_of rd) (sym told.reader) ∙ is));
            };
      }

  -- the next record is read, and tells its moment
  pub read_waits : (hub new : ScriptHub S) (records : List Record) (closes : List Closing) (given told : List Happening) → is_spent hub ≡ false → Core left whole hub records None closes given → (waits : Waits left hub told new) → Core left whole new records (Some waits.r) closes (given ++ told)
  read_waits hub new records closes given told running core waits =
      let runs = core.runs running in
      let r = waits.r in
      let all : records ++ [] ≡ records = append-nil records in
      let place : place_of hub.reader ≡ after_all first_place records = runs.place ∙ ap (λ (l : List Record). after_all first_place l) all in
      let so_far = told_by closes records in
      let first : told ≡ clock so_far.moment r = sym waits.told_first ∙ ap (λ (p : Place). clock p.moment r) place ∙ ap (λ m. clock m r) (same_moment closes first_place (record { given = []; moment = 0 }) records refl) in
      record {
        read = record {
          front = core.read.front ++ waits.takes.piece;
          rest = left_of left new.reader;
          parts = core.read.parts ∙ ap (λ k. prepended core.read.front k) (runs.behind ∙ waits.takes.parts) ∙ prepended-append core.read.front waits.takes.piece (left_of left new.reader);
          spell = AllSpell-push records core.read.front r waits.takes.piece (subst (λ (l : List Record). AllSpell l core.read.front) all core.read.spell) waits.takes.spells;
          follow = AllFollow-push first_place records r (subst (λ (l : List Record). AllFollow first_place l) all core.read.follow) (subst (λ (p : Place). Follows p r) place waits.takes.follows);
        };
        gave = ap (λ (l : List Happening). l ++ told) (core.gave ∙ append-nil so_far.given) ∙ ap (λ (l : List Happening). so_far.given ++ l) first;
        within = within_more (length given) _ closes (omega (arith, length-append given told)) core.within;
        shut = λ conn there.
            subst (λ (l : List ℕ). SaysShut l closes (given ++ told) conn) (sym waits.live) (
            subst (λ (l : List Happening). SaysShut hub.live closes (given ++ l) conn) (sym first) (clock_shut hub.live closes given conn so_far.moment r core.within (core.shut conn there)));
        runs = λ now. record {
          place = waits.takes.place ∙ ap (λ (p : Place). after p r) place ∙ sym (after_all-push first_place records r);
          waiting = waits.waiting;
          behind = refl;
          refused = λ cause is. absurd (not_refused (refused_of new.reader) cause waits.takes.unrefused is);
        };
      }

  -- no record is read
  pub read_stays : (hub new : ScriptHub S) (records : List Record) (closes : List Closing) (given : List Happening) → is_spent hub ≡ false → Core left whole hub records None closes given → Stays left hub new → Core left whole new records None closes given
  read_stays hub new records closes given running core stays =
      let runs = core.runs running in
      record {
        read = core.read;
        gave = core.gave;
        within = core.within;
        shut = λ conn there. subst (λ (l : List ℕ). SaysShut l closes given conn) (sym stays.live) (core.shut conn there);
        runs = λ now. record {
          place = stays.place ∙ runs.place;
          waiting = stays.waiting ∙ runs.waiting;
          behind = runs.behind ∙ sym stays.same;
          refused = λ cause is. refused_still (refused_of hub.reader) cause refl runs.refused stays is;
        };
      }

  -- a connection is closed
  pub closed_core : (hub new : ScriptHub S) (records : List Record) (waits : Option Record) (closes : List Closing) (given : List Happening) (c : ℕ) → Core left whole hub records waits closes given → new.live ≡ without hub.live c → new.reader ≡ hub.reader → new.waiting ≡ hub.waiting → new.spent ≡ hub.spent → Core left whole new records waits (closes ++ record { conn = c; behind = length given } ∷ []) given
  closed_core hub new records waits closes given c core live reader waiting spent =
      let k : Closing = record { conn = c; behind = length given } in
      let so_far = told_by closes records in
      let later : told_by (closes ++ k ∷ []) records ≡ so_far =
      told_by-later closes k records (omega (arith, ap (λ (l : List Happening). length l) core.gave, length-append so_far.given (clock_of so_far.moment waits)))
      in
      record {
        read = core.read;
        gave = core.gave ∙ ap (λ (t : turning.Told). t.given ++ clock_of t.moment waits) (sym later);
        within = within_push (length given) closes k core.within (omega arith);
        shut = λ conn there.
            ap (λ (l : List ℕ). is_among l conn) live
            ∙ is_among-without hub.live c conn
            ∙ ap (λ b. not (c == conn) && b) (core.shut conn there)
            ∙ neither (c == conn) (is_shut closes given conn)
            ∙ ap (λ b. not b) (sym (is_shut-closing closes given c conn));
        runs = λ now.
            let runs = core.runs (sym spent ∙ now) in
            record {
              place = ap (λ (rd : Reader S). place_of rd) reader ∙ runs.place;
              waiting = waiting ∙ runs.waiting;
              behind = runs.behind ∙ ap (λ (rd : Reader S). left_of left rd) (sym reader);
              refused = λ cause is. subst (λ (rd : Reader S). Refuses left rd cause) (sym reader) (runs.refused cause (ap (λ (rd : Reader S). refused_of rd) (sym reader) ∙ is));
            };
      }

  -- memory runs out
  pub spent_core : (hub new : ScriptHub S) (records : List Record) (waits : Option Record) (closes : List Closing) (given : List Happening) → Core left whole hub records waits closes given → script.RanOut hub new → Core left whole new records waits closes given
  spent_core hub new records waits closes given core out = record {
    read = core.read;
    gave = core.gave;
    within = core.within;
    shut = λ conn there. subst (λ (l : List ℕ). SaysShut l closes given conn) (sym out.live) (core.shut conn there);
    runs = λ now. absurd (not_both new.spent out.spent now);
  }
