-- What is written of a story, a record at a time.
use Rattle.std.proofs.Common.{◌≡◌, ◌==◌, ◌&&◌, ◌||◌, inl, inr, ℕ, ◌-◌, ◌^◌, ◌<◌, Bool, true, false, not, nat_lt, nat_le, if◌then◌else◌, List, [], ◌∷◌, ◌++◌, length, take, Option, Some, None, refl, sym, ◌∙◌, ap, subst, arith, append_assoc, length-append, true≢false}
use Rattle.std.proofs.lemmas.List.{append-nil}
use Rattle.std.proofs.lemmas.Bool.{eqb-true, eq-eqb, le-ltb, ltb-true, leb-true, or_right, or_from, and_parts}
use Rattle.fg_outside.specs.declared.hub.Happening.{Happening}
use Rattle.fg_outside.specs.declared.hub.Happening.TheVariants as happens
use Rattle.fg_outside.specs.Wrote.{appended}
use Rattle.recording.specs.declared.kind.RecordKind.{RecordKind}
use Rattle.recording.specs.declared.kind.RecordKind.TheVariants as kinds
use Rattle.recording.specs.declared.record.Record.{Record}
use Rattle.recording.specs.Kinds.{is_length, is_moment}
use Rattle.recording.specs.Conns.{is_among, is_conn, open_after, with_one}
use Rattle.recording.specs.Recording.{Place, first_place, after, after_all, Follows, AllSpell, AllFollow}
use Rattle.recording.specs.Turns.{Closing, Told, opens, is_shut, clock, own, tell, told_by, is_passed_over, with_own}
use Rattle.recording.proofs.Turning.{AreWithin, within_more, within_push, is_shut-happening, is_shut-closing, told_by-later, told_by-push}
use Rattle.recording.proofs.Ascending.{is_among-with_one}
use Rattle.recording.proofs.Standing.{AllSpell-push, AllFollow-push, after_all-push, is_among-without}
use Rattle.recording_hub.specs.declared.recorder.Recorder.{Recorder}
use Rattle.recording_hub.specs.Recorded.{bytes_of, held, held_text, record_of, record_of_closing}
use Rattle.recording_hub.specs.Recorder.{place_of, is_broken, may_follow, Notes, Breaks, NotesClosing, Rests}
use Rattle.recording_hub.specs.RecordedStory.{IsCut}

appended-twice : (start : Option (List ℕ)) (xs ys : List ℕ) → appended (appended start xs) ys ≡ appended start (xs ++ ys)
appended-twice None xs ys = refl
appended-twice (Some zs) xs ys = ap (λ (l : List ℕ). Some l) (append_assoc zs xs ys)

appended-none : (start : Option (List ℕ)) → appended start [] ≡ start
appended-none None = refl
appended-none (Some zs) = ap (λ (l : List ℕ). Some l) (append-nil zs)

-- a record that may stand there follows on those before it
follows_if : (place : Place) (r : Record) → may_follow place r ≡ true → Follows place r
follows_if place r h =
    let last = and_parts (nat_lt place.count (2 ^ 64 - 2) && is_length r.kind (length r.body) && nat_le place.moment r.moment) (is_conn r.kind r.conn place.opened) h in
    let third = and_parts (nat_lt place.count (2 ^ 64 - 2) && is_length r.kind (length r.body)) (nat_le place.moment r.moment) last.0 in
    let first = and_parts (nat_lt place.count (2 ^ 64 - 2)) (is_length r.kind (length r.body)) third.0 in
    let fewer : place.count < 2 ^ 64 - 2 = ltb-true place.count (2 ^ 64 - 2) first.0 in
    record { number = omega (arith, fewer); len = first.1; moment = leb-true place.moment r.moment third.1; conn = last.1 }

-- of a broken off record a front stands there
pub cut_none : IsCut []
cut_none = record { r = record_of 0 (happens.Moment 0); len = 0; front = refl }

-- what stands while the recording is whole and goes on
pub record Goes {S : Type 0} (rec : Recorder S) (records : List Record) (closes : List Closing) (given : List Happening) : Type 0 where
  pub place : place_of rec ≡ after_all first_place records
  pub moment : (place_of rec).moment ≡ (told_by closes records).moment
  pub shut : (conn : ℕ) → is_among (place_of rec).opened conn ≡ true → is_shut closes given conn ≡ false

-- what was written since the start, by the closings and the happenings of the story, as records hold them; it goes on where `live`
-- holds
pub record Kept {S : Type 0} (wrote : S → Option (List ℕ)) (start : Option (List ℕ)) (live : Type 0) (rec : Recorder S) (closes : List Closing) (given : List Happening) : Type 0 where
  pub records : List Record
  pub bytes : List ℕ
  pub part : List ℕ
  pub written : wrote rec.sink ≡ appended (appended start bytes) part
  pub spell : AllSpell records bytes
  pub follow : AllFollow first_place records
  pub gave : (told_by closes records).given ≡ given
  pub within : AreWithin (length given) closes
  pub cut : IsCut part
  pub none : is_broken rec ≡ false → part ≡ []
  pub runs : live → is_broken rec ≡ false → Goes rec records closes given

-- ---- the records of happenings

still : (last moment : ℕ) → last ≡ moment → nat_lt last moment ≡ false
still last moment is = le-ltb last moment (omega (arith, is))

-- a record of the last moment tells its own behind what was told, unless it is passed over
tells_own : (closes : List Closing) (told : Told) (given : List Happening) (kind : RecordKind) (moment conn : ℕ) (body : List ℕ)
    → let r : Record = record { moment = moment; kind = kind; conn = conn; body = body } in
    told.given ≡ given → told.moment ≡ moment → is_moment kind ≡ false → is_passed_over closes given r ≡ false → (tell closes told r).given ≡ given ++ own r
tells_own closes told given kind moment conn body same last plain told_here =
    let r : Record = record { moment = moment; kind = kind; conn = conn; body = body } in
    let quiet : clock told.moment r ≡ [] = ap (λ (b : Bool). if b then happens.Moment moment ∷ [] else []) (or_from (nat_lt told.moment moment) (is_moment kind) (still told.moment moment last) plain) in
    let before : told.given ++ clock told.moment r ≡ given = ap (λ (l : List Happening). told.given ++ l) quiet ∙ append-nil told.given ∙ same in
    ap (λ (l : List Happening). with_own closes l r) before ∙ ap (λ (b : Bool). if b then given else given ++ own r) told_here

-- one that is passed over tells nothing
tells_none : (closes : List Closing) (told : Told) (given : List Happening) (kind : RecordKind) (moment conn : ℕ) (body : List ℕ)
    → let r : Record = record { moment = moment; kind = kind; conn = conn; body = body } in
    told.given ≡ given → told.moment ≡ moment → is_moment kind ≡ false → is_passed_over closes given r ≡ true → (tell closes told r).given ≡ given
tells_none closes told given kind moment conn body same last plain passed =
    let r : Record = record { moment = moment; kind = kind; conn = conn; body = body } in
    let quiet : clock told.moment r ≡ [] = ap (λ (b : Bool). if b then happens.Moment moment ∷ [] else []) (or_from (nat_lt told.moment moment) (is_moment kind) (still told.moment moment last) plain) in
    let before : told.given ++ clock told.moment r ≡ given = ap (λ (l : List Happening). told.given ++ l) quiet ∙ append-nil told.given ∙ same in
    ap (λ (l : List Happening). with_own closes l r) before ∙ ap (λ (b : Bool). if b then given else given ++ own r) passed

-- a moment is told by its record
tells_moment : (closes : List Closing) (told : Told) (given : List Happening) (moment : ℕ) → told.given ≡ given → (tell closes told (record_of told.moment (happens.Moment moment))).given ≡ given ++ happens.Moment moment ∷ []
tells_moment closes told given moment same =
    let before : told.given ++ clock told.moment (record_of told.moment (happens.Moment moment)) ≡ given ++ happens.Moment moment ∷ [] =
    ap (λ (b : Bool). told.given ++ (if b then happens.Moment moment ∷ [] else [])) (or_right (nat_lt told.moment moment) true refl) ∙ ap (λ (l : List Happening). l ++ happens.Moment moment ∷ []) same
    in
    append-nil (told.given ++ clock told.moment (record_of told.moment (happens.Moment moment))) ∙ before

-- ---- a record more

-- behind a state that goes on where `live` holds, one that goes on where `later` does
module _ {S : Type 0} (wrote : S → Option (List ℕ)) (start : Option (List ℕ)) (live later : Type 0) where
  noted : (old new : Recorder S) (r : Record) (closes closes' : List Closing) (given given' : List Happening) → live → is_broken old ≡ false → (kept : Kept wrote start live old closes given) → Notes wrote old r new
      → told_by closes' kept.records ≡ told_by closes kept.records
      → ((told : Told) → told.given ≡ given → told.moment ≡ (place_of old).moment → (tell closes' told r).given ≡ given')
      → AreWithin (length given') closes'
      → ((conn : ℕ) → is_among (open_after r.kind r.conn (place_of old).opened) conn ≡ true → is_shut closes' given' conn ≡ false)
      → Kept wrote start later new closes' given'
  noted old new r closes closes' given given' alive whole kept notes same tells within shut =
      let goes = kept.runs alive whole in
      let told = told_by closes' kept.records in
      let more = told_by-push closes' kept.records r in
      record {
        records = kept.records ++ r ∷ [];
        bytes = kept.bytes ++ bytes_of r;
        part = [];
        written =
            notes.bytes
            ∙ ap (λ (o : Option (List ℕ)). appended o (bytes_of r)) (kept.written ∙ ap (λ (p : List ℕ). appended (appended start kept.bytes) p) (kept.none whole) ∙ appended-none (appended start kept.bytes))
            ∙ appended-twice start kept.bytes (bytes_of r)
            ∙ sym (appended-none (appended start (kept.bytes ++ bytes_of r)));
        spell = AllSpell-push kept.records kept.bytes r (bytes_of r) kept.spell notes.spells;
        follow = AllFollow-push first_place kept.records r kept.follow (subst (λ (p : Place). Follows p r) goes.place (follows_if (place_of old) r notes.follows));
        gave =
            ap (λ (t : Told). t.given) more
            ∙ tells told (ap (λ (t : Told). t.given) same ∙ kept.gave) (ap (λ (t : Told). t.moment) same ∙ sym goes.moment);
        within = within;
        cut = cut_none;
        none = λ still_whole. refl;
        runs = λ now still_whole. record {
          place = notes.place ∙ ap (λ (p : Place). after p r) goes.place ∙ sym (after_all-push first_place kept.records r);
          moment = ap (λ (p : Place). p.moment) notes.place ∙ sym (ap (λ (t : Told). t.moment) more);
          shut = λ conn there. shut conn (sym (ap (λ (p : Place). is_among p.opened conn) notes.place) ∙ there);
        };
      }

  -- no record more, but a part of one
  broken : (faults : S → ℕ) (old new : Recorder S) (r : Record) (closes closes' : List Closing) (given : List Happening) → is_broken old ≡ false → (kept : Kept wrote start live old closes given) → Breaks wrote faults old r new
      → told_by closes' kept.records ≡ told_by closes kept.records → AreWithin (length given) closes' → Kept wrote start later new closes' given
  broken faults old new r closes closes' given whole kept breaks same within =
      record {
        records = kept.records;
        bytes = kept.bytes;
        part = take breaks.front.count (bytes_of r);
        written =
            breaks.front.front
            ∙ ap (λ (o : Option (List ℕ)). appended o (take breaks.front.count (bytes_of r))) (kept.written ∙ ap (λ (p : List ℕ). appended (appended start kept.bytes) p) (kept.none whole) ∙ appended-none (appended start kept.bytes));
        spell = kept.spell;
        follow = kept.follow;
        gave = ap (λ (t : Told). t.given) same ∙ kept.gave;
        within = within;
        cut = record { r = r; len = breaks.front.count; front = refl };
        none = λ still_whole. absurd (true≢false (sym breaks.broken ∙ still_whole));
        runs = λ now still_whole. absurd (true≢false (sym breaks.broken ∙ still_whole));
      }

  -- ---- a happening

  -- it opens no connection, and none is open that wasn't
  stays_shut : (closes : List Closing) (given : List Happening) (it : Happening) (conn : ℕ) → AreWithin (length given) closes → is_shut closes given conn ≡ false → is_shut closes (given ++ it ∷ []) conn ≡ false
  stays_shut closes given it conn within not_shut = is_shut-happening closes given it conn within ∙ ap (λ b. b && not (opens conn it)) not_shut

  opened_shut : (closes : List Closing) (given : List Happening) (c conn : ℕ) (opened : List ℕ) → AreWithin (length given) closes → (is_among opened conn ≡ true → is_shut closes given conn ≡ false) → is_among (with_one opened c) conn ≡ true → is_shut closes (given ++ happens.Opened c ∷ []) conn ≡ false
  opened_shut closes given c conn opened within before there =
      is_shut-happening closes given (happens.Opened c) conn within
      ∙ opened_now (is_among opened conn) (c == conn) (is_shut closes given conn) before (sym (is_among-with_one opened c conn) ∙ there)
    where
      opened_now : (was same shut : Bool) → (was ≡ true → shut ≡ false) → (was || same) ≡ true → (shut && not same) ≡ false
      opened_now was true true h there = refl
      opened_now was true false h there = refl
      opened_now true false shut h there = ap (λ b. b && true) (h refl)
      opened_now false false shut h there = absurd (true≢false (sym there))

  still_open : (opened : List ℕ) (c conn : ℕ) → is_among (open_after kinds.Close c opened) conn ≡ true → (not (c == conn) ≡ true) × (is_among opened conn ≡ true)
  still_open opened c conn there = and_parts (not (c == conn)) (is_among opened conn) (sym (is_among-without opened c conn) ∙ there)

  -- the happening is told by its record
  tells_held : (closes : List Closing) (given : List Happening) (place : Place) (it : Happening) (told : Told) → ((conn : ℕ) → is_among place.opened conn ≡ true → is_shut closes given conn ≡ false) → is_conn (record_of place.moment it).kind (record_of place.moment it).conn place.opened ≡ true
      → told.given ≡ given → told.moment ≡ place.moment → (tell closes told (record_of place.moment it)).given ≡ given ++ held it ∷ []
  tells_held closes given place (happens.Opened c) told shut named same last = tells_own closes told given kinds.Open place.moment c [] same last refl refl
  tells_held closes given place (happens.Heard c piece) told shut named same last = tells_own closes told given kinds.Bytes place.moment c piece same last refl (shut c named)
  tells_held closes given place (happens.Closed c cause) told shut named same last = tells_own closes told given kinds.Close place.moment c [] same last refl (shut c named)
  tells_held closes given place (happens.Moment moment) told shut named same last = tells_moment closes told given moment same
  tells_held closes given place (happens.Reload text) told shut named same last = tells_own closes told given kinds.Reload place.moment 0 (held_text text) same last refl refl

  held_shut : (closes : List Closing) (given : List Happening) (place : Place) (it : Happening) (conn : ℕ) → AreWithin (length given) closes → ((conn : ℕ) → is_among place.opened conn ≡ true → is_shut closes given conn ≡ false)
      → is_among (open_after (record_of place.moment it).kind (record_of place.moment it).conn place.opened) conn ≡ true → is_shut closes (given ++ held it ∷ []) conn ≡ false
  held_shut closes given place (happens.Opened c) conn within shut there = opened_shut closes given c conn place.opened within (shut conn) there
  held_shut closes given place (happens.Heard c piece) conn within shut there = stays_shut closes given (held (happens.Heard c piece)) conn within (shut conn there)
  held_shut closes given place (happens.Closed c cause) conn within shut there =
      stays_shut closes given (held (happens.Closed c cause)) conn within (shut conn (still_open place.opened c conn there).1)
  held_shut closes given place (happens.Moment moment) conn within shut there = stays_shut closes given (held (happens.Moment moment)) conn within (shut conn there)
  held_shut closes given place (happens.Reload text) conn within shut there = stays_shut closes given (held (happens.Reload text)) conn within (shut conn there)

  pub kept_happening : (old new : Recorder S) (it : Happening) (closes : List Closing) (given : List Happening) → live → is_broken old ≡ false → Kept wrote start live old closes given → Notes wrote old (record_of (place_of old).moment it) new → Kept wrote start later new closes (given ++ held it ∷ [])
  kept_happening old new it closes given alive whole kept notes =
      let r = record_of (place_of old).moment it in
      let goes = kept.runs alive whole in
      let follows : Follows (place_of old) r = follows_if (place_of old) r notes.follows in
      noted old new r closes closes given (given ++ held it ∷ []) alive whole kept notes refl
      (λ told same last. tells_held closes given (place_of old) it told goes.shut follows.conn same last)
      (within_more (length given) (length (given ++ held it ∷ [])) closes (omega (arith, length-append given (held it ∷ []))) kept.within)
      (λ conn there. held_shut closes given (place_of old) it conn kept.within goes.shut there)

  pub kept_broken : (faults : S → ℕ) (old new : Recorder S) (it : Happening) (closes : List Closing) (given : List Happening) → is_broken old ≡ false → Kept wrote start live old closes given → Breaks wrote faults old (record_of (place_of old).moment it) new → Kept wrote start later new closes given
  kept_broken faults old new it closes given whole kept breaks = broken faults old new (record_of (place_of old).moment it) closes closes given whole kept breaks refl kept.within

  -- ---- a closing

  -- what was written stays, and tells the same by other closings
  kept_as : (old new : Recorder S) (closes closes' : List Closing) (given : List Happening) (kept : Kept wrote start live old closes given) → wrote new.sink ≡ wrote old.sink → is_broken new ≡ is_broken old
      → told_by closes' kept.records ≡ told_by closes kept.records → AreWithin (length given) closes' → (later → is_broken new ≡ false → Goes new kept.records closes' given) → Kept wrote start later new closes' given
  kept_as old new closes closes' given kept bytes broken same within runs = record {
    records = kept.records;
    bytes = kept.bytes;
    part = kept.part;
    written = bytes ∙ kept.written;
    spell = kept.spell;
    follow = kept.follow;
    gave = ap (λ (t : Told). t.given) same ∙ kept.gave;
    within = within;
    cut = kept.cut;
    none = λ whole. kept.none (sym broken ∙ whole);
    runs = runs;
  }

  abbrev with_closing : List Closing → (given : List Happening) → (c : ℕ) → List Closing
  with_closing closes given c = closes ++ record { conn = c; behind = length given } ∷ []

  same_told : (closes : List Closing) (given : List Happening) (c : ℕ) (records : List Record) → (told_by closes records).given ≡ given → told_by (with_closing closes given c) records ≡ told_by closes records
  same_told closes given c records gave = told_by-later closes (record { conn = c; behind = length given }) records (omega (arith, ap (λ (l : List Happening). length l) gave))

  other : (c conn : ℕ) (b : Bool) (opened : List ℕ) → (c == conn) ≡ b → is_among opened c ≡ false → is_among opened conn ≡ true → b ≡ false
  other c conn true opened same not_there there = absurd (true≢false (sym there ∙ ap (λ k. is_among opened k) (sym (eqb-true c conn same)) ∙ not_there))
  other c conn false opened same not_there there = refl

  not_same : (b : Bool) → not b ≡ true → b ≡ false
  not_same true h = absurd (true≢false (sym h))
  not_same false h = refl

  -- what is open is no connection that was closed just now
  shut_then : (closes : List Closing) (given : List Happening) (c conn : ℕ) → is_shut closes given conn ≡ false → (c == conn) ≡ false → is_shut (with_closing closes given c) given conn ≡ false
  shut_then closes given c conn before not_it = is_shut-closing closes given c conn ∙ or_from (is_shut closes given conn) (c == conn) before not_it

  pub kept_closing : (faults : S → ℕ) (old new : Recorder S) (c : ℕ) (closes : List Closing) (given : List Happening) → live → Kept wrote start live old closes given → NotesClosing wrote faults old c new → Kept wrote start later new (with_closing closes given c) given
  kept_closing faults old new c closes given alive kept (inl passes) =
      let same = same_told closes given c kept.records kept.gave in
      subst (λ (rec : Recorder S). Kept wrote start later rec (with_closing closes given c) given) (sym passes.same)
      (kept_as old old closes (with_closing closes given c) given kept refl refl same (within_push (length given) closes (record { conn = c; behind = length given }) kept.within (omega arith))
      (λ now whole.
      let goes = kept.runs alive whole in
      record {
        place = goes.place;
        moment = goes.moment ∙ sym (ap (λ (t : Told). t.moment) same);
        shut = λ conn there. shut_then closes given c conn (goes.shut conn there) (
            elim passes.why [
              | inl was_broken ↦ absurd (true≢false (sym was_broken ∙ whole))
              | inr not_there ↦ other c conn (c == conn) (place_of old).opened refl not_there there
            ]);
      }))
  kept_closing faults old new c closes given alive kept (inr too) =
      let goes = kept.runs alive too.whole in
      let same = same_told closes given c kept.records kept.gave in
      let r = record_of_closing (place_of old).moment c in
      let within : AreWithin (length given) (with_closing closes given c) = within_push (length given) closes (record { conn = c; behind = length given }) kept.within (omega arith) in
      let passed : is_passed_over (with_closing closes given c) given r ≡ true = is_shut-closing closes given c c ∙ or_right (is_shut closes given c) (c == c) (eq-eqb c c refl) in
      elim too.puts [
        | inl notes ↦ noted old new r closes (with_closing closes given c) given given alive too.whole kept notes same
            (λ told same_given last. tells_none (with_closing closes given c) told given kinds.Close (place_of old).moment c [] same_given last refl passed)
            within
            (λ conn there. let opened = still_open (place_of old).opened c conn there in shut_then closes given c conn (goes.shut conn opened.1) (not_same (c == conn) opened.0))
        | inr breaks ↦ broken faults old new r closes (with_closing closes given c) given too.whole kept breaks same within
      ]

  -- ---- nothing written

  -- memory ran out: it doesn't go on, and closings behind all that was given tell nothing else
  pub kept_rests : (old new : Recorder S) (closes closes' : List Closing) (given : List Happening) → (later → ⊥) → Kept wrote start live old closes given → Rests wrote old new
      → ((records : List Record) → (told_by closes records).given ≡ given → told_by closes' records ≡ told_by closes records) → AreWithin (length given) closes' → Kept wrote start later new closes' given
  kept_rests old new closes closes' given over kept rests same within = kept_as old new closes closes' given kept rests.bytes rests.broken (same kept.records kept.gave) within (λ now whole. absurd (over now))

  pub kept_unnoted : (old new : Recorder S) (c : ℕ) (closes : List Closing) (given : List Happening) → (later → ⊥) → Kept wrote start live old closes given → Rests wrote old new → Kept wrote start later new (with_closing closes given c) given
  kept_unnoted old new c closes given over kept rests =
      kept_rests old new closes (with_closing closes given c) given over kept rests (λ records gave. same_told closes given c records gave)
      (within_push (length given) closes (record { conn = c; behind = length given }) kept.within (omega arith))

  -- the same recorder goes on
  pub kept_on : (rec : Recorder S) (closes : List Closing) (given : List Happening) → (later → live) → Kept wrote start live rec closes given → Kept wrote start later rec closes given
  kept_on rec closes given still kept = kept_as rec rec closes closes given kept refl refl refl kept.within (λ now whole. kept.runs (still now) whole)
