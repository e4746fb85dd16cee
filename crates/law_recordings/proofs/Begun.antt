-- What was told of records at the front of bytes is a front of the one story of all of them.
use Rattle.std.proofs.Common.{◌≡◌, ◌⊎◌, inl, inr, ℕ, List, [], ◌∷◌, ◌++◌, Option, Some, None, refl, sym, ap, subst, ◌∙◌, append_assoc}
use Rattle.std.proofs.lemmas.List.{append-nil}
use Rattle.std.specs.List.{fold}
use Rattle.fg_outside.specs.declared.hub.Happening.{Happening}
use Rattle.recording.specs.declared.record.Record.{Record}
use Rattle.recording.specs.declared.refused.RecordCause.{RecordCause}
use Rattle.recording.specs.declared.refused.RecordRefused.{RecordRefused}
use Rattle.recording.specs.Recording.{AllFollow, AllSpell, Place, Records, after, after_all, first_place}
use Rattle.recording.specs.Refused.{IsRefused, refusal}
use Rattle.recording.specs.Script.{IsStoryOf, IsStoryOfFront, IsStorySoFar, clock_of, listed}
use Rattle.recording.specs.Turns.{Told, clock, tell, told_by}
use Rattle.recording.proofs.Grammar.{front_records, fronts_split, unrefused}
use Rattle.hub_drive.specs.Driving.{IsFront, closings_of}
use Rattle.hub_drive.specs.Machine.{Workings}
use Rattle.law_recordings.proofs.Closing.{closed}
use Rattle.law_recordings.proofs.Told.{clock-front, front-then, steps-front, tell-same, tell_on, the_story, told_on, untold}

-- ---- records at the front of bytes

-- of two ways to part a list, one front is a front of the other
parted : {X : Type 0} (xs ys us vs : List X) → xs ++ ys ≡ us ++ vs → ((d : List X) × (us ≡ xs ++ d) × (ys ≡ d ++ vs)) ⊎ ((d : List X) × (xs ≡ us ++ d) × (vs ≡ d ++ ys))
parted [] ys us vs is = inl (us, refl, is)
parted (x ∷ xs) ys [] vs is = inr (x ∷ xs, refl, sym is)
parted (x ∷ xs) ys (u ∷ us) vs is =
    let head : x ≡ u = cc in
    let tail : xs ++ ys ≡ us ++ vs = cc in
    elim (parted xs ys us vs tail) [
      | inl longer ↦ inl (longer.0, ap (λ l. u ∷ l) longer.1 ∙ ap (λ y. y ∷ (xs ++ longer.0)) (sym head), longer.2)
      | inr shorter ↦ inr (shorter.0, ap (λ l. x ∷ l) shorter.1 ∙ ap (λ y. y ∷ (us ++ shorter.0)) head, shorter.2)
    ]

follow_behind : (place : Place) (records more : List Record) → AllFollow place (records ++ more) → AllFollow (after_all place records) more
follow_behind place [] more all = all
follow_behind place (r ∷ records) more all = follow_behind (after place r) records more all.1

none_is_some : {X : Type 0} (x : X) → None ≡ Some x → ⊥
none_is_some x is = cc

none_more : (others records : List Record) (part rest : List ℕ) (cause : RecordCause) → AllFollow first_place records → refusal (after_all first_place others) rest ≡ Some cause
    → (tail : List Record) → records ≡ others ++ tail → (d : List ℕ) → rest ≡ d ++ part → AllSpell tail d → (more : List Record) × (others ≡ records ++ more)
none_more others records part rest cause follow why [] same d parts spell = ([], sym (append-nil records ∙ same ∙ append-nil others))
none_more others records part rest cause follow why (r ∷ tail) same d parts spell =
    let behind : AllFollow (after_all first_place others) (r ∷ tail) = follow_behind first_place others (r ∷ tail) (subst (λ (l : List Record). AllFollow first_place l) same follow) in
    let bytes_are : rest ≡ spell.0 ++ (spell.1 ++ part) = parts ∙ ap (λ (l : List ℕ). l ++ part) spell.2 ∙ append_assoc spell.0 spell.1 part in
    let unread : refusal (after_all first_place others) rest ≡ None =
    ap (λ (l : List ℕ). refusal (after_all first_place others) l) bytes_are ∙ unrefused (after_all first_place others) r spell.0 (spell.1 ++ part) spell.3 behind.0
    in
    absurd (none_is_some cause (sym unread ∙ why))

-- where a record is refused, it stands behind all that follow on one another
refused_behind : (bytes part : List ℕ) (records others : List Record) (number : ℕ) (cause : RecordCause) → Records bytes records → IsRefused (bytes ++ part) others number cause → (more : List Record) × (others ≡ records ++ more)
refused_behind bytes part records others number cause are is =
    elim (parted bytes part is.front is.rest is.parts) [
      | inl longer ↦
          let split = fronts_split records others bytes longer.0 are.spell (subst (λ (l : List ℕ). AllSpell others l) longer.1 is.spell) in
          (split.0, split.1)
      | inr shorter ↦
          let split = fronts_split others records is.front shorter.0 is.spell (subst (λ (l : List ℕ). AllSpell records l) shorter.1 are.spell) in
          none_more others records part is.rest cause are.follow is.why split.0 split.1 shorter.0 shorter.2 split.2
    ]

-- the records of all bytes, behind those of a front of them
pub more_records : (bytes all part : List ℕ) (records read : List Record) (refused : Option RecordRefused) → all ≡ bytes ++ part → Records bytes records → (refused ≡ None → Records all read)
    → ((r : RecordRefused) → refused ≡ Some r → IsRefused all read r.number r.cause) → (more : List Record) × (read ≡ records ++ more)
more_records bytes all part records read None same are whole refuses = front_records bytes part records read are (subst (λ (l : List ℕ). Records l read) same (whole refl))
more_records bytes all part records read (Some r) same are whole refuses =
    refused_behind bytes part records read r.number r.cause are (subst (λ (l : List ℕ). IsRefused l read r.number r.cause) same (refuses r refl))

-- ---- their stories

module _ {S : Type 0} (m : Workings S) (w : S) where
  told_both : (told : Told) (records more : List Record) → told_on m w told (records ++ more) ≡ told_on m w (told_on m w told records) more
  told_both told [] more = refl
  told_both told (r ∷ records) more = told_both (tell_on m w told r) records more

  -- what is told by the closings of a story at whose front it stands is told by those before each record
  told_front : (story : List Happening) (told : Told) (records : List Record) → IsFront (fold (tell (closed m w story)) told records).given story → fold (tell (closed m w story)) told records ≡ told_on m w told records
  told_front story told [] front = refl
  told_front story told (r ∷ records) front =
      let next : Told = tell (closed m w story) told r in
      let here : IsFront (told.given ++ clock told.moment r) story =
      front-then (told.given ++ clock told.moment r) (fold (tell (closed m w story)) told (r ∷ records)).given story (clock-front (λ t q. closed m w story) told r records) front
      in
      told_front story next records front ∙ ap (λ (t : Told). told_on m w t records) (tell-same m w story told r here)

  -- of the last of these records the moment alone may be told
  behind_front : (told : Told) (waits : Option Record) (more : List Record) → IsFront (told.given ++ clock_of told.moment waits) (told_on m w told (listed waits ++ more)).given
  behind_front told None more =
      subst (λ (l : List Happening). IsFront l (told_on m w told more).given) (sym (append-nil told.given)) (steps-front (λ t q. closed m w (t.given ++ clock t.moment q)) told more)
  behind_front told (Some r) more = clock-front (λ t q. closed m w (t.given ++ clock t.moment q)) told r more

  stories_front : (story whole : List Happening) (records more : List Record) (waits : Option Record)
      → (let told : Told = told_by (closed m w story) records in story ≡ told.given ++ clock_of told.moment waits)
      → whole ≡ (told_by (closed m w whole) (records ++ (listed waits ++ more))).given → IsFront story whole
  stories_front story whole records more waits is whole_is =
      let told : Told = told_by (closed m w story) records in
      let same : told ≡ told_on m w untold records = told_front story untold records (record { rest = clock_of told.moment waits; parts = is }) in
      let all : whole ≡ (told_on m w (told_on m w untold records) (listed waits ++ more)).given =
      the_story m w whole (records ++ (listed waits ++ more)) whole_is ∙ ap (λ (t : Told). t.given) (told_both untold records (listed waits ++ more))
      in
      subst (λ (l : List Happening). IsFront l whole) (sym (is ∙ ap (λ (t : Told). t.given ++ clock_of t.moment waits) same))
      (subst (λ (l : List Happening). IsFront ((told_on m w untold records).given ++ clock_of (told_on m w untold records).moment waits) l) (sym all)
      (behind_front (told_on m w untold records) waits more))

  module _ (bytes : List ℕ) (story whole : List Happening) (refused : Option RecordRefused) (is : IsStoryOf bytes whole (closings_of m 0 w whole) refused) where
    pub begun_story : IsStorySoFar bytes story (closings_of m 0 w story) → IsFront story whole
    begun_story so_far =
        let records : List Record = so_far.records in
        let more = more_records so_far.front bytes so_far.rest (records ++ listed so_far.waits) is.records refused so_far.parts (record { spell = so_far.spell; follow = so_far.follow }) is.whole is.refuses in
        let all : is.records ≡ records ++ (listed so_far.waits ++ more.0) = more.1 ∙ append_assoc records (listed so_far.waits) more.0 in
        stories_front story whole records more.0 so_far.waits so_far.told (is.told ∙ ap (λ (l : List Record). (told_by (closings_of m 0 w whole) l).given) all)

    pub whole_records_story : IsStoryOfFront bytes story (closings_of m 0 w story) → IsFront story whole
    whole_records_story of_front =
        let records : List Record = of_front.records in
        let all : records ++ [] ≡ records = append-nil records in
        begun_story (record {
          records = records;
          waits = None;
          front = of_front.front;
          rest = of_front.rest;
          parts = of_front.parts;
          spell = subst (λ (l : List Record). AllSpell l of_front.front) (sym all) of_front.are.spell;
          follow = subst (λ (l : List Record). AllFollow first_place l) (sym all) of_front.are.follow;
          told = of_front.told ∙ sym (append-nil (told_by (closings_of m 0 w story) records).given);
        })
