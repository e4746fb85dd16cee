-- What a recording of bytes tells is bytes, to its end, up to a record that is refused, and as far as it was read; so is what came at a hub.
use Rattle.std.proofs.Common.{◌≡◌, ◌<◌, ℕ, ◌||◌, true, false, nat_lt, Option, Some, None, List, [], ◌∷◌, ◌++◌, refl, sym, ap, ◌∙◌, subst, append_assoc, if◌then◌else◌}
use Rattle.std.specs.List.{AllByRecursion}
use Rattle.fg_outside.specs.declared.hub.Happening.{Happening}
use Rattle.fg_outside.specs.declared.hub.Happening.TheVariants as happenings
use Rattle.of_match.proofs.AfterOrder.{all_append}
use Rattle.recording.specs.declared.record.Record.{Record}
use Rattle.recording.specs.declared.refused.RecordRefused.{RecordRefused}
use Rattle.recording.specs.Kinds.{is_moment}
use Rattle.recording.specs.Recording.{AllFollow, AllSpell, Place, Records, after, first_place}
use Rattle.recording.specs.Script.{IsStoryOf, IsStorySoFar, clock_of, listed}
use Rattle.recording.specs.Turns.{Closing, clock, told_by, turns}
use Rattle.hub_drive.specs.Driven.{CameAsBytes}
use Rattle.law_stories.specs.Right.{IsOfBytes}

pub all_first : {A : Type 0} (P : A → Type 0) (xs ys : List A) → AllByRecursion P (xs ++ ys) → AllByRecursion P xs
all_first P [] ys all = tt
all_first P (x ∷ xs) ys all = (all.0, all_first P xs ys all.1)

-- ---- the records at the front

-- bytes that spell records begin with those that spell the first of them
first_spelled : (records more : List Record) (bytes : List ℕ) → AllSpell (records ++ more) bytes → (first rest : List ℕ) × (bytes ≡ first ++ rest) × AllSpell records first
first_spelled [] more bytes spell = ([], bytes, refl, refl)
first_spelled (r ∷ records) more bytes (first, rest, parts, spells, later) =
    let found = first_spelled records more rest later in (
      first ++ found.0,
      found.1,
      parts ∙ ap (λ (all : List ℕ). first ++ all) found.2 ∙ sym (append_assoc first found.0 found.1),
      (first, found.0, refl, spells, found.3),
    )

first_follow : (records more : List Record) (place : Place) → AllFollow place (records ++ more) → AllFollow place records
first_follow [] more place follow = tt
first_follow (r ∷ records) more place follow = (follow.0, first_follow records more (after place r) follow.1)

clock_plain : (last : ℕ) (r : Record) → AllByRecursion IsOfBytes (clock last r)
clock_plain last r =
    elim (nat_lt last r.moment || is_moment r.kind) as (λ b. AllByRecursion IsOfBytes (if b then happenings.Moment r.moment ∷ [] else [])) [ true ↦ (tt, tt) | false ↦ tt ]

waiting_plain : (last : ℕ) (waits : Option Record) → AllByRecursion IsOfBytes (clock_of last waits)
waiting_plain last None = tt
waiting_plain last (Some r) = clock_plain last r

-- ---- what they tell

abbrev pub AreSmall : List ℕ → Type 0
AreSmall bytes = AllByRecursion (λ byte. byte < 256) bytes

module _ (tells : (bytes : List ℕ) (records : List Record) (closes : List Closing) → AreSmall bytes → Records bytes records → AllByRecursion IsOfBytes (turns records closes)) where
  front_told : (bytes front rest : List ℕ) (records : List Record) (closes : List Closing) → AreSmall bytes → bytes ≡ front ++ rest → AllSpell records front → AllFollow first_place records
      → AllByRecursion IsOfBytes (turns records closes)
  front_told bytes front rest records closes small parts spell follow =
      tells front records closes (all_first (λ byte. byte < 256) front rest (subst AreSmall parts small)) (record { spell = spell; follow = follow })

  pub story_bytes : (bytes : List ℕ) (story : List Happening) (closes : List Closing) (refused : Option RecordRefused) → AreSmall bytes → IsStoryOf bytes story closes refused → AllByRecursion IsOfBytes story
  story_bytes bytes story closes refused small is = subst (AllByRecursion IsOfBytes) (sym is.told) (by refused refl)
    where
      by : (o : Option RecordRefused) → refused ≡ o → AllByRecursion IsOfBytes (turns is.records closes)
      by None none = tells bytes is.records closes small (is.whole none)
      by (Some r) some = let at = is.refuses r some in front_told bytes at.front at.rest is.records closes small at.parts at.spell at.follow

  pub so_far_bytes : (bytes : List ℕ) (story : List Happening) (closes : List Closing) → AreSmall bytes → IsStorySoFar bytes story closes → AllByRecursion IsOfBytes story
  so_far_bytes bytes story closes small is =
      let found = first_spelled is.records (listed is.waits) is.front is.spell in
      let told = told_by closes is.records in
      subst (AllByRecursion IsOfBytes) (sym is.told)
      (all_append IsOfBytes told.given (clock_of told.moment is.waits)
      (front_told bytes found.0 (found.1 ++ is.rest) is.records closes small (is.parts ∙ ap (λ (all : List ℕ). all ++ is.rest) found.2 ∙ append_assoc found.0 found.1 is.rest) found.3
      (first_follow is.records (listed is.waits) first_place is.follow))
      (waiting_plain told.moment is.waits))

-- ---- what came at a hub

came_bytes : (h : Happening) → CameAsBytes h → IsOfBytes h
came_bytes (happenings.Opened number) came = tt
came_bytes (happenings.Heard number piece) came = came
came_bytes (happenings.Closed number cause) came = tt
came_bytes (happenings.Moment moment) came = tt
came_bytes (happenings.Reload text) came = tt

pub all_came : (story : List Happening) → AllByRecursion CameAsBytes story → AllByRecursion IsOfBytes story
all_came [] all = tt
all_came (h ∷ hs) all = (came_bytes h all.0, all_came hs all.1)
