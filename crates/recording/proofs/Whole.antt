-- Whole stories of a hub that reads a recording.
use Rattle.std.proofs.Common.{◌≡◌, ℕ, ◌+◌, ◌<◌, false, List, [], ◌∷◌, ◌++◌, length, Option, Some, None, refl, sym, ◌∙◌, ap, subst, arith, zero-add, length-append}
use Rattle.std.proofs.lemmas.List.{append-nil}
use Rattle.std.proofs.lemmas.Option.{same_Some}
use Rattle.std.specs.Option.{option_map}
use Rattle.fg_outside.specs.declared.hub.Happening.{Happening}
use Rattle.fg_outside.specs.declared.hub.Turn.TheVariants.{Happened, Done, Failed}
use Rattle.fg_outside.specs.Left.{prepended, IsAtEnd}
use Rattle.fg_outside.specs.HubStep.{HubStep, Event, happening, happenings, turned, Leads, story, told_by as added_by}
use Rattle.fg_outside.specs.Steps.{Went, stay}
use Rattle.fg_outside.proofs.StepLemmas.{Went-append}
use Rattle.fg_outside.proofs.StoryLemmas.{Story-keeps}
use Rattle.recording.specs.declared.record.Record.{Record}
use Rattle.recording.specs.declared.refused.RecordCause.{RecordCause}
use Rattle.recording.specs.declared.refused.RecordRefused.{RecordRefused}
use Rattle.recording.specs.declared.script_hub.ScriptHub.{ScriptHub}
use Rattle.recording.specs.Recording.{Place, first_place, after, after_all, AllSpell, AllFollow}
use Rattle.recording.specs.Refused.{refusal}
use Rattle.recording.specs.Reader.{place_of, part_of, left_of, refused_of, Ends}
use Rattle.recording.specs.Turns.{closings, turns}
use Rattle.recording.specs.Script.{source_in, is_spent, refusal_in, listed, StandsFor, ScriptStep, IsStoryOf, IsStoryOfFront, IsStorySoFar, IsReadAndTold, IsReadBehind, IsReadInside}

-- as many records as were counted
counted_all : (place : Place) (records : List Record) → (after_all place records).count ≡ place.count + length records
counted_all place [] = omega arith
counted_all place (r ∷ records) = counted_all (after place r) records ∙ omega arith

-- a recording of which a front is told, and then what is left of it
split_told : (bytes front : List ℕ) (rest : Option (List ℕ)) → Some bytes ≡ prepended front rest → (more : List ℕ) × (rest ≡ Some more) × (bytes ≡ front ++ more)
split_told bytes front None h = cc
split_told bytes front (Some more) h = (more, refl, same_Some bytes (front ++ more) h)

not_refused : (count : ℕ) (found : Option RecordCause) → option_map (λ cause. let r : RecordRefused = record { number = count; cause = cause } in r) found ≡ None → found ≡ None
not_refused count None h = refl
not_refused count (Some cause) h = cc

refused_as : (count : ℕ) (found : Option RecordCause) (r : RecordRefused) → option_map (λ cause. let k : RecordRefused = record { number = count + 1; cause = cause } in k) found ≡ Some r → (found ≡ Some r.cause) × (r.number ≡ count + 1)
refused_as count None r h = cc
refused_as count (Some cause) r h =
    let k : RecordRefused = record { number = count + 1; cause = cause } in
    let same : k ≡ r = same_Some k r h in
    (ap (λ (q : RecordRefused). Some q.cause) same, ap (λ (q : RecordRefused). q.number) (sym same))

at_end : (part : List ℕ) (left : Option (List ℕ)) (more : List ℕ) → part ≡ [] → IsAtEnd left → Some more ≡ prepended part left → more ≡ []
at_end part None more none end h = cc
at_end part (Some rest) more none end h = same_Some more (part ++ rest) h ∙ ap (λ (l : List ℕ). l ++ rest) none ∙ end

all_left : (part : List ℕ) (left : Option (List ℕ)) (more : List ℕ) → part ≡ [] → Some more ≡ prepended part left → left ≡ Some more
all_left part None more none h = cc
all_left part (Some rest) more none h = ap (λ (l : List ℕ). Some l) (sym (same_Some more (part ++ rest) h ∙ ap (λ (l : List ℕ). l ++ rest) none))

told_is_told : (more : List ℕ) → Some more ≡ None → ⊥
told_is_told more h = cc

split_part : (part : List ℕ) (left : Option (List ℕ)) (more : List ℕ) → Some more ≡ prepended part left → (rest : List ℕ) × (left ≡ Some rest) × (more ≡ part ++ rest)
split_part part None more h = absurd (told_is_told more h)
split_part part (Some rest) more h = (rest, refl, same_Some more (part ++ rest) h)

begun_left : (part : List ℕ) (left : Option (List ℕ)) (more : List ℕ) → 0 < length part → Some more ≡ prepended part left → 0 < length more
begun_left part None more begun h = absurd (told_is_told more h)
begun_left part (Some rest) more begun h = omega (arith, begun, ap (λ (l : List ℕ). length l) (same_Some more (part ++ rest) h), length-append part rest)

module _ {S : Type 0} (left : S → Option (List ℕ)) (may : S → S → Type 0) where
  abbrev Stands : Option (List ℕ) → ScriptHub S → List Event → Type 0
  Stands whole hub events = (records : List Record) × (waits : Option Record) × StandsFor left whole hub records waits events

  pub way_tells : (whole : Option (List ℕ)) (from to : ScriptHub S) (steps : List HubStep) → StandsFor left whole from [] None [] → Leads (ScriptStep left may) from steps to → (records : List Record) × (waits : Option Record) × StandsFor left whole to records waits (story steps)
  way_tells whole from to steps first way =
      Story-keeps (ScriptStep left may) (Stands whole) (λ mid events step next stands may_step. may_step.story whole stands.0 stands.1 events stands.2) from ([], None, first) steps to way

  -- and behind a step more
  next_tells : (whole : Option (List ℕ)) (from to next : ScriptHub S) (steps : List HubStep) (step : HubStep) → StandsFor left whole from [] None [] → Leads (ScriptStep left may) from steps to
      → ScriptStep left may to step next → Stands whole next (story steps ++ added_by step)
  next_tells whole from to next steps step first way taken = let before = way_tells whole from to steps first way in taken.story whole before.0 before.1 (story steps) before.2

  pub source_goes : (from to : ScriptHub S) (steps : List HubStep) → Leads (ScriptStep left may) from steps to → Went may (source_in from) (source_in to)
  source_goes from to steps way =
      Story-keeps (ScriptStep left may) (λ hub _. Went may (source_in from) (source_in hub)) (λ mid events step next went may_step. Went-append may (source_in from) (source_in mid) went (source_in next) may_step.source) from stay steps to way

  pub stopped_told : (bytes : List ℕ) (from to : ScriptHub S) (steps : List HubStep) → StandsFor left (Some bytes) from [] None [] → Leads (ScriptStep left may) from steps to → IsStorySoFar bytes (happenings (story steps)) (closings 0 (story steps))
  stopped_told bytes from to steps first way =
      let so_far = way_tells (Some bytes) from to steps first way in
      let stands = so_far.2 in
      let split = split_told bytes stands.front stands.rest stands.parts in
      record {
        records = so_far.0;
        waits = so_far.1;
        front = stands.front;
        rest = split.0;
        parts = split.2;
        spell = stands.spell;
        follow = stands.follow;
        told = stands.gave;
      }

  told_whole : (bytes : List ℕ) (hub : ScriptHub S) (records : List Record) (events : List Event) → StandsFor left (Some bytes) hub records None events → is_spent hub ≡ false → (refused_of hub.reader ≡ None → Ends left hub.reader) → IsStoryOf bytes (happenings events) (closings 0 events) (refusal_in hub)
  told_whole bytes hub records events stands running ended =
      let runs = stands.runs running in
      let all : records ++ [] ≡ records = append-nil records in
      let split = split_told bytes stands.front stands.rest stands.parts in
      let more = split.0 in
      let left_now : Some more ≡ left_of left hub.reader = sym split.1 ∙ runs.behind in
      let place : place_of hub.reader ≡ after_all first_place records = runs.place ∙ ap (λ (l : List Record). after_all first_place l) all in
      let spell : AllSpell records stands.front = subst (λ (l : List Record). AllSpell l stands.front) all stands.spell in
      let follow : AllFollow first_place records = subst (λ (l : List Record). AllFollow first_place l) all stands.follow in
      record {
        records = records;
        told = stands.gave ∙ append-nil (turns records (closings 0 events));
        whole = λ none.
            let end = ended (not_refused _ (refused_of hub.reader) none) in
            let nothing : more ≡ [] = at_end (part_of hub.reader) (left (source_in hub)) more end.none end.end left_now in
            let same : stands.front ≡ bytes = sym (split.2 ∙ ap (λ (l : List ℕ). stands.front ++ l) nothing ∙ append-nil stands.front) in
            record { spell = subst (λ (l : List ℕ). AllSpell records l) same spell; follow = follow };
        refuses = λ r is.
            let found = refused_as (place_of hub.reader).count (refused_of hub.reader) r is in
            let why = runs.refused r.cause found.0 in
            record {
              front = stands.front;
              rest = more;
              parts = split.2;
              spell = spell;
              follow = follow;
              begun = begun_left (part_of hub.reader) (left (source_in hub)) more why.begun left_now;
              why = ap (λ (p : Place). refusal p more) (sym place) ∙ why.why more (sym left_now);
              numbered = found.1 ∙ ap (λ (p : Place). p.count + 1) place ∙ ap (λ n. n + 1) (counted_all first_place records ∙ zero-add (length records));
            };
      }

  pub done_told : (bytes : List ℕ) (from to next : ScriptHub S) (steps : List HubStep) → StandsFor left (Some bytes) from [] None [] → Leads (ScriptStep left may) from steps to → ScriptStep left may to (turned Done) next → IsStoryOf bytes (happenings (story steps)) (closings 0 (story steps)) (refusal_in next)
  done_told bytes from to next steps first way done =
      let behind = next_tells (Some bytes) from to next steps (turned Done) first way done in
      let stands : StandsFor left (Some bytes) next behind.0 behind.1 (story steps) = subst (λ (l : List Event). StandsFor left (Some bytes) next behind.0 behind.1 l) (append-nil (story steps)) behind.2 in
      let over = done.answer in
      let none : behind.1 ≡ None = sym (stands.runs over.runs).waiting ∙ over.none_waits in
      told_whole bytes next behind.0 (story steps) (subst (λ (w : Option Record). StandsFor left (Some bytes) next behind.0 w (story steps)) none stands) over.runs over.ended

  pub read_behind : (bytes : List ℕ) (from to next : ScriptHub S) (steps : List HubStep) (it : Happening) → StandsFor left (Some bytes) from [] None [] → Leads (ScriptStep left may) from steps to → ScriptStep left may to (turned (Happened it)) next → IsReadBehind bytes (left (source_in next))
  read_behind bytes from to next steps it first way step =
      let behind = next_tells (Some bytes) from to next steps (turned (Happened it)) first way step in
      let stands = behind.2 in
      let runs = stands.runs step.answer.runs in
      let split = split_told bytes stands.front stands.rest stands.parts in
      record {
        records = behind.0 ++ listed behind.1;
        front = stands.front;
        rest = split.0;
        parts = split.2;
        spell = stands.spell;
        behind = all_left (part_of next.reader) (left (source_in next)) split.0 step.answer.none (sym split.1 ∙ runs.behind);
      }

  pub read_and_told : (bytes : List ℕ) (from to next : ScriptHub S) (steps : List HubStep) (it : Happening) → StandsFor left (Some bytes) from [] None [] → Leads (ScriptStep left may) from steps to → ScriptStep left may to (turned (Happened it)) next → IsReadAndTold bytes (story steps ++ happening it ∷ []) (left (source_in next))
  read_and_told bytes from to next steps it first way step =
      let behind = next_tells (Some bytes) from to next steps (turned (Happened it)) first way step in
      let stands = behind.2 in
      let runs = stands.runs step.answer.runs in
      let split = split_told bytes stands.front stands.rest stands.parts in
      record {
        records = behind.0;
        waits = behind.1;
        front = stands.front;
        rest = split.0;
        parts = split.2;
        spell = stands.spell;
        behind = all_left (part_of next.reader) (left (source_in next)) split.0 step.answer.none (sym split.1 ∙ runs.behind);
        told = stands.gave;
      }

  pub read_inside : (bytes : List ℕ) (from to next : ScriptHub S) (steps : List HubStep) → StandsFor left (Some bytes) from [] None [] → Leads (ScriptStep left may) from steps to → ScriptStep left may to (turned Failed) next → IsReadInside bytes (left (source_in next))
  read_inside bytes from to next steps first way step =
      let behind = next_tells (Some bytes) from to next steps (turned Failed) first way step in
      let stands = behind.2 in
      let runs = stands.runs step.answer.runs in
      let split = split_told bytes stands.front stands.rest stands.parts in
      let inside = split_part (part_of next.reader) (left (source_in next)) split.0 (sym split.1 ∙ runs.behind) in
      record {
        records = behind.0 ++ listed behind.1;
        front = stands.front;
        part = part_of next.reader;
        rest = inside.0;
        parts = split.2 ∙ ap (λ (l : List ℕ). stands.front ++ l) inside.2;
        spell = stands.spell;
        within = step.answer.within;
        behind = inside.1;
      }

  pub failed_told : (bytes : List ℕ) (from to next : ScriptHub S) (steps : List HubStep) → StandsFor left (Some bytes) from [] None [] → Leads (ScriptStep left may) from steps to → ScriptStep left may to (turned Failed) next → IsStoryOfFront bytes (happenings (story steps)) (closings 0 (story steps))
  failed_told bytes from to next steps first way failed =
      let behind = next_tells (Some bytes) from to next steps (turned Failed) first way failed in
      let runs = behind.2.runs failed.answer.runs in
      let none : behind.1 ≡ None = sym runs.waiting ∙ failed.answer.none_waits in
      let same : StandsFor left (Some bytes) next behind.0 behind.1 (story steps) = subst (λ (l : List Event). StandsFor left (Some bytes) next behind.0 behind.1 l) (append-nil (story steps)) behind.2 in
      let stands : StandsFor left (Some bytes) next behind.0 None (story steps) = subst (λ (w : Option Record). StandsFor left (Some bytes) next behind.0 w (story steps)) none same in
      let all : behind.0 ++ [] ≡ behind.0 = append-nil behind.0 in
      let split = split_told bytes stands.front stands.rest stands.parts in
      record {
        records = behind.0;
        front = stands.front;
        rest = split.0;
        parts = split.2;
        are = record {
          spell = subst (λ (l : List Record). AllSpell l stands.front) all stands.spell;
          follow = subst (λ (l : List Record). AllFollow first_place l) all stands.follow;
        };
        told = stands.gave ∙ append-nil (turns behind.0 (closings 0 (story steps)));
      }
