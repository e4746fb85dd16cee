-- The story of records, where a machine closes what it closes: each record is passed over or not by what came before it.
use Rattle.std.proofs.Common.{◌≡◌, ◌&&◌, Bool, true, false, List, [], ◌∷◌, ◌++◌, refl, sym, ap, subst, ◌∙◌, append_assoc, append-nil, if◌then◌else◌}
use Rattle.std.specs.List.{fold}
use Rattle.fg_outside.specs.declared.hub.Happening.{Happening}
use Rattle.recording.specs.declared.record.Record.{Record}
use Rattle.recording.specs.Kinds.{is_of_connection}
use Rattle.recording.specs.Turns.{Closing, Told, clock, is_passed_over, is_shut, own, tell, turns}
use Rattle.hub_drive.specs.Driving.{IsFront}
use Rattle.hub_drive.specs.Machine.{Workings}
use Rattle.law_recordings.proofs.Closing.{closed, is_closed, is_closed-front}

abbrev pub untold : Told
untold = record { given = []; moment = 0 }

module _ {S : Type 0} (m : Workings S) where
  -- a record more, by what was closed in the story before it
  abbrev pub tell_on : S → Told → Record → Told
  tell_on w told r = tell (closed m w (told.given ++ clock told.moment r)) told r

  abbrev pub told_on : S → Told → List Record → Told
  told_on w told records = fold (tell_on w) told records

-- ---- what was told stays at the front

pub front-then : {X : Type 0} (one two three : List X) → IsFront one two → IsFront two three → IsFront one three
front-then one two three first second = record {
  rest = first.rest ++ second.rest;
  parts = second.parts ∙ ap (λ l. l ++ second.rest) first.parts ∙ append_assoc one first.rest second.rest;
}

with_own-front : (b : Bool) (given more : List Happening) → IsFront given (if b then given else given ++ more)
with_own-front true given more = record { rest = []; parts = sym (append-nil given) }
with_own-front false given more = record { rest = more; parts = refl }

-- whatever closings each record is told by
module _ (closes : Told → Record → List Closing) where
  abbrev pub step : Told → Record → Told
  step told r = tell (closes told r) told r

  step-front : (told : Told) (r : Record) → IsFront (told.given ++ clock told.moment r) (step told r).given
  step-front told r = let given : List Happening = told.given ++ clock told.moment r in with_own-front (is_passed_over (closes told r) given r) given (own r)

  pub steps-front : (told : Told) (records : List Record) → IsFront told.given (fold step told records).given
  steps-front told [] = record { rest = []; parts = sym (append-nil told.given) }
  steps-front told (r ∷ records) =
      let given : List Happening = told.given ++ clock told.moment r in
      let next : Told = step told r in
      let all : List Happening = (fold step next records).given in
      front-then told.given given all (record { rest = clock told.moment r; parts = refl }) (front-then given next.given all (step-front told r) (steps-front next records))

  -- behind the moment of the first record
  pub clock-front : (told : Told) (r : Record) (records : List Record) → IsFront (told.given ++ clock told.moment r) (fold step told (r ∷ records)).given
  clock-front told r records =
      front-then (told.given ++ clock told.moment r) (step told r).given (fold step told (r ∷ records)).given (step-front told r) (steps-front (step told r) records)

-- ---- the closings of the whole story are those of its front

module _ {S : Type 0} (m : Workings S) (w : S) (story : List Happening) where
  pub tell-same : (told : Told) (r : Record) → IsFront (told.given ++ clock told.moment r) story → tell (closed m w story) told r ≡ tell_on m w told r
  tell-same told r front =
      let given : List Happening = told.given ++ clock told.moment r in
      let same : is_shut (closed m w story) given r.conn ≡ is_closed m w given r.conn =
      ap (λ (l : List Happening). is_shut (closed m w l) given r.conn) front.parts ∙ is_closed-front m given r.conn w front.rest
      in
      ap (λ (b : Bool). let t : Told = record { given = if is_of_connection r.kind && b then given else given ++ own r; moment = r.moment } in t) same

  -- one that is told by its own closings is told by those before each record
  told-same : (told : Told) (records : List Record) → story ≡ (fold (tell (closed m w story)) told records).given → fold (tell (closed m w story)) told records ≡ told_on m w told records
  told-same told [] is = refl
  told-same told (r ∷ records) is =
      let front : IsFront (told.given ++ clock told.moment r) story =
      subst (IsFront (told.given ++ clock told.moment r)) (sym is) (clock-front (λ t q. closed m w story) told r records)
      in
      told-same (tell (closed m w story) told r) records is ∙ ap (λ (t : Told). told_on m w t records) (tell-same told r front)

  pub the_story : (records : List Record) → story ≡ turns records (closed m w story) → story ≡ (told_on m w untold records).given
  the_story records is = is ∙ ap (λ (t : Told). t.given) (told-same untold records is)

  -- and the other way round
  same-told : (told : Told) (records : List Record) → story ≡ (told_on m w told records).given → told_on m w told records ≡ fold (tell (closed m w story)) told records
  same-told told [] is = refl
  same-told told (r ∷ records) is =
      let front : IsFront (told.given ++ clock told.moment r) story =
      subst (IsFront (told.given ++ clock told.moment r)) (sym is) (clock-front (λ t q. closed m w (t.given ++ clock t.moment q)) told r records)
      in
      same-told (tell_on m w told r) records is ∙ ap (λ (t : Told). fold (tell (closed m w story)) t records) (sym (tell-same told r front))

module _ {S : Type 0} (m : Workings S) (w : S) (records : List Record) where
  pub some_story : (story : List Happening) × (story ≡ turns records (closed m w story))
  some_story =
      let story : List Happening = (told_on m w untold records).given in
      (story, ap (λ (t : Told). t.given) (same-told m w story untold records refl))

  pub one_story : (story other : List Happening) → story ≡ turns records (closed m w story) → other ≡ turns records (closed m w other) → story ≡ other
  one_story story other is other_is = the_story m w story records is ∙ sym (the_story m w other records other_is)
