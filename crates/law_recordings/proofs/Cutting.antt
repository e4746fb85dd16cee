-- Records of which one is cut tell stories that are alike.
use Rattle.std.proofs.Common.{◌≡◌, ℕ, ◌&&◌, ◌||◌, Bool, true, false, List, [], ◌∷◌, ◌++◌, refl, sym, ap, subst, ◌∙◌, append-nil, arith, if◌then◌else◌}
use Rattle.std.proofs.lemmas.Bool.{le-ltb}
use Rattle.fg_outside.specs.declared.hub.Happening.{Happening}
use Rattle.fg_outside.specs.declared.hub.Happening.TheVariants.{Heard, Moment}
use Rattle.recording.specs.declared.record.Record.{Record}
use Rattle.recording.specs.Turns.{Told, clock, turns}
use Rattle.ctl_world.specs.World.{World}
use Rattle.ctl_core.specs.Story.{behind}
use Rattle.ctl_core.specs.Turns.{turn}
use Rattle.ctl_drive.specs.Controller.{controller}
use Rattle.law_recordings.specs.Cuts.{SameButCuts, came, chained, cut, none, same, swapped}
use Rattle.law_recordings.proofs.Closed.{closed, closes_by, is_closed, is_closed-push}
use Rattle.law_recordings.proofs.Told.{tell_on, the_story, told_on, untold}
use Rattle.law_recordings.proofs.Alike.{Alike, AlikeTold, alike-back, alike-itself, alike-tell, alike-then, alike-turn}
use Rattle.law_recordings.proofs.Joined.{alike-joined, joined_closed}

module _ (w : World) (conn : ℕ) (front back : List ℕ) where
  -- what the pieces tell behind a story, where what was closed before each is passed over
  abbrev more : List Happening → List ℕ → List Happening
  more given piece = if is_closed w given conn then given else given ++ Heard conn piece ∷ []

  -- ---- behind a connection that isn't shut

  open_closes : (given : List Happening) → is_closed w given conn ≡ false
      → is_closed w (given ++ Heard conn front ∷ []) conn ≡ closes_by (turn (Heard conn front) (behind w given)) conn
  open_closes given is =
      is_closed-push w given (Heard conn front) conn ∙ ap (λ b. (b && true) || closes_by (turn (Heard conn front) (behind w given)) conn) is

  -- the first piece closes it, or not
  open_pieces : (given : List Happening) (b : Bool) → closes_by (turn (Heard conn front) (behind w given)) conn ≡ b
      → Alike w (given ++ Heard conn (front ++ back) ∷ []) (if b then given ++ Heard conn front ∷ [] else (given ++ Heard conn front ∷ []) ++ Heard conn back ∷ [])
  open_pieces given true is =
      alike-turn w given given (Heard conn (front ++ back)) (Heard conn front) (alike-itself w given) (joined_closed conn front back (behind w given) is) (λ n. refl)
  open_pieces given false is = alike-joined w given conn front back

  opened : (given : List Happening) → is_closed w given conn ≡ false
      → Alike w (given ++ Heard conn (front ++ back) ∷ []) (more (given ++ Heard conn front ∷ []) back)
  opened given is =
      let first : List Happening = given ++ Heard conn front ∷ [] in
      subst (λ (b : Bool). Alike w (given ++ Heard conn (front ++ back) ∷ []) (if b then first else first ++ Heard conn back ∷ [])) (sym (open_closes given is))
      (open_pieces given (closes_by (turn (Heard conn front) (behind w given)) conn) refl)

  -- ---- one record, and its pieces

  pieces : (given : List Happening) (b : Bool) → is_closed w given conn ≡ b
      → Alike w (if b then given else given ++ Heard conn (front ++ back) ∷ []) (more (if b then given else given ++ Heard conn front ∷ []) back)
  pieces given true is =
      subst (λ (b : Bool). Alike w given (if b then given else given ++ Heard conn back ∷ [])) (sym is) (alike-itself w given)
  pieces given false is = opened given is

  -- the second piece tells no moment
  same_moment : (moment : ℕ) → clock moment (came moment conn back) ≡ []
  same_moment moment = ap (λ (b : Bool). if b || false then Moment moment ∷ [] else []) (le-ltb moment moment (omega arith))

  pub alike-cut : (moment : ℕ) (told : Told)
      → AlikeTold w (tell_on controller w told (came moment conn (front ++ back))) (tell_on controller w (tell_on controller w told (came moment conn front)) (came moment conn back))
  alike-cut moment told =
      let given : List Happening = told.given ++ clock told.moment (came moment conn front) in
      let first : List Happening = more given front in
      let still : first ++ clock moment (came moment conn back) ≡ first = ap (λ (l : List Happening). first ++ l) (same_moment moment) ∙ append-nil first in
      record {
        given = subst (λ (l : List Happening). Alike w (more given (front ++ back)) (more l back)) (sym still) (pieces given (is_closed w given conn) refl);
        moment = refl;
      }

-- ---- all records

module _ (w : World) where
  told-then : (one two three : Told) → AlikeTold w one two → AlikeTold w two three → AlikeTold w one three
  told-then one two three a b = record { given = alike-then w one.given two.given three.given a.given b.given; moment = a.moment ∙ b.moment }

  alike-all : (records others : List Record) → SameButCuts records others → (told other : Told) → AlikeTold w told other → AlikeTold w (told_on controller w told records) (told_on controller w other others)
  alike-all _ _ none told other a = a
  alike-all _ _ (same r records others rest) told other a = alike-all records others rest (tell_on controller w told r) (tell_on controller w other r) (alike-tell w told other r a)
  alike-all _ _ (cut moment conn front back records others rest) told other a =
      let whole : Record = came moment conn (front ++ back) in
      let pieces_told : Told = tell_on controller w (tell_on controller w other (came moment conn front)) (came moment conn back) in
      alike-all records others rest (tell_on controller w told whole) pieces_told
      (told-then (tell_on controller w told whole) (tell_on controller w other whole) pieces_told (alike-tell w told other whole a) (alike-cut w conn front back moment other))
  alike-all _ _ (swapped records others rest) told other a =
      let b : AlikeTold w (told_on controller w other records) (told_on controller w told others) =
      alike-all records others rest other told (record { given = alike-back w told.given other.given a.given; moment = sym a.moment })
      in
      record { given = alike-back w (told_on controller w other records).given (told_on controller w told others).given b.given; moment = sym b.moment }
  alike-all _ _ (chained records between others first second) told other a =
      told-then (told_on controller w told records) (told_on controller w told between) (told_on controller w other others)
      (alike-all records between first told told (record { given = alike-itself w told.given; moment = refl }))
      (alike-all between others second told other a)

  pub alike_stories : (records others : List Record) (story other : List Happening) → SameButCuts records others → story ≡ turns records (closed w story) → other ≡ turns others (closed w other)
      → Alike w story other
  alike_stories records others story other but is other_is =
      let a : AlikeTold w (told_on controller w untold records) (told_on controller w untold others) =
      alike-all records others but untold untold (record { given = alike-itself w []; moment = refl })
      in
      subst (λ (l : List Happening). Alike w l other) (sym (the_story controller w story records is))
      (subst (Alike w (told_on controller w untold records).given) (sym (the_story controller w other others other_is)) a.given)
