-- What a hub gave and was told over many calls, and over a front of them.
use Rattle.std.proofs.Common.{◌≡◌, ℕ, zero, suc, ◌+◌, ◌-◌, ◌<◌, true, List, [], ◌∷◌, ◌++◌, length, get_or, take, refl, sym, ap, subst, ◌∙◌, append_assoc, arith}
use Rattle.std.specs.List.{AllByRecursion, flat_map}
use Rattle.std.proofs.lemmas.List.{append-nil}
use Rattle.fg_outside.specs.HubStep.{HubStep, Event, start, next, story, told_by}
use Rattle.fg_outside.proofs.StoryLemmas.{Leads-append, story-append}
use Rattle.hub_drive.specs.Driving.{Deed, IsFront, deeds}
use Rattle.hub_drive.specs.Driven.{Goes, Tells, TellsPart, goes_on}
use Rattle.hub_drive.proofs.Deeds.{deeds-append}
use Rattle.hub_drive.proofs.Pieces.{flat_map-next}

pub deeds-story : (xs ys : List HubStep) → deeds (story (xs ++ ys)) ≡ deeds (story xs) ++ deeds (story ys)
deeds-story xs ys = ap (λ (l : List Event). deeds l) (story-append xs ys) ∙ deeds-append (story xs) (story ys)

-- what holds of all of two lists holds of all of both
pub all_of_both : {X : Type 0} (P : X → Type 0) (xs ys : List X) → AllByRecursion P xs → AllByRecursion P ys → AllByRecursion P (xs ++ ys)
all_of_both P [] ys first second = second
all_of_both P (x ∷ xs) ys first second = (first.0, all_of_both P xs ys first.1 second)

-- what holds of all holds of a front
pub all_of_front : {X : Type 0} (P : X → Type 0) (n : ℕ) (xs : List X) → AllByRecursion P xs → AllByRecursion P (take n xs)
all_of_front P zero [] all = tt
all_of_front P zero (x ∷ xs) all = tt
all_of_front P (suc n) [] all = tt
all_of_front P (suc n) (x ∷ xs) all = (all.0, all_of_front P n xs all.1)

-- of all but the last of a list: with one more before
one_before : {X : Type 0} (P : X → Type 0) (x : X) (xs : List X) → P x → AllByRecursion P (take (length xs - 1) xs) → AllByRecursion P (take (length (x ∷ xs) - 1) (x ∷ xs))
one_before P x [] first all = tt
one_before P x (y ∷ ys) first all =
    let long : length (x ∷ (y ∷ ys)) - 1 ≡ suc (length ys) = omega arith in
    let short : length (y ∷ ys) - 1 ≡ length ys = omega arith in
    subst (λ n. AllByRecursion P (take n (x ∷ (y ∷ ys)))) (sym long) (first, subst (λ n. AllByRecursion P (take n (y ∷ ys))) short all)

-- and with a list before
pub all_but_last : {X : Type 0} (P : X → Type 0) (xs ys : List X) → AllByRecursion P xs → AllByRecursion P (take (length ys - 1) ys) → AllByRecursion P (take (length (xs ++ ys) - 1) (xs ++ ys))
all_but_last P [] ys first second = second
all_but_last P (x ∷ xs) ys first second = one_before P x (xs ++ ys) first.0 (all_but_last P xs ys first.1 second)

module _ {X : Type 0} where
  pub IsFront-whole : (front more : List X) → IsFront front (front ++ more)
  IsFront-whole front more = record { rest = more; parts = refl }

  pub IsFront-same : (front : List X) → IsFront front front
  IsFront-same front = record { rest = []; parts = sym (append-nil front) }

  pub IsFront-first : (front piece more : List X) → IsFront front piece → IsFront front (piece ++ more)
  IsFront-first front piece more is = record {
    rest = is.rest ++ more;
    parts = ap (λ (l : List X). l ++ more) is.parts ∙ append_assoc front is.rest more;
  }

  pub IsFront-second : (piece front more : List X) → IsFront front more → IsFront (piece ++ front) (piece ++ more)
  IsFront-second piece front more is = record {
    rest = is.rest;
    parts = ap (λ (l : List X). piece ++ l) is.parts ∙ sym (append_assoc piece front is.rest);
  }

module _ {H : Type 0} (may : H → HubStep → H → Type 0) where
  abbrev pub Goes-none : (hub : H) → Goes may hub hub
  Goes-none hub = ([], start)

  abbrev pub Goes-then : (old mid new : H) → Goes may old mid → Goes may mid new → Goes may old new
  Goes-then old mid new first second = (first.0 ++ second.0, Leads-append may old mid first.0 first.1 second.0 new second.1)

  abbrev pub Goes-one : (old mid : H) (step : HubStep) (new : H) → Goes may old mid → may mid step new → Goes may old new
  Goes-one old mid step new first step_may = (first.0 ++ step ∷ [], next first.0 mid step new first.1 step_may)

  abbrev pub Tells-none : (hub : H) → Tells may hub [] hub
  Tells-none hub = record { steps = []; leads = start; deeds = refl; went_on = tt }

  -- one call
  abbrev pub Tells-one : (old : H) (step : HubStep) (new : H) → may old step new → goes_on step ≡ true → Tells may old (deeds (told_by step)) new
  Tells-one old step new step_may goes = record {
    steps = step ∷ [];
    leads = next [] old step new start step_may;
    deeds = ap (λ (l : List Event). deeds l) (append-nil (told_by step));
    went_on = (goes, tt);
  }

  abbrev pub Tells-same : (old new : H) (xs ys : List Deed) → xs ≡ ys → Tells may old xs new → Tells may old ys new
  Tells-same old new xs ys same tells = record { steps = tells.steps; leads = tells.leads; deeds = tells.deeds ∙ same; went_on = tells.went_on }

  abbrev pub Tells-then : (old mid new : H) (xs ys : List Deed) → Tells may old xs mid → Tells may mid ys new → Tells may old (xs ++ ys) new
  Tells-then old mid new xs ys first second = record {
    steps = first.steps ++ second.steps;
    leads = Leads-append may old mid first.steps first.leads second.steps new second.leads;
    deeds =
        deeds-story first.steps second.steps
        ∙ ap (λ (l : List Deed). l ++ deeds (story second.steps)) first.deeds
        ∙ ap (λ (l : List Deed). xs ++ l) second.deeds;
    went_on = all_of_both (λ step. goes_on step ≡ true) first.steps second.steps first.went_on second.went_on;
  }

  -- of one item more of a list
  pub Tells-next : {X : Type 0} (f : X → List Deed) (xs : List X) (i : ℕ) (x : X) → i < length xs → x ≡ get_or xs i x → (old mid new : H)
      → Tells may old (flat_map f (take i xs)) mid → Tells may mid (f x) new → Tells may old (flat_map f (take (i + 1) xs)) new
  Tells-next f xs i x lt is old mid new first second =
      Tells-same old new (flat_map f (take i xs) ++ f x) (flat_map f (take (i + 1) xs)) (sym (flat_map-next f xs i x lt is)) (Tells-then old mid new (flat_map f (take i xs)) (f x) first second)

  pub Goes-of : (old new : H) (told : List Deed) → Tells may old told new → Goes may old new
  Goes-of old new told tells = (tells.steps, tells.leads)

  pub Goes-of-part : (old new : H) (told : List Deed) → TellsPart may old told new → Goes may old new
  Goes-of-part old new told part = (part.steps, part.leads)

  -- ---- fronts

  -- one call, whatever it was answered
  abbrev pub TellsPart-one : (old : H) (step : HubStep) (new : H) → may old step new → TellsPart may old (deeds (told_by step)) new
  TellsPart-one old step new step_may = record {
    steps = step ∷ [];
    leads = next [] old step new start step_may;
    front = record {
      rest = [];
      parts = sym (append-nil (deeds (told_by step ++ [])) ∙ ap (λ (l : List Event). deeds l) (append-nil (told_by step)));
    };
    went_on = tt;
  }

  abbrev pub TellsPart-none : (hub : H) (whole : List Deed) → TellsPart may hub whole hub
  TellsPart-none hub whole = record { steps = []; leads = start; front = record { rest = whole; parts = refl }; went_on = tt }

  abbrev pub TellsPart-same : (old new : H) (xs ys : List Deed) → xs ≡ ys → TellsPart may old xs new → TellsPart may old ys new
  TellsPart-same old new xs ys same part = record {
    steps = part.steps;
    leads = part.leads;
    front = record { rest = part.front.rest; parts = sym same ∙ part.front.parts };
    went_on = part.went_on;
  }

  -- the whole is a front
  abbrev pub TellsPart-whole : (old new : H) (xs : List Deed) → Tells may old xs new → TellsPart may old xs new
  TellsPart-whole old new xs tells = record {
    steps = tells.steps;
    leads = tells.leads;
    front = record { rest = []; parts = sym (append-nil (deeds (story tells.steps)) ∙ tells.deeds) };
    went_on = all_of_front (λ step. goes_on step ≡ true) (length tells.steps - 1) tells.steps tells.went_on;
  }

  -- a front of the first of two is a front of both
  abbrev pub TellsPart-first : (old new : H) (xs ys : List Deed) → TellsPart may old xs new → TellsPart may old (xs ++ ys) new
  TellsPart-first old new xs ys part = record {
    steps = part.steps;
    leads = part.leads;
    front = IsFront-first (deeds (story part.steps)) xs ys part.front;
    went_on = part.went_on;
  }

  -- the first and a front of the second are a front of both
  abbrev pub TellsPart-second : (old mid new : H) (xs ys : List Deed) → Tells may old xs mid → TellsPart may mid ys new → TellsPart may old (xs ++ ys) new
  TellsPart-second old mid new xs ys first second =
      let both : IsFront (xs ++ deeds (story second.steps)) (xs ++ ys) = IsFront-second xs (deeds (story second.steps)) ys second.front in
      record {
        steps = first.steps ++ second.steps;
        leads = Leads-append may old mid first.steps first.leads second.steps new second.leads;
        front = record {
          rest = both.rest;
          parts =
              both.parts
              ∙ ap (λ (l : List Deed). l ++ both.rest)
              (sym (deeds-story first.steps second.steps ∙ ap (λ (l : List Deed). l ++ deeds (story second.steps)) first.deeds));
        };
        went_on = all_but_last (λ step. goes_on step ≡ true) first.steps second.steps first.went_on second.went_on;
      }
