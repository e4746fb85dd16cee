-- What a story has with the reloads, when it goes on.
use Rattle.std.proofs.Common.{◌≡◌, ℕ, suc, ◌+◌, Bool, true, false, List, [], ◌∷◌, ◌++◌, length, Option, refl, sym, ap, ◌∙◌, append_assoc, arith}
use Rattle.std.proofs.lemmas.List.{append-nil}
use Rattle.fg_outside.specs.declared.hub.Happening.{Happening}
use Rattle.fg_outside.specs.HubStep.{Event, happening, saying, closing, happenings}
use Rattle.watch_hub.specs.Watched.{differs, is_look, last_after, last_look, last_text, looks_from, moment_of, reloads, watched_from}
use Rattle.watch_hub.specs.WatchedStory.{PutsIn, none, same, reload, spoken}

abbrev pub Text : Type 0
Text = List ℕ

abbrev pub Texts : Type 0
Texts = List (Option Text)

-- ---- one more happening

pub looks-snoc : (every looked : ℕ) (its : List Happening) (it : Happening) → looks_from every looked (its ++ it ∷ []) ≡ looks_from every looked its + looks_from every (last_look every looked its) (it ∷ [])
looks-snoc every looked [] it = omega arith
looks-snoc every looked (i ∷ its) it = by_look (is_look every looked i) refl (looks-snoc every (moment_of i) its it) (looks-snoc every looked its it)
  where
    by_look : (b : Bool) → is_look every looked i ≡ b
        → looks_from every (moment_of i) (its ++ it ∷ []) ≡ looks_from every (moment_of i) its + looks_from every (last_look every (moment_of i) its) (it ∷ [])
        → looks_from every looked (its ++ it ∷ []) ≡ looks_from every looked its + looks_from every (last_look every looked its) (it ∷ [])
        → looks_from every looked (i ∷ (its ++ it ∷ [])) ≡ looks_from every looked (i ∷ its) + looks_from every (last_look every looked (i ∷ its)) (it ∷ [])
    by_look true is from_it before = rw is (omega (arith, from_it))
    by_look false is from_it before = rw is before

pub last_look-snoc : (every looked : ℕ) (its : List Happening) (it : Happening) → last_look every looked (its ++ it ∷ []) ≡ last_look every (last_look every looked its) (it ∷ [])
last_look-snoc every looked [] it = refl
last_look-snoc every looked (i ∷ its) it = by_look (is_look every looked i) refl (last_look-snoc every (moment_of i) its it) (last_look-snoc every looked its it)
  where
    by_look : (b : Bool) → is_look every looked i ≡ b
        → last_look every (moment_of i) (its ++ it ∷ []) ≡ last_look every (last_look every (moment_of i) its) (it ∷ [])
        → last_look every looked (its ++ it ∷ []) ≡ last_look every (last_look every looked its) (it ∷ [])
        → last_look every looked (i ∷ (its ++ it ∷ [])) ≡ last_look every (last_look every looked (i ∷ its)) (it ∷ [])
    by_look true is from_it before = rw is from_it
    by_look false is from_it before = rw is before

pub last_text-snoc : (last : Text) (texts : Texts) (text : Option Text) → last_text last (texts ++ text ∷ []) ≡ last_after (last_text last texts) text
last_text-snoc last [] text = refl
last_text-snoc last (t ∷ texts) text = last_text-snoc (last_after last t) texts text

-- the story so far, and then what comes of one more happening
abbrev pub Grows : (every looked : ℕ) → Text → Texts → Texts → List Happening → Happening → Type 0
Grows every looked last texts more its it =
    length texts ≡ looks_from every looked its
    → watched_from every looked last (texts ++ more) (its ++ it ∷ []) ≡ watched_from every looked last texts its ++ watched_from every (last_look every looked its) (last_text last texts) more (it ∷ [])

pub watched-snoc : (every looked : ℕ) (last : Text) (texts more : Texts) (its : List Happening) (it : Happening) → Grows every looked last texts more its it
watched-snoc every looked last [] more [] it as_many = refl
watched-snoc every looked last (t ∷ texts) more [] it as_many = absurd (omega (arith, as_many))
watched-snoc every looked last texts more (i ∷ its) it as_many =
    by_look (is_look every looked i) refl (λ (text : Text) (ts : Texts). watched-snoc every (moment_of i) text ts more its it) (λ (ts : Texts). watched-snoc every looked last ts more its it) texts as_many
  where
    by_look : (b : Bool) → is_look every looked i ≡ b → ((text : Text) (ts : Texts) → Grows every (moment_of i) text ts more its it) → ((ts : Texts) → Grows every looked last ts more its it)
        → (ts : Texts) → Grows every looked last ts more (i ∷ its) it
    by_look true is from_it before [] n = absurd (let m : 0 ≡ looks_from every (moment_of i) its + 1 = rw is at n in omega (arith, m))
    by_look true is from_it before (t ∷ ts) n =
        let m : suc (length ts) ≡ looks_from every (moment_of i) its + 1 = rw is at n in
        let rest = from_it (last_after last t) ts (omega (arith, m)) in
        rw is (ap (λ (l : List Happening). i ∷ (reloads (differs last t) (last_after last t) ++ l)) rest
        ∙ ap (λ (l : List Happening). i ∷ l) (sym (append_assoc (reloads (differs last t) (last_after last t)) _ _)))
    by_look false is from_it before ts n = rw is (ap (λ (l : List Happening). i ∷ l) (before ts (rw is at n)))

-- ---- events

pub happenings-append : (xs ys : List Event) → happenings (xs ++ ys) ≡ happenings xs ++ happenings ys
happenings-append [] ys = refl
happenings-append (happening it ∷ xs) ys = ap (λ (l : List Happening). it ∷ l) (happenings-append xs ys)
happenings-append (saying conn piece answer ∷ xs) ys = happenings-append xs ys
happenings-append (closing conn ∷ xs) ys = happenings-append xs ys

spoken-append : (xs ys : List Event) → spoken (xs ++ ys) ≡ spoken xs ++ spoken ys
spoken-append [] ys = refl
spoken-append (happening it ∷ xs) ys = spoken-append xs ys
spoken-append (saying conn piece answer ∷ xs) ys = ap (λ (l : List Event). saying conn piece answer ∷ l) (spoken-append xs ys)
spoken-append (closing conn ∷ xs) ys = ap (λ (l : List Event). closing conn ∷ l) (spoken-append xs ys)

pub spoken_same : (events with_reloads : List Event) → PutsIn events with_reloads → spoken with_reloads ≡ spoken events
spoken_same _ _ none = refl
spoken_same _ _ (same xs ys event puts) =
    spoken-append ys (event ∷ []) ∙ ap (λ (l : List Event). l ++ spoken (event ∷ [])) (spoken_same xs ys puts) ∙ sym (spoken-append xs (event ∷ []))
spoken_same _ _ (reload xs ys text puts) = spoken-append ys _ ∙ append-nil (spoken ys) ∙ spoken_same xs ys puts

-- more of both
pub PutsIn-append : (xs ys : List Event) → PutsIn xs ys → (more : List Event) → PutsIn (xs ++ more) (ys ++ more)
PutsIn-append xs ys puts [] = rw (append-nil xs, append-nil ys) puts
PutsIn-append xs ys puts (e ∷ more) =
    let longer = PutsIn-append (xs ++ e ∷ []) (ys ++ e ∷ []) (same xs ys e puts) more in
    rw (append_assoc xs (e ∷ []) more, append_assoc ys (e ∷ []) more) at longer
