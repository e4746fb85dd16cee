-- What a hub gives beside which a file is watched.
use Rattle.std.specs.Prelude.{ℕ, ◌+◌, Bool, true, false, not, if◌then◌else◌, nat_le, List, [], ◌∷◌, ◌++◌, Option, Some, None}
use Rattle.std.specs.Str.{bytes_eq}
use Rattle.fg_outside.specs.declared.hub.Happening.{Happening}
use Rattle.fg_outside.specs.declared.hub.Happening.TheVariants.{Opened, Heard, Closed, Moment, Reload}

-- ---- one look

-- a look is due at a moment that is at least so long after the last look
abbrev pub is_due : (every looked moment : ℕ) → Bool
is_due every looked moment = nat_le (looked + every) moment

-- a look comes with what happens, where it shows such a moment
abbrev pub is_look : (every looked : ℕ) → Happening → Bool
is_look every looked (Opened conn) = false
is_look every looked (Heard conn piece) = false
is_look every looked (Closed conn cause) = false
is_look every looked (Moment moment) = is_due every looked moment
is_look every looked (Reload text) = false

-- the moment that it shows; 0 where it shows none
abbrev pub moment_of : Happening → ℕ
moment_of (Opened conn) = 0
moment_of (Heard conn piece) = 0
moment_of (Closed conn cause) = 0
moment_of (Moment moment) = moment
moment_of (Reload text) = 0

-- the text of a look differs from the last one
abbrev pub differs : (last : List ℕ) → Option (List ℕ) → Bool
differs last None = false
differs last (Some text) = not (bytes_eq text last)

-- the last text behind a look: one without a text keeps it
abbrev pub last_after : (last : List ℕ) → Option (List ℕ) → List ℕ
last_after last None = last
last_after last (Some text) = text

-- a text that is to be told, as a reload
abbrev pub reloads : Bool → List ℕ → List Happening
reloads false text = []
reloads true text = Reload text ∷ []

-- ---- a story

-- the text of the first look; none where there is no look
abbrev pub first_of : List (Option (List ℕ)) → Option (List ℕ)
first_of [] = None
first_of (text ∷ texts) = text

-- the texts of the others
abbrev pub rest_of : List (Option (List ℕ)) → List (Option (List ℕ))
rest_of [] = []
rest_of (text ∷ texts) = texts

-- a story that goes on where the last look was at this moment, and the last text was this
abbrev pub watched_from : (every looked : ℕ) → (last : List ℕ) → (texts : List (Option (List ℕ))) → List Happening → List Happening
watched_from every looked last texts [] = []
watched_from every looked last texts (it ∷ its) =
    if is_look every looked it
    then it ∷ reloads (differs last (first_of texts)) (last_after last (first_of texts))
    ++ watched_from every (moment_of it) (last_after last (first_of texts)) (rest_of texts) its
    else it ∷ watched_from every looked last texts its

-- The story with one reload behind each moment of a look whose text differs from the last one, the first being given. The looks
-- have these texts in turn; some have none. The first look is measured from moment 0.
abbrev pub watched : (story : List Happening) → (texts : List (Option (List ℕ))) → (first : List ℕ) → (every : ℕ) → List Happening
watched story texts first every = watched_from every 0 first texts story

-- ---- what is known behind a story

-- how many looks come with it
abbrev pub looks_from : (every looked : ℕ) → List Happening → ℕ
looks_from every looked [] = 0
looks_from every looked (it ∷ its) = if is_look every looked it then looks_from every (moment_of it) its + 1 else looks_from every looked its

-- the moment of the last one
abbrev pub last_look : (every looked : ℕ) → List Happening → ℕ
last_look every looked [] = looked
last_look every looked (it ∷ its) = if is_look every looked it then last_look every (moment_of it) its else last_look every looked its

-- the last text
abbrev pub last_text : (last : List ℕ) → List (Option (List ℕ)) → List ℕ
last_text last [] = last
last_text last (text ∷ texts) = last_text (last_after last text) texts
