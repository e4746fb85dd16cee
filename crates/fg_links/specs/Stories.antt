-- The story of a hub in memory, and what is open by it.
use Rattle.std.specs.Prelude.{ℕ, Bool, true, false, not, List, [], ◌∷◌, ◌++◌, if◌then◌else◌, nat_eq}
use Rattle.std.specs.List.{fold}
use Rattle.fg_outside.specs.declared.hub.Happening.{Happening}
use Rattle.fg_outside.specs.declared.hub.Happening.TheVariants.{Opened, Heard, Closed, Moment, Reload}
use Rattle.fg_outside.specs.declared.hub.Said.TheVariants.{Taken, Gone, Memory}
use Rattle.fg_outside.specs.HubStep.{Event, happening, saying, closing}
use Rattle.fg_links.specs.declared.story.StoryStep.{StoryStep}
use Rattle.fg_links.specs.declared.story.StoryStep.TheVariants as step

-- whether a connection is open behind a step, where it was or wasn't before: it is from its opening to its closing
abbrev pub open_behind : ℕ → Bool → StoryStep → Bool
open_behind conn was (step.Gave (Opened other)) = if nat_eq conn other then true else was
open_behind conn was (step.Gave (Heard other piece)) = was
open_behind conn was (step.Gave (Closed other cause)) = if nat_eq conn other then false else was
open_behind conn was (step.Gave (Moment moment)) = was
open_behind conn was (step.Gave (Reload text)) = was
open_behind conn was (step.Said other piece) = was
open_behind conn was (step.Closed other) = if nat_eq conn other then false else was

-- the same behind a whole story, which begins with no connection open
abbrev pub is_open_in : List StoryStep → ℕ → Bool
is_open_in story conn = fold (open_behind conn) false story

-- A turn fits where its connection is open; one that opens it, where it isn't.
abbrev pub fits : List StoryStep → Happening → Bool
fits story (Opened conn) = not (is_open_in story conn)
fits story (Heard conn piece) = is_open_in story conn
fits story (Closed conn cause) = is_open_in story conn
fits story (Moment moment) = true
fits story (Reload text) = true

-- the turns from the first on that fits
abbrev pub fitting : List StoryStep → List Happening → List Happening
fitting story [] = []
fitting story (turn ∷ turns) = if fits story turn then turn ∷ turns else fitting story turns

-- the story with a closing behind it, where the connection is open
abbrev pub closed_in : List StoryStep → ℕ → List StoryStep
closed_in story conn = if is_open_in story conn then story ++ step.Closed conn ∷ [] else story

-- a story with an event behind it: a piece that isn't taken and a closing of what isn't open leave it as it is
abbrev pub kept : List StoryStep → Event → List StoryStep
kept story (happening it) = story ++ step.Gave it ∷ []
kept story (saying conn piece Taken) = story ++ step.Said conn piece ∷ []
kept story (saying conn piece Gone) = story
kept story (saying conn piece Memory) = story
kept story (closing conn) = closed_in story conn
