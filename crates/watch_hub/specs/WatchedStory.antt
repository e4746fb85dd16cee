-- The story of a hub with a watched file, in terms of the hub's.
use Rattle.std.specs.Prelude.{◌≡◌, ◌≤◌, ℕ, ◌+◌, ◌-◌, ◌^◌, min, List, [], ◌∷◌, ◌++◌, length, map, Option, Some}
use Rattle.fg_outside.specs.declared.hub.Happening.{Happening}
use Rattle.fg_outside.specs.declared.hub.Happening.TheVariants.{Reload}
use Rattle.fg_outside.specs.Contents.{Contents}
use Rattle.fg_outside.specs.HubStep.{HubStep, Event, happening, saying, closing, happenings, Story}
use Rattle.watch_hub.specs.declared.watch.Watch.{Watch}
use Rattle.watch_hub.specs.Texts.{AreTold, missed, refreshed_by}
use Rattle.watch_hub.specs.Watch.{every_in, files_in, hub_in, last_in, looked_in, name_in, waiting_in}
use Rattle.watch_hub.specs.Watched.{last_look, last_text, looks_from, watched_from}

-- a story is another one with reloads put in between
pub data PutsIn : (events with_reloads : List Event) → Type 0 where
  none : PutsIn [] []
  same : (events with_reloads : List Event) (event : Event) → PutsIn events with_reloads → PutsIn (events ++ event ∷ []) (with_reloads ++ event ∷ [])
  reload : (events with_reloads : List Event) (text : List ℕ) → PutsIn events with_reloads → PutsIn events (with_reloads ++ happening (Reload text) ∷ [])

-- what was said on connections, with the answers, and which were closed
abbrev pub spoken : List Event → List Event
spoken [] = []
spoken (happening it ∷ events) = spoken events
spoken (saying conn piece answer ∷ events) = saying conn piece answer ∷ spoken events
spoken (closing conn ∷ events) = closing conn ∷ spoken events

-- The story of a watch between two of its states is that of its hub with the reloads of its looks between.
pub record WatchedStory {H F : Type 0} (may : H → HubStep → H → Type 0) (contents : F → Option Contents) (faults : F → ℕ) (from : Watch H F) (events : List Event) (to : Watch H F) : Type 0 where
  -- it is the same file, looked at as often
  pub name : name_in to ≡ name_in from
  pub every : every_in to ≡ every_in from
  -- the texts of the looks, and the story of the hub
  pub texts : List (Option (List ℕ))
  pub hub_events : List Event
  pub hub : Story may (hub_in from) hub_events (hub_in to)
  -- what happened is what happened at the hub with the reloads, but for one that still waits
  pub told : happenings events ++ waiting_in to ≡ watched_from (every_in from) (looked_in from) (last_in from) texts (happenings hub_events)
  -- all else is as it is in the hub's story
  pub put_in : PutsIn hub_events events
  -- there are as many texts as looks
  pub looks : length texts ≡ looks_from (every_in from) (looked_in from) (happenings hub_events)
  pub looked : looked_in to ≡ last_look (every_in from) (looked_in from) (happenings hub_events)
  pub last : last_in to ≡ last_text (last_in from) texts
  -- each look refreshed the files once, and has the text of what they then held, or none
  pub refreshes : contents (files_in to) ≡ refreshed_by (length texts) (contents (files_in from))
  pub are_told : (held : Contents) → contents (files_in from) ≡ Some held → AreTold held (name_in from) 1 texts
  -- those that have none although their files were there are at most as many as the count of faults rose
  pub few_missed : (held : Contents) → contents (files_in from) ≡ Some held → min (faults (files_in from) + missed held (name_in from) 1 texts) (2 ^ 64 - 1) ≤ faults (files_in to)

-- The story of a watch in whose last call memory may have run out: it is such a story up to a state of the watch, behind which the
-- hub gave at most one happening, which was lost, and was told nothing else.
pub record WatchedPart {H F : Type 0} (may : H → HubStep → H → Type 0) (contents : F → Option Contents) (faults : F → ℕ) (from : Watch H F) (events : List Event) (to : Watch H F) : Type 0 where
  pub until : Watch H F
  pub watched : WatchedStory may contents faults from events until
  pub lost : List Happening
  pub few : length lost ≤ 1
  pub hub : Story may (hub_in until) (map (λ (it : Happening). happening it) lost) (hub_in to)
  pub counted : faults (files_in until) ≤ faults (files_in to)
