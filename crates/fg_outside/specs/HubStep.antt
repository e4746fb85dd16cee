-- The calls of a hub with their answers, and the stories that they make.
use Rattle.std.specs.Prelude.{◌≡◌, ℕ, List, [], ◌∷◌, ◌++◌}
use Rattle.fg_outside.specs.declared.hub.Happening.{Happening}
use Rattle.fg_outside.specs.declared.hub.Turn.{Turn}
use Rattle.fg_outside.specs.declared.hub.Turn.TheVariants.{Happened, Done, Failed, Memory}
use Rattle.fg_outside.specs.declared.hub.Said.{Said}

-- one call of a hub, with its answer
pub data HubStep : Type 0 where
  turned : Turn → HubStep
  said : ℕ → List ℕ → Said → HubStep
  closed : ℕ → HubStep

-- what a story has: a happening, a piece said on a connection with its answer, a connection closed
pub data Event : Type 0 where
  happening : Happening → Event
  saying : ℕ → List ℕ → Said → Event
  closing : ℕ → Event

-- what a step adds to the story: a turn that gives no happening adds nothing
abbrev pub told_by : HubStep → List Event
told_by (turned (Happened it)) = happening it ∷ []
told_by (turned Done) = []
told_by (turned Failed) = []
told_by (turned Memory) = []
told_by (said conn piece answer) = saying conn piece answer ∷ []
told_by (closed conn) = closing conn ∷ []

-- the story of these steps
abbrev pub story : List HubStep → List Event
story [] = []
story (step ∷ steps) = told_by step ++ story steps

-- the happenings of a story, in order
abbrev pub happenings : List Event → List Happening
happenings [] = []
happenings (happening it ∷ events) = it ∷ happenings events
happenings (saying conn piece answer ∷ events) = happenings events
happenings (closing conn ∷ events) = happenings events

-- the steps lead from one state of a hub to another, each as the hub may
pub data Leads {H : Type 0} (may : H → HubStep → H → Type 0) (from : H) : List HubStep → H → Type 0 where
  start : Leads may from [] from
  next : (steps : List HubStep) (mid : H) (step : HubStep) (to : H) → Leads may from steps mid → may mid step to → Leads may from (steps ++ step ∷ []) to

-- the story leads from one state of a hub to another
pub record Story {H : Type 0} (may : H → HubStep → H → Type 0) (from : H) (events : List Event) (to : H) : Type 0 where
  pub steps : List HubStep
  pub leads : Leads may from steps to
  pub is : story steps ≡ events
