-- What callers see of a hub in memory, and the steps that it takes.
use Rattle.std.specs.Prelude.{◌≡◌, Bool, true, false, ◌||◌, List, [], ◌∷◌, if◌then◌else◌}
use Rattle.std.specs.List.{fold}
use Rattle.std.specs.Vec.Iter.{into_iter_items}
use Rattle.fg_outside.specs.declared.hub.Happening.{Happening}
use Rattle.fg_outside.specs.declared.hub.Turn.TheVariants.{Happened, Done, Failed, Memory}
use Rattle.fg_outside.specs.declared.hub.Said.TheVariants as answers
use Rattle.fg_outside.specs.HubStep.{HubStep, turned, said, closed, told_by}
use Rattle.fg_links.specs.declared.story.StoryStep.{StoryStep}
use Rattle.fg_links.specs.declared.mem_hub.HubInMemory.{HubInMemory}
use Rattle.fg_links.specs.Stories.{is_open_in, fitting, kept}

-- the turns that it has left
abbrev pub turns_of : {P : Type 0} → HubInMemory P → List Happening
turns_of hub = into_iter_items hub.turns

-- its story so far
abbrev pub story_of : {P : Type 0} → HubInMemory P → List StoryStep
story_of hub = hub.story.items

-- it answered want of memory
abbrev pub is_spent : {P : Type 0} → HubInMemory P → Bool
is_spent hub = hub.spent

-- which of the turns are to fail
abbrev pub plan_of : {P : Type 0} → HubInMemory P → P
plan_of hub = hub.plan

-- Which answers there are, unless memory runs out, where the plan fails a turn or doesn't, after this story, with these turns
-- left, and then those: a turn is the next that fits, or Done where none does; exactly the pieces for open connections are
-- taken.
abbrev pub Answers : Bool → List StoryStep → List Happening → HubStep → List Happening → Type 0
Answers fails story turns (turned (Happened it)) left = (fails ≡ false) × (fitting story turns ≡ it ∷ left)
Answers fails story turns (turned Done) left = (fails ≡ false) × (fitting story turns ≡ []) × (left ≡ [])
Answers fails story turns (turned Failed) left = (fails ≡ true) × (left ≡ turns)
Answers fails story turns (turned Memory) left = Unit {0}
Answers fails story turns (said conn piece answers.Taken) left = (is_open_in story conn ≡ true) × (left ≡ turns)
Answers fails story turns (said conn piece answers.Gone) left = (is_open_in story conn ≡ false) × (left ≡ turns)
Answers fails story turns (said conn piece answers.Memory) left = left ≡ turns
Answers fails story turns (closed conn) left = left ≡ turns

-- the answer is want of memory
abbrev pub lacks_memory : HubStep → Bool
lacks_memory (turned (Happened it)) = false
lacks_memory (turned Done) = false
lacks_memory (turned Failed) = false
lacks_memory (turned Memory) = true
lacks_memory (said conn piece answers.Taken) = false
lacks_memory (said conn piece answers.Gone) = false
lacks_memory (said conn piece answers.Memory) = true
lacks_memory (closed conn) = false

-- what a spent hub answers: want of memory, where a call has an answer
abbrev pub refuses : HubStep → Bool
refuses (turned answer) = lacks_memory (turned answer)
refuses (said conn piece answer) = lacks_memory (said conn piece answer)
refuses (closed conn) = true

-- the plan behind a call: it counts the turns of a hub that isn't spent
abbrev pub planned : {P : Type 0} → (P → P) → Bool → HubStep → P → P
planned after spent (turned answer) plan = if spent then plan else after plan
planned after spent (said conn piece answer) plan = plan
planned after spent (closed conn) plan = plan

-- the steps of a hub in memory, where a plan says whether the next turn fails, and what the plan is once it was counted
pub record May {P : Type 0} (fails : P → Bool) (after : P → P) (old : HubInMemory P) (step : HubStep) (new : HubInMemory P) : Type 0 where
  pub answers : Answers (fails (plan_of old)) (story_of old) (turns_of old) step (turns_of new)
  pub story : story_of new ≡ fold kept (story_of old) (told_by step)
  pub spends : is_spent new ≡ (is_spent old || lacks_memory step)
  pub stays_spent : is_spent old ≡ true → refuses step ≡ true
  pub plan : plan_of new ≡ planned after (is_spent old) step (plan_of old)
