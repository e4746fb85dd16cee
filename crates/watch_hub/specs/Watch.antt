-- What callers see of a hub with a watched file, and the steps that it may take.
use Rattle.std.specs.Prelude.{◌≡◌, ◌⊎◌, ◌||◌, ℕ, Bool, true, false, List, Option}
use Rattle.fg_outside.specs.declared.hub.Happening.{Happening}
use Rattle.fg_outside.specs.declared.hub.Happening.TheVariants.{Reload}
use Rattle.fg_outside.specs.declared.hub.Turn.{Turn}
use Rattle.fg_outside.specs.declared.hub.Turn.TheVariants.{Happened, Done, Failed, Memory}
use Rattle.fg_outside.specs.declared.hub.Said.TheVariants as answers
use Rattle.fg_outside.specs.Contents.{Contents}
use Rattle.fg_outside.specs.HubStep.{HubStep, turned, said, closed, Leads}
use Rattle.fg_links.specs.HubInMemory.{lacks_memory}
use Rattle.watch_hub.specs.declared.watch.Watch.{Watch}
use Rattle.watch_hub.specs.FileWatch.{Keeps, Looks}
use Rattle.watch_hub.specs.Watched.{is_look, moment_of, reloads}

-- the hub that it passes on
abbrev pub hub_in : {H F : Type 0} → Watch H F → H
hub_in watch = watch.hub

-- the files that it looks at
abbrev pub files_in : {H F : Type 0} → Watch H F → F
files_in watch = watch.file.files

-- the name of the main file, as UTF-8 bytes
abbrev pub name_in : {H F : Type 0} → Watch H F → List ℕ
name_in watch = watch.file.name

-- how long after a look the next one is due, in milliseconds
abbrev pub every_in : {H F : Type 0} → Watch H F → ℕ
every_in watch = watch.file.every

-- the moment of the last look; 0 before the first
abbrev pub looked_in : {H F : Type 0} → Watch H F → ℕ
looked_in watch = watch.file.looked

-- the text that the file last had
abbrev pub last_in : {H F : Type 0} → Watch H F → List ℕ
last_in watch = watch.file.last

-- that text is still to be told, by the next turn
abbrev pub waits_in : {H F : Type 0} → Watch H F → Bool
waits_in watch = watch.file.waits

-- what it is still to tell
abbrev pub waiting_in : {H F : Type 0} → Watch H F → List Happening
waiting_in watch = reloads (waits_in watch) (last_in watch)

-- memory ran out in it
abbrev pub is_spent : {H F : Type 0} → Watch H F → Bool
is_spent watch = watch.spent

-- no look came yet, the main file is this one, it had this text before, and looks come at this interval
pub record IsBegun {H F : Type 0} (watch : Watch H F) (main first : List ℕ) (interval : ℕ) : Type 0 where
  pub name : name_in watch ≡ main
  pub every : every_in watch ≡ interval
  pub looked : looked_in watch ≡ 0
  pub last : last_in watch ≡ first
  pub waits : waits_in watch ≡ false
  pub running : is_spent watch ≡ false

-- ---- its steps

-- the hub alone went on
abbrev pub HubWent : {H F : Type 0} → (old new : Watch H F) → Type 0
HubWent old new = new ≡ record old { hub = hub_in new }

-- the text that waited is told
pub record TellsText {H F : Type 0} (old : Watch H F) (it : Happening) (new : Watch H F) : Type 0 where
  pub waited : waits_in old ≡ true
  pub text : it ≡ Reload (last_in old)
  pub after : new ≡ record old { file = record old.file { waits = false } }

-- what the hub gives is passed on, with a look where one is due
pub record PassesOn {H F : Type 0} (may : H → HubStep → H → Type 0) (contents : F → Option Contents) (faults absences : F → ℕ) (old : Watch H F) (it : Happening) (new : Watch H F) : Type 0 where
  pub none_waited : waits_in old ≡ false
  pub hub : may (hub_in old) (turned (Happened it)) (hub_in new)
  pub look : is_look (every_in old) (looked_in old) it ≡ true → Looks contents faults absences (moment_of it) old.file new.file
  pub no_look : is_look (every_in old) (looked_in old) it ≡ false → HubWent old new

-- the hub gives this answer in place of a happening
pub record EndsWith {H F : Type 0} (may : H → HubStep → H → Type 0) (answer : Turn) (old new : Watch H F) : Type 0 where
  pub none_waited : waits_in old ≡ false
  pub hub : may (hub_in old) (turned answer) (hub_in new)
  pub went : HubWent old new

-- the hub is called in the same way
pub record Calls {H F : Type 0} (may : H → HubStep → H → Type 0) (step : HubStep) (old new : Watch H F) : Type 0 where
  pub hub : may (hub_in old) step (hub_in new)
  pub went : HubWent old new

-- what a hub was asked where memory ran out in a turn: nothing; or its turn was answered so; or it gave a happening, which isn't
-- passed on
pub data IsAsked {H : Type 0} (may : H → HubStep → H → Type 0) (old new : H) : Type 0 where
  nothing : new ≡ old → IsAsked may old new
  in_vain : may old (turned Memory) new → IsAsked may old new
  lost : (it : Happening) → may old (turned (Happened it)) new → IsAsked may old new

-- memory ran out in a turn
pub record LosesTurn {H F : Type 0} (may : H → HubStep → H → Type 0) (old new : Watch H F) : Type 0 where
  pub spent : is_spent new ≡ true
  pub hub : IsAsked may (hub_in old) (hub_in new)

-- Memory ran out for a piece: the hub, called in the same way, had none; or it ran out before, and the hub isn't called. The file
-- stays as it is.
pub record LosesPiece {H F : Type 0} (may : H → HubStep → H → Type 0) (conn : ℕ) (piece : List ℕ) (old new : Watch H F) : Type 0 where
  pub hub : is_spent old ≡ false → may (hub_in old) (said conn piece answers.Memory) (hub_in new)
  pub no_hub : is_spent old ≡ true → hub_in new ≡ hub_in old
  pub went : new ≡ record old { hub = hub_in new; spent = true }

-- what a call does, by its answer
abbrev pub Does : {H F : Type 0} → (H → HubStep → H → Type 0) → (F → Option Contents) → (F → ℕ) → (F → ℕ) → Watch H F → HubStep → Watch H F → Type 0
Does may contents faults absences old (turned (Happened it)) new = TellsText old it new ⊎ PassesOn may contents faults absences old it new
Does may contents faults absences old (turned Done) new = EndsWith may Done old new
Does may contents faults absences old (turned Failed) new = EndsWith may Failed old new
Does may contents faults absences old (turned Memory) new = LosesTurn may old new
Does may contents faults absences old (said conn piece answers.Taken) new = Calls may (said conn piece answers.Taken) old new
Does may contents faults absences old (said conn piece answers.Gone) new = Calls may (said conn piece answers.Gone) old new
Does may contents faults absences old (said conn piece answers.Memory) new = LosesPiece may conn piece old new
Does may contents faults absences old (closed conn) new = Calls may (closed conn) old new

-- whatever a call does: the hub went by steps that it may take, and the file is the same
pub record GoesAlong {H F : Type 0} (may : H → HubStep → H → Type 0) (faults absences : F → ℕ) (old new : Watch H F) : Type 0 where
  pub way : List HubStep
  pub leads : Leads may (hub_in old) way (hub_in new)
  pub file : Keeps faults absences old.file new.file

-- a step that a watch may take: memory ran out in it exactly where an answer says so, and a spent one stays so
pub record WatchStep {H F : Type 0} (may : H → HubStep → H → Type 0) (contents : F → Option Contents) (faults absences : F → ℕ) (old : Watch H F) (step : HubStep) (new : Watch H F) : Type 0 where
  pub does : Does may contents faults absences old step new
  pub along : GoesAlong may faults absences old new
  pub running : is_spent new ≡ false → is_spent old ≡ false
  pub spends : is_spent new ≡ (is_spent old || lacks_memory step)
