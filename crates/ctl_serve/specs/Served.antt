-- What becomes of a hub on whose turns a controller is run beside a watched file.
use Rattle.std.specs.Prelude.{◌≡◌, ℕ, ◌+◌, ◌-◌, ◌^◌, ◌<◌, ◌≤◌, min, true, List, [], ◌∷◌, ◌++◌, length, map, take, Option, Some}
use Rattle.std.specs.List.{AllByRecursion}
use Rattle.fg_outside.specs.declared.hub.Happening.{Happening}
use Rattle.fg_outside.specs.declared.hub.Turn.TheVariants as turns
use Rattle.fg_outside.specs.Contents.{Contents}
use Rattle.fg_outside.specs.HubStep.{HubStep, Event, Leads, happening, happenings, story, turned}
use Rattle.fg_outside.specs.Wrote.{appended, AppendsFront}
use Rattle.conf_types.specs.Configuration.{Configuration}
use Rattle.watch_hub.specs.Texts.{AreTold, missed, refreshed_by}
use Rattle.watch_hub.specs.Watched.{looks_from, watched}
use Rattle.watch_hub.specs.WatchedStory.{PutsIn}
use Rattle.ctl_world.specs.World.{World, first}
use Rattle.hub_drive.specs.declared.drive.Drove.{Drove}
use Rattle.hub_drive.specs.declared.drive.Drove.TheVariants.{Done, HubFault, Spent, WriteFault, Memory}
use Rattle.hub_drive.specs.declared.sayings.Outlet.TheVariants.{Hub}
use Rattle.hub_drive.specs.Driving.{IsFront, deeds}
use Rattle.ctl_drive.specs.Driving.{deeds_of, lines_of}
use Rattle.hub_drive.specs.Driven.{CameAsBytes, goes_on}

-- the last call of a hub that ends so: a turn in which it says that it is done, or fails; else none
abbrev pub last_call : Drove → List HubStep
last_call Done = turned turns.Done ∷ []
last_call HubFault = turned turns.Failed ∷ []
last_call Spent = []
last_call WriteFault = []
last_call Memory = []

-- A hub came from one state to another while this happened to a controller that knew this first, and was told what the controller
-- says of it. Files were looked at meanwhile, where the file of this name had this text at the start.
pub record Served {H F : Type 0} (may : H → HubStep → H → Type 0) (contents : F → Option Contents) (faults : F → ℕ) (name text : List ℕ) (every most : ℕ) (w : World) (happened : List Happening) (end : Drove)
    (hub_old hub_new : H) (files_old files_new : F) : Type 0 where
  -- the hub's calls: each turn gave a happening, and no call was answered want of memory, up to the last one where that ends it
  pub steps : List HubStep
  pub went_on : AllByRecursion (λ step. goes_on step ≡ true) steps
  pub leads : Leads may hub_old (steps ++ last_call end) hub_new
  -- what happened is the front, of so many happenings, of what happened at the hub with a reload behind each moment of a look whose
  -- text differs from the last; the looks found these texts
  pub texts : List (Option (List ℕ))
  pub watches : happened ≡ take most (watched (happenings (story steps)) texts text every)
  -- what came in it on connections is bytes
  pub bytes : AllByRecursion CameAsBytes happened
  -- with such reloads put in between, the hub gave and was told what happened with all that is said of it, in this order
  pub events : List Event
  pub put_in : PutsIn (story steps) events
  pub told : deeds events ≡ deeds_of Hub w happened
  -- each look refreshed the files once, and has the text of what they then held, or none; those that have none although their
  -- files were there are at most as many as the count of faults rose
  pub looks : length texts ≡ looks_from every 0 (happenings (story steps))
  pub refreshes : contents files_new ≡ refreshed_by (length texts) (contents files_old)
  pub are_told : (held : Contents) → contents files_old ≡ Some held → AreTold held name 1 texts
  pub few_missed : (held : Contents) → contents files_old ≡ Some held → min (faults files_old + missed held name 1 texts) (2 ^ 64 - 1) ≤ faults files_new

-- A hub came from one state to another while this happened to a controller that knew this first, until memory ran out, and was told a
-- front of what the controller says of it. Files were looked at meanwhile, where the file of this name had this text at the start.
pub record ServedPart {H F : Type 0} (may : H → HubStep → H → Type 0) (contents : F → Option Contents) (faults : F → ℕ) (name text : List ℕ) (every : ℕ) (w : World) (happened : List Happening)
    (hub_old hub_new : H) (files_old files_new : F) : Type 0 where
  -- the hub's calls; all of their story was taken in, but for at most one happening that it gave last
  pub steps : List HubStep
  pub leads : Leads may hub_old steps hub_new
  pub taken_in : List Event
  pub lost : List Happening
  pub few : length lost ≤ 1
  pub gave : story steps ≡ taken_in ++ map (λ (it : Happening). happening it) lost
  -- what happened is the front, of so many happenings, of what was taken in with a reload behind each moment of a look whose text
  -- differs from the last; the looks found these texts
  pub texts : List (Option (List ℕ))
  pub watches : happened ≡ take (length happened) (watched (happenings taken_in) texts text every)
  -- what came in it on connections is bytes
  pub bytes : AllByRecursion CameAsBytes happened
  -- with such reloads put in between, this is all that happened, and a front of it with all that is said of it, in this order
  pub events : List Event
  pub put_in : PutsIn taken_in events
  pub all : happenings events ≡ happened
  pub told : IsFront (deeds events) (deeds_of Hub w happened)
  -- each of these looks has the text of what the files held then, or none; those that have none although their files were there
  -- are at most as many as the count of faults rose
  pub looks : length texts ≡ looks_from every 0 (happenings taken_in)
  pub are_told : (held : Contents) → contents files_old ≡ Some held → AreTold held name 1 texts
  pub few_missed : (held : Contents) → contents files_old ≡ Some held → min (faults files_old + missed held name 1 texts) (2 ^ 64 - 1) ≤ faults files_new

-- how often something happened: less often than it may, and then the hub said that it is done, or failed; or just as often
abbrev pub Ended : (most : ℕ) → List Happening → Drove → Type 0
Ended most happened Done = length happened < most
Ended most happened HubFault = length happened < most
Ended most happened Spent = length happened ≡ most
Ended most happened WriteFault = length happened ≤ most
Ended most happened Memory = length happened ≤ most

-- Where nothing failed on this side, all that happened is answered whole, to the hub and on standard error. Where a write failed,
-- the hub was told all, and a front of the lines stands. Where memory ran out, the hub was told a front, and a front of the lines stands.
abbrev pub ServesTo : {H F : Type 0} → (H → HubStep → H → Type 0) → (F → Option Contents) → (F → ℕ) → (name text : List ℕ) → (every most : ℕ) → Configuration
    → (hub_old hub_new : H) → (files_old files_new : F) → (err_old err_new : Option (List ℕ)) → Drove → Type 0
ServesTo may contents faults name text every most conf hub_old hub_new files_old files_new err_old err_new Done =
    (happened : List Happening) × Ended most happened Done
    × Served may contents faults name text every most (first conf) happened Done hub_old hub_new files_old files_new × (err_new ≡ appended err_old (lines_of (first conf) happened))
ServesTo may contents faults name text every most conf hub_old hub_new files_old files_new err_old err_new HubFault =
    (happened : List Happening) × Ended most happened HubFault
    × Served may contents faults name text every most (first conf) happened HubFault hub_old hub_new files_old files_new × (err_new ≡ appended err_old (lines_of (first conf) happened))
ServesTo may contents faults name text every most conf hub_old hub_new files_old files_new err_old err_new Spent =
    (happened : List Happening) × Ended most happened Spent
    × Served may contents faults name text every most (first conf) happened Spent hub_old hub_new files_old files_new × (err_new ≡ appended err_old (lines_of (first conf) happened))
ServesTo may contents faults name text every most conf hub_old hub_new files_old files_new err_old err_new WriteFault =
    (happened : List Happening) × Ended most happened WriteFault
    × Served may contents faults name text every (length happened) (first conf) happened WriteFault hub_old hub_new files_old files_new × AppendsFront err_old err_new (lines_of (first conf) happened)
ServesTo may contents faults name text every most conf hub_old hub_new files_old files_new err_old err_new Memory =
    (happened : List Happening) × Ended most happened Memory
    × ServedPart may contents faults name text every (first conf) happened hub_old hub_new files_old files_new × AppendsFront err_old err_new (lines_of (first conf) happened)
