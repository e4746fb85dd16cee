-- Whole runs, in which `due` is called at each moment until it has nothing more to say.
use Rattle.std.specs.Prelude.{◌≡◌, ℕ, ◌+◌, ◌==◌, ◌&&◌, Bool, Some, None, List, [], ◌∷◌, ◌++◌, ◌≤◌, Contains, length, zero, suc, map, filter}
use Rattle.std.specs.List.{find}
use Rattle.conf_types.specs.declared.state.NeighRec.{NeighRec}
use Rattle.conf_types.specs.Configuration.{Configuration}
use Rattle.conf_types.specs.Families.{is_same_ip}
use Rattle.conf_types.specs.Lists.{EachBefore}
use Rattle.conf_types.specs.State.{IsSameNeighbour}
use Rattle.neighbour_resolve.specs.declared.neighbour.Due.{Due}
use Rattle.neighbour_resolve.specs.declared.neighbour.Due.TheVariants.{Ask, Gone}
use Rattle.neighbour_resolve.specs.Due.{after_due, never, due_said}
use Rattle.neighbour_resolve.specs.Table.{is_same}

-- at a moment these are the answers, one call after the other, and then there is none
abbrev pub Settles : Configuration → (moment : ℕ) → (before : List NeighRec) → List Due → (after : List NeighRec) → Type 0
Settles conf moment before [] after = (due_said conf moment before ≡ None) × (after ≡ before)
Settles conf moment before (first ∷ more) after = (due_said conf moment before ≡ Some first) × Settles conf moment (after_due conf moment before) more after

-- others may be wanted, heard or let go, but not this neighbour; no two have one key
pub record LeavesAlone (n : NeighRec) (before after : List NeighRec) : Type 0 where
  pub same : find (is_same n) after ≡ find (is_same n) before
  pub keys : EachBefore (λ a b. IsSameNeighbour a b → ⊥) after

-- from a moment on, these are the answers at it, at the next one and so on, while this neighbour is left alone
abbrev pub Runs : Configuration → NeighRec → (moment : ℕ) → (before : List NeighRec) → List (List Due) → (after : List NeighRec) → Type 0
Runs conf n moment before [] after = after ≡ before
Runs conf n moment before (first ∷ more) after =
    (settled next : List NeighRec) × Settles conf moment before first settled × LeavesAlone n settled next × Runs conf n (moment + 1) next more after

-- the answer speaks of this neighbour
abbrev pub is_about : NeighRec → Due → Bool
is_about n (Ask group vid ip) = n.group.0 == group.0 && n.vid == vid && is_same_ip n.ip ip
is_about n (Gone group vid ip) = n.group.0 == group.0 && n.vid == vid && is_same_ip n.ip ip

-- an answer and its moment
pub record At : Type 0 where
  pub moment : ℕ
  pub said : Due

abbrev pub at : (moment : ℕ) → Due → At
at moment due = record { moment = moment; said = due }

-- what is said of a neighbour in a run, and when
abbrev pub said_about : NeighRec → (moment : ℕ) → List (List Due) → List At
said_about n moment [] = []
said_about n moment (first ∷ more) = map (at moment) (filter (is_about n) first) ++ said_about n (moment + 1) more

-- that it is asked at these moments
abbrev pub asked_at : NeighRec → List ℕ → List At
asked_at n moments = map (λ moment. at moment (Ask n.group n.vid n.ip)) moments

-- a run from the moment on at which a neighbour is due that was not asked yet, in which no sum passes the
-- greatest moment
pub record IsFirstRun (conf : Configuration) (n : NeighRec) (before : List NeighRec) (answers : List (List Due)) (after : List NeighRec) : Type 0 where
  pub there : Contains before n
  pub keys : EachBefore (λ a b. IsSameNeighbour a b → ⊥) before
  pub not_asked : n.tries ≡ 0
  pub run : Runs conf n n.due.0 before answers after
  pub below : n.due.0 + length answers ≤ never

-- ten tries, by how many milliseconds after the first, and then when the last wait is over
abbrev pub tries_after : List ℕ
tries_after = 0 ∷ 1000 ∷ 3000 ∷ 7000 ∷ 15000 ∷ 31000 ∷ 63000 ∷ 127000 ∷ 191000 ∷ 255000 ∷ []

abbrev pub all_tries : ℕ
all_tries = 319000

-- so many moments, 64 seconds apart
abbrev pub every_64_seconds : (count : ℕ) → (first : ℕ) → List ℕ
every_64_seconds zero first = []
every_64_seconds (suc count) first = first ∷ every_64_seconds count (first + 64000)
