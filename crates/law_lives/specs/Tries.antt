-- When a neighbour is asked, whatever the moments are at which turns settle.
use Rattle.std.specs.Prelude.{◌≡◌, ◌+◌, ◌<◌, ◌≤◌, ℕ, nat_le, if◌then◌else◌, List, [], ◌∷◌, ◌++◌, filter, map, Some}
use Rattle.std.specs.List.{AllByRecursion, find}
use Rattle.conf_types.specs.declared.state.NeighRec.{NeighRec}
use Rattle.conf_types.specs.Configuration.{Configuration}
use Rattle.conf_types.specs.Lists.{EachBefore}
use Rattle.conf_types.specs.State.{IsSameNeighbour}
use Rattle.neighbour_resolve.specs.declared.neighbour.Due.{Due}
use Rattle.neighbour_resolve.specs.declared.neighbour.Due.TheVariants.{Gone}
use Rattle.neighbour_resolve.specs.Due.{last_wait, never}
use Rattle.neighbour_resolve.specs.Runs.{At, LeavesAlone, Settles, asked_at, at, is_about}
use Rattle.neighbour_resolve.specs.Table.{is_same}

-- a settling: its moment, and what is said in it of neighbours that are due, until none is
pub record Settling : Type 0 where
  pub moment : ℕ
  pub said : List Due

-- one settling behind the other, while this neighbour is left alone between them
abbrev pub RunsOver : Configuration → NeighRec → (before : List NeighRec) → List Settling → (after : List NeighRec) → Type 0
RunsOver conf n before [] after = after ≡ before
RunsOver conf n before (s ∷ more) after =
    (settled next : List NeighRec) × Settles conf s.moment before s.said settled × LeavesAlone n settled next × RunsOver conf n next more after

-- what is said of it, and when
abbrev pub told_of : NeighRec → List Settling → List At
told_of n [] = []
told_of n (s ∷ more) = map (at s.moment) (filter (is_about n) s.said) ++ told_of n more

-- ---- when it is due

-- the moments from the first on that is at or behind this one
abbrev pub from : (due : ℕ) → List ℕ → List ℕ
from due [] = []
from due (moment ∷ more) = if nat_le due moment then moment ∷ more else from due more

-- what follows from the first moment and those behind it
abbrev pub with_first : {A : Type 0} → A → (ℕ → List ℕ → A) → List ℕ → A
with_first none f [] = none
with_first none f (moment ∷ more) = f moment more

-- an answer is waited for so long after each try
abbrev pub ten_waits : List ℕ
ten_waits = 1000 ∷ 2000 ∷ 4000 ∷ 8000 ∷ 16000 ∷ 32000 ∷ 64000 ∷ 64000 ∷ 64000 ∷ 64000 ∷ []

-- a try at the first moment at or behind that at which it is due, and the next one when the wait is over
abbrev pub tried_at : (waits : List ℕ) → (due : ℕ) → List ℕ → List ℕ
tried_at [] due moments = []
tried_at (wait ∷ waits) due moments = with_first [] (λ moment more. moment ∷ tried_at waits (moment + wait) more) (from due moments)

-- and when the last wait is over, at the first moment at or behind that, it is given up
abbrev pub given_up_at : (waits : List ℕ) → (due : ℕ) → List ℕ → List ℕ
given_up_at [] due moments = with_first [] (λ moment more. moment ∷ []) (from due moments)
given_up_at (wait ∷ waits) due moments = with_first [] (λ moment more. given_up_at waits (moment + wait) more) (from due moments)

-- ---- what is said

abbrev pub moments_of : List Settling → List ℕ
moments_of settlings = map (λ s. s.moment) settlings

-- all that is said of one that no route leads over
abbrev pub ten_tries : NeighRec → List ℕ → List At
ten_tries n moments = asked_at n (tried_at ten_waits n.due.0 moments) ++ map (λ moment. at moment (Gone n.group n.vid n.ip)) (given_up_at ten_waits n.due.0 moments)

-- a run of a neighbour that was not asked yet, in which no wait passes the greatest moment
pub record IsFirstRun (conf : Configuration) (n : NeighRec) (before : List NeighRec) (settlings : List Settling) (after : List NeighRec) : Type 0 where
  pub there : find (is_same n) before ≡ Some n
  pub keys : EachBefore (λ a b. IsSameNeighbour a b → ⊥) before
  pub not_asked : n.tries ≡ 0
  pub comes : n.due.0 < never
  pub run : RunsOver conf n before settlings after
  pub below : AllByRecursion (λ s. s.moment + last_wait < never) settlings
