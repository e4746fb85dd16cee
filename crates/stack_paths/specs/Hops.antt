use Rattle.std.specs.Prelude.{◌≡◌, ◌⊎◌, ◌<◌, ◌≤◌, ℕ, zero, suc, List, length, Option, Some, None, Contains, slice_index_or}
use Rattle.net_base.specs.declared.numbers.DpId.{DpId}
use Rattle.stack_paths.specs.declared.hops.Hop.{Hop}
use Rattle.stack_paths.specs.declared.ways.Ways.{Ways}
use Rattle.stack_paths.specs.Stack.{Stack, IsAt, HasLink}

-- what a list of answers has at a place: nothing past its end
abbrev pub answer_at : {X : Type 0} → List (Option X) → ℕ → Option X
answer_at answers i = slice_index_or answers i None

-- the hops are the links of the stack, once in each direction, by the places of their datapaths
pub record IsHops (s : Stack) (hops : List Hop) : Type 0 where
  pub sound : (h : Hop) → Contains hops h → (d : DpId) × (e : DpId) × IsAt s h.from d × IsAt s h.to e × HasLink s d h.port e h.far_port
  pub complete : (d : DpId) (p : ℕ) (e : DpId) (q : ℕ) → HasLink s d p e q → (h : Hop) × Contains hops h × IsAt s h.from d × IsAt s h.to e × (h.port ≡ p) × (h.far_port ≡ q)

-- a walk of n hops from place i to the target
abbrev pub WalkAt : List Hop → ℕ → ℕ → ℕ → Type 0
WalkAt hops target i zero = i ≡ target
WalkAt hops target i (suc n) = (h : Hop) × Contains hops h × (h.from ≡ i) × WalkAt hops target h.to n

-- `new` marks, beside all that `old` does, each place from which a hop leads to one at `level`
pub record Spreads (hops : List Hop) (level : ℕ) (old new : List (Option ℕ)) : Type 0 where
  pub keeps : (i n : ℕ) → answer_at old i ≡ Some n → answer_at new i ≡ Some n
  pub adds : (i n : ℕ) → answer_at new i ≡ Some n → (answer_at old i ≡ Some n) ⊎ ((n ≡ suc level) × ((h : Hop) × Contains hops h × (h.from ≡ i) × (answer_at old h.to ≡ Some level)))
  pub marks : (h : Hop) → Contains hops h → answer_at old h.to ≡ Some level → (n : ℕ) × (answer_at new h.from ≡ Some n)

-- the marks are the distances to the target
pub record AreDistances (hops : List Hop) (target : ℕ) (marks : List (Option ℕ)) : Type 0 where
  pub walk : (i n : ℕ) → answer_at marks i ≡ Some n → WalkAt hops target i n
  pub least : (i m : ℕ) → WalkAt hops target i m → (n : ℕ) × (n ≤ m) × (answer_at marks i ≡ Some n)

-- the hop leads one nearer, by the distances
abbrev pub LeadsDown : List (Option ℕ) → Hop → Type 0
LeadsDown distances h = (n : ℕ) × (answer_at distances h.from ≡ Some (suc n)) × (answer_at distances h.to ≡ Some n)

-- the hop g is chosen before h or is as good: first by the place that it leads to, then by its own port
abbrev pub ComesBefore : Hop → Hop → Type 0
ComesBefore g h = (g.to < h.to) ⊎ ((g.to ≡ h.to) × (g.port ≤ h.port))

-- of each place the first hop that leads one nearer
pub record AreFirst (hops : List Hop) (distances : List (Option ℕ)) (best : List (Option Hop)) : Type 0 where
  pub sound : (i : ℕ) (g : Hop) → answer_at best i ≡ Some g → Contains hops g × (g.from ≡ i) × LeadsDown distances g
  pub first : (h : Hop) → Contains hops h → LeadsDown distances h → (g : Hop) × (answer_at best h.from ≡ Some g) × ComesBefore g h

-- the distances to a target of `count` places, and the first hop of each
pub record AreWays (hops : List Hop) (count target : ℕ) (ways : Ways) : Type 0 where
  pub distances_len : length ways.distances.items ≡ count
  pub hops_len : length ways.hops.items ≡ count
  pub distances : AreDistances hops target ways.distances.items
  pub first : AreFirst hops ways.distances.items ways.hops.items

-- the same for each place as the target
abbrev pub AllWays : List Hop → ℕ → List Ways → Type 0
AllWays hops count ways = (t : ℕ) (d : Ways) → t < length ways → AreWays hops count t (slice_index_or ways t d)
