-- All that differs between two states, whatever led from the one to the other.
use Rattle.std.specs.Prelude.{◌≡◌, ℕ, List, ◌++◌, map}
use Rattle.std.specs.List.{AllByRecursion}
use Rattle.conf_types.specs.Configuration.{Configuration}
use Rattle.conf_types.specs.State.{State, is_fresh}
use Rattle.conf_types.specs.declared.change.Change.{Change}
use Rattle.conf_types.specs.declared.change.Change.TheVariants as change
use Rattle.law_names.specs.Differing.{differing, host, neighbour}

-- what a state has, by the changes that name it
abbrev pub parts_of : Configuration → State → List Change
parts_of conf s =
    map (host conf) s.hosts ++ (map (λ up. change.Port up.dp up.port) s.ups ++ (map (λ dp. change.Dp dp) s.running ++ map neighbour s.neighbours))

-- what differs is of something that is in one of them; some may be there twice
abbrev pub differences : Configuration → (old new : State) → List Change
differences conf old new = differing conf old new (parts_of conf old ++ parts_of conf new)

-- at this moment the hosts of the state are as fresh as at its own
abbrev pub AreAsFresh : Configuration → State → (moment : ℕ) → Type 0
AreAsFresh conf s moment = AllByRecursion (λ h. is_fresh conf moment h ≡ is_fresh conf s.moment h) s.hosts
