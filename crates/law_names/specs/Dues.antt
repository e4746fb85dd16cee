-- The change that names a neighbour that is due.
use Rattle.neighbour_resolve.specs.declared.neighbour.Due.{Due}
use Rattle.neighbour_resolve.specs.declared.neighbour.Due.TheVariants.{Ask, Gone}
use Rattle.conf_types.specs.declared.change.Change.{Change}
use Rattle.conf_types.specs.declared.change.Change.TheVariants as change

-- one that is asked once more may be one that isn't known any more; one that is given up goes
abbrev pub due : Due → Change
due (Ask group vid ip) = change.Neighbour group vid ip
due (Gone group vid ip) = change.Neighbour group vid ip
