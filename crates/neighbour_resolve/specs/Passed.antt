-- How far the neighbours were gone through at a moment.
use Rattle.std.specs.Prelude.{◌≡◌, List, false, take}
use Rattle.std.specs.List.{list_any}
use Rattle.conf_types.specs.declared.state.NeighRec.{NeighRec}
use Rattle.neighbour_resolve.specs.declared.passed.Passed.{Passed}
use Rattle.neighbour_resolve.specs.Due.{is_due}

-- none of the first ones is due
abbrev pub AreWaiting : Passed → List NeighRec → Type 0
AreWaiting passed neighbours = list_any (is_due passed.moment.0) (take passed.count neighbours) ≡ false
