use Rattle.std.proofs.Common.{◌≡◌, ◌++◌, map, take, drop}
use Rattle.host_list.specs.Order.{tightened}
use Rattle.host_list.proofs.shelves.tighten_each.Given as goal

abbrev pub invariant-loop-shelf : goal.invariant-loop-shelf
invariant-loop-shelf l = l.shelves ≡ map (tightened l.conf l.now.0 l.hosts.entries) (take l.shelf-index l.initial.shelves) ++ drop l.shelf-index l.initial.shelves
