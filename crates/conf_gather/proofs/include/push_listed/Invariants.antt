use Rattle.std.proofs.Common.{◌≡◌, ◌++◌, drop, map}
use Rattle.conf_shape.specs.Reads.{words_of}
use Rattle.conf_gather.specs.Includes.{included_as}
use Rattle.conf_gather.proofs.include.push_listed.Given as goal

-- those of what is left complete the list
abbrev pub invariant-loop-item : goal.invariant-loop-item
invariant-loop-item l = l.made ++ map (included_as l.role l.including) (map words_of (drop l.item-index l.items)) ≡ l.fn.made ++ map (included_as l.role l.including) (map words_of l.items)
