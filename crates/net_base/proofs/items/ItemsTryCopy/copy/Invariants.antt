use Rattle.std.proofs.Common.{◌≡◌, take}
use Rattle.net_base.proofs.items.ItemsTryCopy.copy.Given as goal

-- what is made so far is the front of the list
abbrev pub invariant-loop-item : goal.invariant-loop-item
invariant-loop-item g l = l.made ≡ take l.item-index l.item-items
