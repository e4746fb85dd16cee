use Rattle.std.proofs.Common.{◌≡◌, take, filter}
use Rattle.std.specs.List.{reduce}
use Rattle.packet_way.specs.Routes.{item_holds, longer}
use Rattle.packet_way.proofs.routes.longest.Given as goal

-- the longest of the items so far
abbrev pub invariant-loop-item : goal.invariant-loop-item
invariant-loop-item l = l.best ≡ reduce longer (filter (item_holds l.ip) (take l.item-index l.items))
