use Rattle.std.proofs.Common.{◌≡◌, ◌++◌, map, filter, take}
use Rattle.route_compile.specs.Routes.{item_entry, is_item_of}
use Rattle.route_compile.proofs.routes.push_items.Given as goal

-- those of the family's items so far
abbrev pub invariant-loop-item : goal.invariant-loop-item
invariant-loop-item l = l.out ≡ l.fn.out ++ map (item_entry l.family l.vlan) (filter (is_item_of l.family) (take l.item-index l.items))
