use Rattle.std.proofs.Common.{◌≡◌, [], drop, fold}
use Rattle.bgp_texts.specs.Taking.{take_one}
use Rattle.bgp_texts.proofs.taking.take_all.Given as goal

-- what is left leads to the whole
abbrev pub invariant-loop-route : goal.invariant-loop-route
invariant-loop-route l = fold (take_one l.vlan l.tree) l.taken (drop l.route-index l.routes) ≡ fold (take_one l.vlan l.tree) [] l.routes
