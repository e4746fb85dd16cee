use Rattle.std.proofs.Common.{◌≡◌, ◌++◌, take}
use Rattle.std.specs.List.{filter_map}
use Rattle.conf_types.specs.Links.{link_from}
use Rattle.conf_types.proofs.links.add_links.Given as goal

-- the links so far are those that begin at the interfaces so far
abbrev pub invariant-loop-port : goal.invariant-loop-port
invariant-loop-port l = l.made ≡ l.fn.made ++ filter_map (link_from l.conf l.ups l.dp) (take l.port-index l.port-items)
