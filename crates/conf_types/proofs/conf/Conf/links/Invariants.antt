use Rattle.std.proofs.Common.{◌≡◌, take}
use Rattle.std.specs.List.{flat_map}
use Rattle.conf_types.specs.Links.{links_of}
use Rattle.conf_types.proofs.conf.Conf.links.Given as goal

-- the links so far are those that begin on the datapaths so far
abbrev pub invariant-loop-dp : goal.invariant-loop-dp
invariant-loop-dp l = l.made ≡ flat_map (links_of l.self l.ups) (take l.dp-index l.dp-items)
