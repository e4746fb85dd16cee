use Rattle.std.proofs.Common.{take}
use Rattle.stack_paths.specs.Hops.{IsHops}
use Rattle.stack_paths.proofs.hops.hops_of.Given as goal

abbrev pub invariant-loop-link : goal.invariant-loop-link
invariant-loop-link l = IsHops (record { nodes = l.nodes; links = take l.link-index l.links }) l.hops.items
