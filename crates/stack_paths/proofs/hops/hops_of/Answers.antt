use Rattle.std.proofs.Common.{◌<◌, length, take, arith}
use Rattle.stack_paths.proofs.HopsLemmas.{IsHops-push, places_within}
use Rattle.stack_paths.proofs.hops.hops_of.Goals as goal

pub loop-link-preserved : goal.loop-link-preserved
loop-link-preserved c =
    let nodes = c.args.nodes.now in
    let links = c.args.links.now in
    let i = c.loop-link.link-index in
    let link = c.link-item.result in
    let within : i < length links = omega arith in
    rw (c.in_ok-push-2.ensures.items, c.in_ok-push.ensures.items)
    (IsHops-push nodes links i link within c.link-item.is c.loop-link.hops.items c.loop-link.invariant c.known_place-a.result c.known_place-b.result c.known_place-a.ensures c.known_place-b.ensures)

pub returns-clause-places : goal.returns-clause-places
returns-clause-places c = places_within (record { nodes = c.args.nodes.now; links = take c.loop-link.link-index c.args.links.now }) c.loop-link.hops.items c.loop-link.invariant
