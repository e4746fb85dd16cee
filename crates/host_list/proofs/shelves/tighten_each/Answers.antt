use Rattle.std.proofs.Common.{ap, ◌∙◌, get_or, set, arith}
use Rattle.std.proofs.lemmas.List.Edits.{map_over_more}
use Rattle.net_base.specs.declared.numbers.Moment.{Moment}
use Rattle.host_list.specs.declared.shelves.Shelf.{Shelf}
use Rattle.host_list.specs.Order.{tightened}
use Rattle.host_list.proofs.Lists.{same_item}
use Rattle.host_list.proofs.shelves.tighten_each.Goals as goal

pub loop-shelf-preserved : goal.loop-shelf-preserved
loop-shelf-preserved c =
    let shelves = c.loop-shelf.shelves in
    let i = c.loop-shelf.shelf-index in
    let none : Shelf = record { dp = record { 0 = 0 }; least = record { 0 = 0 } } in
    let shelf : Shelf = get_or shelves i none in
    ap (λ (m : Moment). set shelves i (record shelf { least = m })) c.tight-least.ensures
    ∙ map_over_more (tightened c.args.conf.now c.args.now.0 c.args.hosts.now.entries) c.args.shelves.now shelves i shelf (omega arith) c.loop-shelf.invariant (same_item shelves i none shelf (omega arith))
