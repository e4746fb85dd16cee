use Rattle.std.proofs.Common.{◌≡◌, Bool, true, false, cond, get_or, set, sym, ap, ◌∙◌, arith}
use Rattle.std.proofs.lemmas.List.Edits.{map_over_more}
use Rattle.host_list.specs.declared.shelves.Shelf.{Shelf}
use Rattle.host_list.specs.Shelves.{is_above, lowered}
use Rattle.host_list.proofs.Lists.{same_item}
use Rattle.host_list.proofs.shelves.lower_each.Goals as goal
use Rattle.host_list.proofs.shelves.lower_each.Goals.{then-is_above, else-is_above}

pub loop-shelf-preserved : goal.loop-shelf-preserved
loop-shelf-preserved c =
    let heard = c.args.heard in
    let shelves = c.loop-shelf.shelves in
    let i = c.loop-shelf.shelf-index in
    let none : Shelf = record { dp = record { 0 = 0 }; least = record { 0 = 0 } } in
    let shelf : Shelf = get_or shelves i none in
    let step = map_over_more (lowered c.args.dp heard) c.args.shelves.now shelves i shelf (omega arith) c.loop-shelf.invariant (same_item shelves i none shelf (omega arith)) in
    let written = λ (b : Bool). set shelves i (cond b (record shelf { least = heard }) shelf) in
    elim c.if-is_above.branch [
      | then-is_above w ↦ let test : is_above c.args.dp heard shelf ≡ true = sym c.is_above.ensures ∙ w.if-is_above.true in w.shelves-is ∙ ap written (sym test) ∙ step
      | else-is_above w ↦ let test : is_above c.args.dp heard shelf ≡ false = sym c.is_above.ensures ∙ w.if-is_above.false in w.shelves-is ∙ ap written (sym test) ∙ step
    ]
