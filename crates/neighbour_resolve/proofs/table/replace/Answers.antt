use Rattle.std.proofs.Common.{◌≡◌, Bool, true, false, cond, set, sym, ap, ◌∙◌, arith, if◌then◌else◌}
use Rattle.std.proofs.lemmas.List.Edits.{map_over_more}
use Rattle.conf_types.specs.declared.state.NeighRec.{NeighRec}
use Rattle.neighbour_resolve.specs.Table.{gives_way, stays}
use Rattle.neighbour_resolve.proofs.table.replace.Goals as goal
use Rattle.neighbour_resolve.proofs.table.replace.Goals.{then-gives_way, else-gives_way}

pub loop-neighbour-preserved : goal.loop-neighbour-preserved
loop-neighbour-preserved c =
    let told = c.args.told.now in
    let test = gives_way (stays c.args.leave_resolved) told in
    let ns = c.loop-neighbour.neighbours in
    let i = c.loop-neighbour.neighbour-index in
    let n = c.neighbour-item.result in
    let step = map_over_more (λ (x : NeighRec). if test x then told else x) c.args.neighbours.now ns i n (omega arith) c.loop-neighbour.invariant c.neighbour-item.is in
    let same = ap test c.neighbour-item.is ∙ sym c.gives_way.ensures in
    let written = λ (b : Bool). set ns i (cond b told n) in
    elim c.if-gives_way.branch [
      | then-gives_way w ↦ let is : test n ≡ true = same ∙ w.if-gives_way.true in w.neighbours-is ∙ ap written (sym is) ∙ step
      | else-gives_way w ↦ let is : test n ≡ false = same ∙ w.if-gives_way.false in w.neighbours-is ∙ ap (set ns i) (sym c.neighbour-item.is) ∙ ap written (sym is) ∙ step
    ]
