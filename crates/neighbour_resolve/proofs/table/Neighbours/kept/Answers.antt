use Rattle.std.proofs.Common.{◌≡◌, ◌++◌, List, sym, ap, ◌∙◌, arith, subst}
use Rattle.conf_types.specs.declared.state.NeighRec.{NeighRec}
use Rattle.neighbour_resolve.specs.Kept.{kept_neighbours}
use Rattle.neighbour_resolve.specs.Table.{IsTable}
use Rattle.neighbour_resolve.proofs.Keys.{kept_table}
use Rattle.neighbour_resolve.proofs.table.Neighbours.kept.Goals as goal

pub invariant_of-result : goal.invariant_of-result
invariant_of-result c =
    let conf = c.args.conf.now in
    let running = c.args.running.now in
    let limit = c.self.inside.limit in
    let ns = c.self.inside.neighbours.items in
    let made : c.extend_from_slice.new.self.items ≡ kept_neighbours conf running ns =
    c.in_ok-extend_from_slice.ensures.items ∙ ap (λ front. front ++ c.as_slice-2.result.now) c.in_ok-neighbours.ensures.items ∙ c.as_slice-2.ensures.value ∙ c.in_ok-kept.ensures ∙ ap (kept_neighbours conf running) c.as_slice.ensures.value in (
      subst (λ (list : List NeighRec). IsTable (record { limit = limit; neighbours = list })) (sym made) (kept_table conf running limit ns c.self.invariant.0.within),
      omega (arith, c.in_ok-neighbours.ensures.exact, c.in_ok-extend_from_slice.ensures.capacity),
      c.none.ensures c.extend_from_slice.new.self.items,
    )
