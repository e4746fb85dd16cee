use Rattle.std.proofs.Common.{◌<◌, ◌==◌, not, filter, find, length, refl, sym, ap, ◌∙◌, subst, eq-eqb}
use Rattle.conf_types.specs.declared.state.NeighRec.{NeighRec}
use Rattle.neighbour_resolve.specs.Table.{Table}
use Rattle.ctl_world.specs.Ends.{is_reached}
use Rattle.ctl_world.proofs.Leaving.{fewer, left, none_left, reached_alike}
use Rattle.ctl_world.proofs.ends.forget_neighbours.Goals as goal

pub loop-neighbour-smaller : goal.loop-neighbour-smaller
loop-neighbour-smaller c =
    let n = c.in-Some.neighbour in
    let keep = is_reached c.args.conf.now c.args.running.now in
    subst (λ (t : Table). length t.neighbours < length c.loop-neighbour.neighbours.neighbours) (sym c.forget_group.ensures)
    (fewer keep (λ (m : NeighRec). m.group.0 == n.group.0) n (eq-eqb n.group.0 n.group.0 refl) (reached_alike c.args.conf.now c.args.running.now n) c.loop-neighbour.neighbours.neighbours
    (c.in-Some.ensures ∙ ap (find (λ m. not (keep m))) c.list.ensures.value))

pub loop-neighbour-preserved : goal.loop-neighbour-preserved
loop-neighbour-preserved c =
    let n = c.in-Some.neighbour in
    let keep = is_reached c.args.conf.now c.args.running.now in
    ap (λ (t : Table). record t { neighbours = filter keep t.neighbours }) c.forget_group.ensures
    ∙ ap (λ ns. record c.loop-neighbour.neighbours { neighbours = ns })
    (left keep (λ (m : NeighRec). m.group.0 == n.group.0) n (eq-eqb n.group.0 n.group.0 refl) (reached_alike c.args.conf.now c.args.running.now n) c.loop-neighbour.neighbours.neighbours
    (c.in-Some.ensures ∙ ap (find (λ m. not (keep m))) c.list.ensures.value))
    ∙ c.loop-neighbour.invariant

pub returns : goal.returns
returns c =
    let keep = is_reached c.args.conf.now c.args.running.now in
    ap (λ ns. record c.loop-neighbour.neighbours { neighbours = ns }) (sym (none_left keep c.loop-neighbour.neighbours.neighbours (c.in_default.ensures ∙ ap (find (λ m. not (keep m))) c.list.ensures.value))) ∙ c.loop-neighbour.invariant
