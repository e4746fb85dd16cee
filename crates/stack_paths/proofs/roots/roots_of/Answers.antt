use Rattle.std.proofs.Common.{◌≡◌, ◌<◌, ℕ, length, List, Option, sym, subst, arith}
use Rattle.std.proofs.lemmas.List.{get_or_default}
use Rattle.stack_paths.specs.declared.ways.Ways.{Ways}
use Rattle.stack_paths.specs.Trees.{IsRootPlace, IsRootOf, AreRoots}
use Rattle.stack_paths.proofs.WaysLemmas.{each_push}
use Rattle.stack_paths.proofs.roots.roots_of.Goals as goal

pub loop-place-preserved : goal.loop-place-preserved
loop-place-preserved c =
    let nodes = c.args.nodes.now in
    let ways = c.args.ways.now in
    let roots = c.loop-place.roots in
    let place = c.loop-place.place in
    let r = c.root_among.result in
    let within : place < length ways = omega (arith, c.requires.size) in
    let size : place ≡ length roots.items = omega (arith, c.loop-place.invariant.0, roots.ok.0) in
    let of_way = subst (λ (xs : List (Option ℕ)). IsRootPlace nodes xs r) c.as_slice.ensures.value c.root_among.ensures.root in
    let root : IsRootOf nodes ways place r = (c.root_among.ensures.within, λ d. subst (λ (w : Ways). IsRootPlace nodes w.distances.items r) (get_or_default ways place c.index-ways-place.result d within) of_way) in
    let here = subst (λ (t : ℕ). IsRootOf nodes ways t r) size root in (
      omega (arith, c.in_ok-push.ensures.len, c.loop-place.invariant.0),
      subst (λ (xs : List ℕ). AreRoots nodes ways xs) (sym {A = List ℕ} c.in_ok-push.ensures.items) (each_push (λ t x. IsRootOf nodes ways t x) roots.items r c.loop-place.invariant.1 here),
    )
