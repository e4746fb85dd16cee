use Rattle.std.proofs.Common.{◌≡◌, ◌<◌, ℕ, length, List, Vec, Global, sym, subst, arith}
use Rattle.std.specs.Prelude.{slice_index_or}
use Rattle.stack_paths.specs.Trees.{IsTreeOf}
use Rattle.stack_paths.proofs.WaysLemmas.{each_push}
use Rattle.stack_paths.proofs.tree.trees_of.Goals as goal

pub loop-place-preserved : goal.loop-place-preserved
loop-place-preserved c =
    let uplinks = c.args.uplinks.now in
    let trees = c.loop-place.trees in
    let one = c.in_ok-tree_at.field-0 in
    let P : ℕ → Vec ℕ Global → Type 0 = λ i v. IsTreeOf uplinks i v.items in
    let size : c.loop-place.place ≡ length trees.items = omega (arith, c.loop-place.invariant.0, trees.ok.0) in
    let here = subst (λ (t : ℕ). P t one) size c.in_ok-tree_at.ensures in (
      omega (arith, c.in_ok-push.ensures.len, c.loop-place.invariant.0),
      subst (λ (xs : List (Vec ℕ Global)). (i : ℕ) (d : Vec ℕ Global) → i < length xs → P i (slice_index_or xs i d)) (sym {A = List (Vec ℕ Global)} c.in_ok-push.ensures.items) (each_push P trees.items one c.loop-place.invariant.1 here),
    )
