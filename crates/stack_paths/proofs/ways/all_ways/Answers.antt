use Rattle.std.proofs.Common.{◌≡◌, ℕ, length, List, sym, subst, arith}
use Rattle.stack_paths.specs.declared.ways.Ways.{Ways}
use Rattle.stack_paths.specs.Hops.{AreWays, AllWays}
use Rattle.stack_paths.proofs.WaysLemmas.{each_push}
use Rattle.stack_paths.proofs.ways.all_ways.Goals as goal

pub loop-target-preserved : goal.loop-target-preserved
loop-target-preserved c =
    let hops = c.args.hops.now in
    let count = c.args.count in
    let ways = c.loop-target.ways in
    let one = c.in_ok-ways_to.field-0 in
    let size : c.loop-target.target ≡ length ways.items = omega (arith, c.loop-target.invariant.0, ways.ok.0) in
    let here = subst (λ (t : ℕ). AreWays hops count t one) size c.in_ok-ways_to.ensures in (
      omega (arith, c.in_ok-push.ensures.len, c.loop-target.invariant.0),
      subst (λ (xs : List Ways). AllWays hops count xs) (sym {A = List Ways} c.in_ok-push.ensures.items) (each_push (λ t w. AreWays hops count t w) ways.items one c.loop-target.invariant.1 here),
    )
