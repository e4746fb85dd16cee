use Rattle.std.proofs.Common.{◌≡◌, ◌≤◌, inl, ap, ◌∙◌, arith}
use Rattle.std.specs.Prelude.{min}
use Rattle.neighbour_resolve.specs.Due.{never}
use Rattle.ctl_settle.specs.Rest.{neighbours_until, rests_until}
use Rattle.ctl_settle.proofs.Until.{bounds_rest, less_bounded, rests_so_long, shorter_rest}
use Rattle.ctl_settle.proofs.resting.rests_at_least.Goals as goal

pub returns-then-world-least-clause-bound : goal.returns-then-world-least-clause-bound
returns-then-world-least-clause-bound c =
    let w = c.args.world.now in
    let neighbours = c.neighbours_until.ensures ∙ ap neighbours_until c.list.ensures.value in
    let same : c.min-least.result ≡ min c.args.bound (neighbours_until w.neighbours.neighbours) = c.min-least.ensures ∙ ap (min c.args.bound) neighbours in
    let most : c.min-least.result ≤ never = omega (arith, same, c.ranges.bound.fits) in
    let less : c.min-least.result ≤ c.args.bound = omega (arith, same) in
    record {
      least = bounds_rest w c.min-least.result most (less_bounded w c.args.bound c.min-least.result less c.requires) (omega (arith, same));
      ahead = inl c.if-world-least.true;
    }

pub returns-then-world-least-clause-rests : goal.returns-then-world-least-clause-rests
returns-then-world-least-clause-rests c =
    let w = c.args.world.now in
    let neighbours = c.neighbours_until.ensures ∙ ap neighbours_until c.list.ensures.value in
    let same : c.min-least.result ≡ min c.args.bound (neighbours_until w.neighbours.neighbours) = c.min-least.ensures ∙ ap (min c.args.bound) neighbours in
    let most : c.min-least.result ≤ never = omega (arith, same, c.ranges.bound.fits) in
    let less : c.min-least.result ≤ c.args.bound = omega (arith, same) in
    let least = bounds_rest w c.min-least.result most (less_bounded w c.args.bound c.min-least.result less c.requires) (omega (arith, same)) in
    λ rests. shorter_rest w c.min-least.result (rests_until w) least (rests_so_long w rests)
