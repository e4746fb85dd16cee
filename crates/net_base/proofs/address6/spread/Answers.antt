use Rattle.std.proofs.Common.{arith}
use Rattle.net_base.proofs.Sums.{top_product_fits, top_sum_fits}
use Rattle.net_base.proofs.address6.spread.Goals as goal

pub overflow_mul-result : goal.overflow_mul-result
overflow_mul-result c = let fits = top_product_fits c.args.front.0 c.args.front.1 (omega arith) (omega arith) c.requires.front in omega (arith, fits)

pub overflow_add-result : goal.overflow_add-result
overflow_add-result c =
    let fits = top_sum_fits c.args.front.0 c.args.front.1 (omega arith) (omega arith) c.requires.front c.args.back.0 c.args.back.1 (omega arith) c.requires.back in
    omega (arith, fits)
