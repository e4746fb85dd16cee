use Rattle.std.proofs.Common.{arith}
use Rattle.net_base.proofs.Sums.{product_fits, sum_fits, sum_below}
use Rattle.net_base.proofs.address6.in_front.Goals as goal

pub overflow_mul-result : goal.overflow_mul-result
overflow_mul-result c = let fits = product_fits c.from.result c.args.others.0 c.args.others.1 (omega arith) c.requires.few in omega (arith, fits)

pub overflow_add-result : goal.overflow_add-result
overflow_add-result c = let fits = sum_fits c.from.result c.args.others.0 c.args.others.1 (omega arith) c.requires.few c.requires.fits in omega (arith, fits)

pub returns-clause-fits : goal.returns-clause-fits
returns-clause-fits c = sum_below c.from.result c.args.others.0 c.args.others.1 (omega arith) c.requires.few c.requires.fits
