use Rattle.std.proofs.Common.{arith}
use Rattle.prom_text.proofs.rows.fits_key.Goals as goal

pub returns : goal.returns
returns c = λ i. omega (arith, c.type_inv.key i)
