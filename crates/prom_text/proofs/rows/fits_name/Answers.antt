use Rattle.std.proofs.Common.{ℕ, List, ◌<◌, ◌^◌, get_or, subst, arith}
use Rattle.prom_text.proofs.rows.fits_name.Goals as goal

pub returns : goal.returns
returns c = record {
  table = omega arith;
  priority = omega arith;
  key = subst (λ (l : List ℕ). (i : ℕ) → get_or l i 0 < 2 ^ 8) c.as_slice.ensures c.fits_key.ensures;
}
