use Rattle.std.proofs.Common.{refl}
use Rattle.law_rows.proofs.rows.other_sources.Goals as goal

pub returns : goal.returns
returns c = record {
  copied = refl;
  full = refl;
  taken = refl;
}
