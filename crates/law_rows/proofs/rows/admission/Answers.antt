use Rattle.std.proofs.Common.{refl}
use Rattle.law_rows.proofs.rows.admission.Goals as goal

pub returns : goal.returns
returns c = record {
  native = refl;
  tagged = refl;
  stack = refl;
  mirror = refl;
}
