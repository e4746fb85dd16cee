use Rattle.std.proofs.Common.{refl}
use Rattle.law_rows.proofs.rows.dropped_at_once.Goals as goal

pub returns : goal.returns
returns c = record {
  drops = refl;
  groups = refl;
  passes = refl;
}
