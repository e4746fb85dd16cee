use Rattle.std.proofs.Common.{refl}
use Rattle.law_rows.proofs.rows.known_sources.Goals as goal

pub returns : goal.returns
returns c = record {
  fresh = refl;
  stale = refl;
  stays_elsewhere = refl;
  elsewhere = refl;
}
