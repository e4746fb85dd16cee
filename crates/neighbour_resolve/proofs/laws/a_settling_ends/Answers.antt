use Rattle.std.proofs.Common.{arith, refl, count_by, find}
use Rattle.neighbour_resolve.specs.Due.{is_due}
use Rattle.neighbour_resolve.proofs.Alone.{ends, one_fewer}
use Rattle.neighbour_resolve.proofs.laws.a_settling_ends.Goals as goal

pub returns : goal.returns
returns c = record {
  fewer = one_fewer;
  ends = λ conf moment before. ends conf moment (count_by (is_due moment) before) before (find (is_due moment) before) refl (omega arith);
}
