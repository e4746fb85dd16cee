use Rattle.of_wire.proofs.Sorted.{fields_ascend, same_fields}
use Rattle.of_wire.proofs.laws.spelled_fields_are_in_order.Goals as goal

pub returns-clause-ascending : goal.returns-clause-ascending
returns-clause-ascending c = fields_ascend

pub returns-clause-same : goal.returns-clause-same
returns-clause-same c = same_fields
