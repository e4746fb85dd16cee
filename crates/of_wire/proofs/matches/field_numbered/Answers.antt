use Rattle.of_wire.proofs.FieldNames.{is_numbered}
use Rattle.of_wire.proofs.matches.field_numbered.Goals as goal

pub returns : goal.returns
returns c = is_numbered c.args.number c.of_number.result c.of_number.ensures.found c.of_number.ensures.none
