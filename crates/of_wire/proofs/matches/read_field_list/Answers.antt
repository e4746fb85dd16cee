use Rattle.std.proofs.Common.{length, [], arith}
use Rattle.std.proofs.lemmas.Result.{err_from_is_err_and}
use Rattle.of_wire.specs.Reading.{field_step, many}
use Rattle.of_wire.proofs.Many.{way_starts, way_goes, ends, is_done, is_some, is_none}
use Rattle.of_wire.proofs.matches.read_field_list.Goals as goal

pub loop-rest-init : goal.loop-rest-init
loop-rest-init c = rw c.new-fields.ensures (way_starts (field_step c.args.strict c.args.past) [] c.args.at c.args.bytes.now)

pub returns-in_err-taken-clause-exact : goal.returns-in_err-taken-clause-exact
returns-in_err-taken-clause-exact c =
    let p = err_from_is_err_and c.from_residual.result c.from_residual.ensures.1 in
    rw (p.1, p.2) (ends (field_step c.args.strict c.args.past) (many (field_step c.args.strict c.args.past) (length c.args.bytes.now) [] c.args.at c.args.bytes.now) c.loop-rest.fields c.loop-rest.place c.loop-rest.rest.now c.in_err-taken.field-0.0
    (is_some c.loop-rest.rest.now (c.loop-rest-test.ensures)) c.in_err-taken.ensures.exact c.loop-rest.invariant.left)

pub loop-rest-preserved : goal.loop-rest-preserved
loop-rest-preserved c =
    rw c.split_at.ensures.back (way_goes (field_step c.args.strict c.args.past) (many (field_step c.args.strict c.args.past) (length c.args.bytes.now) [] c.args.at c.args.bytes.now) c.args.at c.args.bytes.now c.loop-rest.fields c.loop-rest.place c.loop-rest.rest.now (c.take_field.new.fields, c.in_ok-taken.taken)
    (is_some c.loop-rest.rest.now c.loop-rest-test.ensures) (omega (arith, c.in_ok-taken.ensures.taken.0)) c.in_ok-taken.ensures.taken.1 c.in_ok-taken.ensures.exact c.loop-rest.invariant)

pub returns-clause-exact : goal.returns-clause-exact
returns-clause-exact c = is_done (field_step c.args.strict c.args.past) (many (field_step c.args.strict c.args.past) (length c.args.bytes.now) [] c.args.at c.args.bytes.now) c.loop-rest.fields c.loop-rest.place c.loop-rest.rest.now (is_none c.loop-rest.rest.now c.loop-rest-test.ensures) c.loop-rest.invariant.left
