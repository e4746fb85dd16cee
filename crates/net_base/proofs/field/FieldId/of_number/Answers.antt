use Rattle.std.proofs.Common.{◌≡◌, length, ap, ◌∙◌, arith}
use Rattle.net_base.specs.FieldId.{all_fields, number_of}
use Rattle.net_base.proofs.Rows.{is_listed}
use Rattle.net_base.proofs.field.FieldId.of_number.Goals as goal

pub returns-clause-none : goal.returns-clause-none
returns-clause-none c id e =
    let m = is_listed id in
    let whole : length c.all_fields-id-items.result.now ≡ length all_fields = ap length c.all_fields-id-items.ensures in
    let passed = c.loop-id-test.false in
    c.loop-id.invariant m.0 id (omega (arith, m.1, whole, passed)) (ap number_of m.2 ∙ e)
