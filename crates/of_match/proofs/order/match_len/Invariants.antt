use Rattle.std.proofs.Common.{◌≡◌, ◌+◌, ◌*◌, ◌≤◌, take, sum_by}
use Rattle.of_match.specs.KeyOrder.{field_len}
use Rattle.of_match.proofs.order.match_len.Given as goal

abbrev pub invariant-loop-field : goal.invariant-loop-field
invariant-loop-field l = (l.total ≡ 4 + sum_by field_len (take l.field-index l.fields)) × (l.total ≤ 4 + 36 * l.field-index)
