use Rattle.std.proofs.Common.{◌≡◌, ℕ, ◌+◌, ◌*◌, ◌≤◌, Bool, true, false, cond, sym, ap, ◌∙◌, arith}
use Rattle.of_wire.specs.Numbers.{number_in}
use Rattle.net_base.specs.declared.field.FieldId.{FieldId}
use Rattle.net_base.specs.FieldId.{byte_len_of}
use Rattle.of_wire.proofs.actions.read_set_named.Goals as goal

plain_len : (b : Bool) (id : FieldId) (n : ℕ) → b ≡ false → 4 + byte_len_of id ≤ n → 4 + cond b (2 * byte_len_of id) (byte_len_of id) ≤ n
plain_len true id n e h = absurd cc
plain_len false id n e h = h

pub field_value-requires : goal.field_value-requires
field_value-requires c = plain_len _ c.in-Some.id _ (sym c.has_mask.ensures ∙ c.if-has_mask.false) (omega (arith, c.in_ok-taken.ensures.taken.0, c.in_ok-taken.ensures.taken.1, c.split_at.ensures.back_len, c.byte_len-field_len.ensures, ap (number_in 3 1) c.split_at.ensures.back, c.u8_at.ensures, c.from.ensures, c.requires.least))

pub returns-clause-taken : goal.returns-clause-taken
returns-clause-taken c = (omega (arith, c.in_ok-taken.ensures.taken.0), c.in_ok-taken.ensures.taken.1)
