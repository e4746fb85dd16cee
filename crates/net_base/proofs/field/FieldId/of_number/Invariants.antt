use Rattle.std.proofs.Common.{◌≡◌, ℕ, ◌<◌, get_or}
use Rattle.net_base.specs.declared.field.FieldId.{FieldId}
use Rattle.net_base.specs.FieldId.{all_fields, number_of}
use Rattle.net_base.proofs.field.FieldId.of_number.Given as goal

abbrev pub invariant-loop-id : goal.invariant-loop-id
invariant-loop-id l = (k : ℕ) (d : FieldId) → k < l.id-index → number_of (get_or all_fields k d) ≡ l.number → ⊥
