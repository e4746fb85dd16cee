-- Single fields of matches that a switch accepts (OpenFlow 1.3, 7.2.3.5 and 7.2.3.7).
use Rattle.std.specs.Prelude.{◌≡◌, ◌⊎◌, ◌^◌, ◌<◌, true, bit_and}
use Rattle.net_base.specs.declared.field.Field.{Field}
use Rattle.net_base.specs.FieldId.{bits_of, may_be_masked, all_ones}

-- the value has no bit beyond those of the field, nor one that the mask leaves out; the mask leaves
-- out none, or it is of the bits of a field that takes one
pub record IsMatchField (f : Field) : Type 0 where
  pub bits : f.value < 2 ^ bits_of f.id
  pub within : bit_and f.value f.mask ≡ f.value
  pub mask : (f.mask ≡ all_ones f.id) ⊎ ((may_be_masked f.id ≡ true) × (f.mask < 2 ^ bits_of f.id))
