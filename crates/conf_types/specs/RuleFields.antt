-- What the fields of a rule may ask: values as in a match (OpenFlow 1.3, 7.2.3.7), with a mask only
-- where one can be written.
use Rattle.std.specs.Prelude.{◌≡◌, ◌+◌, ◌-◌, ◌%◌, ◌^◌, ◌<◌, ◌≤◌, ◌==◌, ℕ, Bool, true, false, bit_and}
use Rattle.net_base.specs.declared.field.Field.{Field}
use Rattle.net_base.specs.declared.field.FieldId.{FieldId}
use Rattle.net_base.specs.declared.field.FieldId.TheVariants.{InPort, VlanVid}
use Rattle.net_base.specs.FieldId.{bits_of, may_be_masked, all_ones}

-- a whole number in a range, no bit of it masked out
pub record IsNumber (least most : ℕ) (f : Field) : Type 0 where
  pub from : least ≤ f.value
  pub to : f.value ≤ most
  pub whole : f.mask ≡ all_ones f.id

-- an address with a mask: some bits count, and the others are zero
pub record IsMasked (bits : ℕ) (f : Field) : Type 0 where
  pub some : 1 ≤ f.mask
  pub most : f.mask < 2 ^ bits
  pub within : bit_and f.value f.mask ≡ f.value

-- a network with a prefix of 1 bit or more: the others are zero
pub record IsPrefix (bits : ℕ) (f : Field) : Type 0 where
  pub host_bits : ℕ
  pub long : host_bits < bits
  pub mask : f.mask ≡ 2 ^ bits - 2 ^ host_bits
  pub most : f.value < 2 ^ bits
  pub zeros : f.value % 2 ^ host_bits ≡ 0

-- an Ethernet address has a mask of any bits, an IP address a prefix
abbrev pub IsAddress : Bool → ℕ → Field → Type 0
IsAddress true bits f = IsMasked bits f
IsAddress false bits f = IsPrefix bits f

-- what a field of so many bits may be asked for, where a mask may leave some out and where not
abbrev pub MayAskBits : ℕ → Bool → Field → Type 0
MayAskBits bits true f = IsAddress (bits == 48) bits f
MayAskBits bits false f = IsNumber 0 (2 ^ bits - 1) f

-- what each field may be asked for, by its row in the table of fields; a port is none of them, and of a
-- VLAN a tag is asked for, with no mask
abbrev pub MayAsk : FieldId → Field → Type 0
MayAsk InPort f = ⊥
MayAsk VlanVid f = IsNumber (0x1000 + 1) (0x1000 + 4094) f
MayAsk id f = MayAskBits (bits_of id) (may_be_masked id) f
