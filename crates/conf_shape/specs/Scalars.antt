-- What is wrong with a value that is no list and no map, by what it has to be.
use Rattle.std.specs.Prelude.{ℕ, ◌-◌, ◌^◌, ℤ, pos, negsuc, Bool, true, false, ◌==◌, ◌&&◌, nat_le, nat_lt, if◌then◌else◌, List, length, codes, Option, Some, None}
use Rattle.std.specs.Str.{bytes_eq}
use Rattle.net_base.specs.declared.field.FieldId.{FieldId}
use Rattle.net_base.specs.declared.field.FieldId.TheVariants.{VlanVid}
use Rattle.net_base.specs.FieldId.{bits_of, may_be_masked}
use Rattle.conf_shape.specs.declared.refused.ConfCause.{ConfCause}
use Rattle.conf_shape.specs.declared.refused.ConfCause.TheVariants.{LeftOut, WrongType, OutOfRange}
use Rattle.conf_shape.specs.declared.kinds.Kind.{Kind}
use Rattle.conf_shape.specs.declared.kinds.Kind.TheVariants.{One, Several, OneOrSeveral, Given, Asked, Map, Maps, MapOrMaps}
use Rattle.conf_shape.specs.declared.kinds.TheConstants.{MOST_VID}
use Rattle.conf_shape.specs.declared.kinds.MapKind.{MapKind}
use Rattle.conf_shape.specs.declared.kinds.Scalar.{Scalar}
use Rattle.conf_shape.specs.declared.kinds.Scalar.TheVariants.{Flag, Number, Name, Words, Label, Reference, Permission, NoEffect, StationMac, MaskedMac, Vip, Destination, Gateway, Prefix, Address, Identifier, Passive}
use Rattle.conf_shape.specs.Addresses.{station_cause, masked_cause, vip_cause, destination_cause, gateway_cause, prefix_cause, address_cause, identifier_cause}

-- a cause where the test fails
abbrev pub unless : Bool → ConfCause → Option ConfCause
unless test cause = if test then None else Some cause

abbrev pub within : ℕ → ℕ → ℤ → Option ℕ
within low high (pos n) = if nat_le low n && nat_le n high then Some n else None
within low high (negsuc n) = None

abbrev pub if_within : Option ℕ → Option ConfCause
if_within (Some n) = None
if_within None = Some OutOfRange

abbrev pub is_name : List ℕ → Bool
is_name text = nat_le 1 (length text) && nat_le (length text) 255

-- of a flag
abbrev pub flag_fault : Scalar → Option ConfCause
flag_fault Flag = None
flag_fault Permission = None
flag_fault NoEffect = None
flag_fault _ = Some WrongType

-- of a whole number
abbrev pub number_fault : Scalar → ℤ → Option ConfCause
number_fault (Number low high) n = if_within (within low high n)
number_fault (Reference low high) n = if_within (within low high n)
number_fault Permission n = if_within (within 0 1 n)
number_fault Label n = None
number_fault NoEffect n = None
number_fault _ n = Some WrongType

-- of a text
abbrev pub text_fault : Scalar → List ℕ → Option ConfCause
text_fault Flag text = Some WrongType
text_fault (Number low high) text = Some WrongType
text_fault Permission text = Some WrongType
text_fault Name text = unless (is_name text) OutOfRange
text_fault Words text = None
text_fault Label text = None
text_fault (Reference low high) text = None
text_fault NoEffect text = None
text_fault StationMac text = station_cause text
text_fault MaskedMac text = masked_cause text
text_fault Vip text = vip_cause text
text_fault Destination text = destination_cause text
text_fault Gateway text = gateway_cause text
text_fault (Prefix width) text = prefix_cause width text
text_fault (Address width) text = address_cause width text
text_fault Identifier text = identifier_cause text
text_fault Passive text = unless (bytes_eq text (codes "passive")) LeftOut

-- what a rule's value for a field of so many bits has to be, where a mask may leave some out and where
-- not (OpenFlow 1.3, 7.2.3.7, table 12): an Ethernet address, one of IP, a number of less than 64 bits
abbrev pub bits_scalar : ℕ → Bool → Scalar
bits_scalar bits true = if bits == 48 then MaskedMac else Prefix bits
bits_scalar bits false = if nat_lt bits 64 then Number 0 (2 ^ bits - 1) else Address bits

-- by the field's row in the table of fields; a VLAN is asked for by its number
abbrev pub asked_scalar : FieldId → Scalar
asked_scalar VlanVid = Number 1 MOST_VID
asked_scalar id = bits_scalar (bits_of id) (may_be_masked id)

-- what a scalar, an item of a list, a map has to be where a value of a kind stands
abbrev pub scalar_kind : Kind → Option Scalar
scalar_kind (One scalar) = Some scalar
scalar_kind (OneOrSeveral scalar) = Some scalar
scalar_kind (Given low high) = Some (Number low high)
scalar_kind (Asked id) = Some (asked_scalar id)
scalar_kind _ = None

abbrev pub item_kind : Kind → Option Kind
item_kind (Several scalar) = Some (One scalar)
item_kind (OneOrSeveral scalar) = Some (One scalar)
item_kind (Maps m) = Some (Map m)
item_kind (MapOrMaps m) = Some (Map m)
item_kind _ = None

abbrev pub map_kind : Kind → Option MapKind
map_kind (Map m) = Some m
map_kind (MapOrMaps m) = Some m
map_kind _ = None

-- what is wrong where no scalar may stand, and else by the scalar
abbrev pub as_scalar : (Scalar → Option ConfCause) → Option Scalar → Option ConfCause
as_scalar fault None = Some WrongType
as_scalar fault (Some scalar) = fault scalar

abbrev pub flag_cause : Kind → Option ConfCause
flag_cause kind = as_scalar flag_fault (scalar_kind kind)

abbrev pub number_cause : Kind → ℤ → Option ConfCause
number_cause kind n = as_scalar (λ scalar. number_fault scalar n) (scalar_kind kind)

abbrev pub text_cause : Kind → List ℕ → Option ConfCause
text_cause kind text = as_scalar (λ scalar. text_fault scalar text) (scalar_kind kind)
