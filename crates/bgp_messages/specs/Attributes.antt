-- Path attributes (RFC 4271, 4.3 and 5), and what is wrong with one (6.3).
use Rattle.std.specs.Prelude.{◌≡◌, ℕ, ◌+◌, ◌≤◌, ◌&&◌, ◌||◌, not, ◌==◌, nat_lt, Bool, if◌then◌else◌, List, [], ◌∷◌, ◌++◌, length, take, drop, slice_index, Option, Some, None}
use Rattle.std.specs.List.{list_any, find}
use Rattle.std.specs.Option.{option_or}
use Rattle.bgp_messages.specs.declared.attribute.Attribute.{Attribute}
use Rattle.bgp_messages.specs.declared.fault.Fault.{Fault}
use Rattle.bgp_messages.specs.declared.fault.Fault.TheVariants.{MalformedAttributeList, UnrecognizedWellKnownAttribute, AttributeFlagsError, AttributeLengthError, InvalidOriginAttribute, MalformedAsPath}
use Rattle.bgp_messages.specs.Numbers.{number_in, has_bit}
use Rattle.bgp_messages.specs.Grammar.{Begins}

-- the flags: optional, transitive, and extended length, with which the length has two bytes
abbrev pub is_optional : ℕ → Bool
is_optional flags = has_bit 128 flags

abbrev pub is_transitive : ℕ → Bool
is_transitive flags = has_bit 64 flags

abbrev pub length_octets : ℕ → ℕ
length_octets flags = if has_bit 16 flags then 2 else 1

-- flags, type, length, value
pub record SpellsAttribute (a : Attribute) (bytes : List ℕ) : Type 0 where
  pub flags : number_in 0 1 bytes ≡ a.flags
  pub kind : number_in 1 1 bytes ≡ a.kind
  pub len : number_in 2 (length_octets a.flags) bytes ≡ length a.value
  pub value : drop (2 + length_octets a.flags) bytes ≡ a.value
  pub size : length bytes ≡ 2 + length_octets a.flags + length a.value

-- the types: 1 ORIGIN, 2 AS_PATH, 3 NEXT_HOP, 4 MULTI_EXIT_DISC, 5 LOCAL_PREF, 6 ATOMIC_AGGREGATE, 7 AGGREGATOR
abbrev pub is_recognized : ℕ → Bool
is_recognized kind = nat_lt 0 kind && nat_lt kind 8

-- the types that have to come with a route
abbrev pub is_mandatory : ℕ → Bool
is_mandatory kind = nat_lt 0 kind && nat_lt kind 4

abbrev pub has_wrong_flags : Attribute → Bool
has_wrong_flags a = is_mandatory a.kind && (is_optional a.flags || not (is_transitive a.flags))

abbrev pub has_wrong_length : Attribute → Bool
has_wrong_length a =
    (a.kind == 1 && not (length a.value == 1)) || (nat_lt 2 a.kind && nat_lt a.kind 6 && not (length a.value == 4))

abbrev pub is_of : ℕ → Attribute → Bool
is_of kind a = a.kind == kind

abbrev pub has_kind : ℕ → List Attribute → Bool
has_kind kind attributes = list_any (is_of kind) attributes

-- the first thing that is wrong with an attribute behind others; whether the value of AS_PATH is a path
-- is told
abbrev pub attribute_fault : (is_path : Bool) → List Attribute → Attribute → Option Fault
attribute_fault is_path before a =
    if has_kind a.kind before then Some MalformedAttributeList else (
    if not (is_recognized a.kind) && not (is_optional a.flags) then Some UnrecognizedWellKnownAttribute else (
    if has_wrong_flags a then Some AttributeFlagsError else (
    if has_wrong_length a then Some AttributeLengthError else (
    if a.kind == 1 && nat_lt 2 (slice_index a.value 0) then Some InvalidOriginAttribute else (
    if a.kind == 2 && not is_path then Some MalformedAsPath else None)))))

-- attribute by attribute
abbrev pub attributes_fault : (is_path : Bool) → List Attribute → List Attribute → Option Fault
attributes_fault is_path before [] = None
attributes_fault is_path before (a ∷ more) = option_or (attribute_fault is_path before a) (attributes_fault is_path (before ++ a ∷ []) more)

-- the value of the attribute of a type, or no byte where there is none
abbrev pub value_or_none : Option Attribute → List ℕ
value_or_none None = []
value_or_none (Some a) = a.value

abbrev pub value_of : ℕ → List Attribute → List ℕ
value_of kind attributes = value_or_none (find (is_of kind) attributes)

-- the attribute in the first n bytes, whose value begins behind so many
abbrev pub attribute_in : (head n : ℕ) → List ℕ → Attribute
attribute_in head n bytes = record { flags = number_in 0 1 bytes; kind = number_in 1 1 bytes; value = drop head (take n bytes) }

pub record AreSizes (head n : ℕ) (bytes : List ℕ) : Type 0 where
  pub begins : Begins (SpellsAttribute (attribute_in head n bytes)) n bytes
  pub two : 2 ≤ head
  pub inside : head ≤ n
