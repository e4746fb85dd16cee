-- What the bytes of a message are decoded to: the message that they spell, or the first thing that is wrong.
use Rattle.std.specs.Prelude.{ℕ, zero, suc, ◌+◌, ◌*◌, ◌&&◌, ◌==◌, nat_lt, nat_le, min, Bool, if◌then◌else◌, List, [], ◌∷◌, length, take, drop, Option, Some, None, option_map, option_and_then, Result, Ok, Err}
use Rattle.std.specs.List.{flat_map}
use Rattle.std.proofs.Math.Nat.{min-le_left}
use Rattle.net_base.specs.declared.net4.Net4.{Net4}
use Rattle.bgp_messages.specs.declared.attribute.Attribute.{Attribute}
use Rattle.bgp_messages.specs.declared.fault.Fault.{Fault}
use Rattle.bgp_messages.specs.declared.fault.Fault.TheVariants.{MalformedAttributeList}
use Rattle.bgp_messages.specs.declared.kind.Kind.{Kind}
use Rattle.bgp_messages.specs.declared.kind.Kind.TheVariants as kinds
use Rattle.bgp_messages.specs.declared.message.Message.{Message}
use Rattle.bgp_messages.specs.declared.message.Message.TheVariants.{Open, Update, Notification, KeepAlive}
use Rattle.bgp_messages.specs.declared.message.Open.{Open as Opening}
use Rattle.bgp_messages.specs.declared.message.Update.{Update as Updating}
use Rattle.bgp_messages.specs.Numbers.{number_in}
use Rattle.bgp_messages.specs.Opens.{Parameter, parameter_in, are_capabilities, open_in, open_fault}
use Rattle.bgp_messages.specs.Paths.{Segment, is_known, segment_in}
use Rattle.bgp_messages.specs.Prefixes.{octets}
use Rattle.bgp_messages.specs.Attributes.{attribute_in, length_octets, value_of}
use Rattle.bgp_messages.specs.Updates.{withdrawn_len, withdrawn_in, behind_withdrawn, attributes_len, attributes_in, announced_in, parts_fault, update_with}
use Rattle.bgp_messages.specs.Messages.{told_in}

-- ---- parts, one behind the other

-- the part at the front, and how many bytes it takes, which all have to be there
abbrev pub fitting : {A : Type 0} → A → (size : ℕ) → List ℕ → Option (A × ℕ)
fitting part size bytes = if nat_lt (length bytes) size then None else Some (part, size)

-- all of them, so many at most, by what is found at the front
abbrev pub parts_in : {A : Type 0} → (first : List ℕ → Option (A × ℕ)) → (most : ℕ) → List ℕ → Option (List A)
parts_in first zero [] = Some []
parts_in first zero (b ∷ bytes) = None
parts_in first (suc most) [] = Some []
parts_in first (suc most) (b ∷ bytes) =
    option_and_then (λ found. option_map (λ more. found.0 ∷ more) (parts_in first most (drop found.1 (b ∷ bytes)))) (first (b ∷ bytes))

abbrev pub all_parts : {A : Type 0} → (first : List ℕ → Option (A × ℕ)) → List ℕ → Option (List A)
all_parts first bytes = parts_in first (length bytes) bytes

-- ---- what stands at the front

abbrev pub parameter_size : List ℕ → ℕ
parameter_size bytes = 2 + number_in 1 1 bytes

abbrev pub first_parameter : List ℕ → Option (Parameter × ℕ)
first_parameter bytes = fitting (parameter_in (parameter_size bytes) bytes) (parameter_size bytes) bytes

-- flags, type and length of an attribute, and its value behind them
abbrev pub attribute_head : List ℕ → ℕ
attribute_head bytes = 2 + length_octets (number_in 0 1 bytes)

abbrev pub attribute_size : List ℕ → ℕ
attribute_size bytes = attribute_head bytes + number_in 2 (length_octets (number_in 0 1 bytes)) bytes

abbrev pub first_attribute : List ℕ → Option (Attribute × ℕ)
first_attribute bytes = fitting (attribute_in (attribute_head bytes) (attribute_size bytes) bytes) (attribute_size bytes) bytes

-- a segment is of a known type, and not empty
abbrev pub first_segment : List ℕ → Option (Segment × ℕ)
first_segment bytes =
    let count = number_in 1 1 bytes in
    if is_known (number_in 0 1 bytes) && nat_lt 0 count then fitting (segment_in count bytes) (2 + 2 * count) bytes else None

-- the network of so many bits in the bytes of a prefix
abbrev pub net_in : (bits : ℕ) → List ℕ → Net4
net_in bits prefix = record { ip = record { 0 = number_in 0 4 (drop 1 prefix) }; len = min 32 bits; short = min-le_left 32 bits }

-- none has more than 32 bits
abbrev pub first_prefix : List ℕ → Option (Net4 × ℕ)
first_prefix bytes =
    let bits = number_in 0 1 bytes in
    let size = 1 + octets bits in
    if nat_lt 32 bits then None else fitting (net_in bits (take size bytes)) size bytes

-- ---- an OPEN

abbrev pub unless : {A : Type 0} → Option Fault → A → Result A Fault
unless None value = Ok value
unless (Some fault) value = Err fault

abbrev pub parameters_in : List ℕ → Option (List Parameter)
parameters_in body = if number_in 9 1 body == length (drop 10 body) then all_parts first_parameter (drop 10 body) else None

abbrev pub open_of : (peer : ℕ) → List ℕ → Result Opening Fault
open_of peer body = unless (open_fault peer body (are_capabilities (parameters_in body))) (open_in body)

-- ---- an UPDATE

-- both lengths end within the message
abbrev pub fits : List ℕ → Bool
fits body = nat_le (withdrawn_len body + 2) (length (drop 2 body)) && nat_le (attributes_len body) (length (drop 2 (behind_withdrawn body)))

abbrev pub attributes_of : List ℕ → Option (List Attribute)
attributes_of body = if fits body then all_parts first_attribute (attributes_in body) else None

-- the numbers of a path
abbrev pub path_in : List ℕ → Option (List ℕ)
path_in value = option_map (flat_map (λ s. s.numbers)) (all_parts first_segment value)

abbrev pub update_by : List ℕ → Option (List Attribute) → Result Updating Fault
update_by body None = Err MalformedAttributeList
update_by body (Some attributes) =
    let withdrawn = all_parts first_prefix (withdrawn_in body) in
    let announced = all_parts first_prefix (announced_in body) in
    let path = path_in (value_of 2 attributes) in
    unless (parts_fault attributes withdrawn announced path) (update_with attributes withdrawn announced path)

abbrev pub update_of : List ℕ → Result Updating Fault
update_of body = update_by body (attributes_of body)

-- ---- a message

abbrev pub message_by : {A : Type 0} → (A → Message) → Result A Fault → Result Message Fault
message_by make (Ok value) = Ok (make value)
message_by make (Err fault) = Err fault

-- what stands behind the header of a message of this type, said by a peer of this AS
abbrev pub decoded : (peer : ℕ) → Kind → List ℕ → Result Message Fault
decoded peer kinds.Open body = message_by Open (open_of peer body)
decoded peer kinds.Update body = message_by Update (update_of body)
decoded peer kinds.Notification body = Ok (Notification (told_in body))
decoded peer kinds.KeepAlive body = Ok KeepAlive
