-- UPDATE (RFC 4271, 4.3), and what is wrong with one (6.3). Places count from the first byte behind the header.
use Rattle.std.specs.Prelude.{◌≡◌, ℕ, ◌+◌, ◌≤◌, ◌&&◌, not, ◌==◌, Bool, if◌then◌else◌, is_some, List, [], length, take, drop, Option, Some, None, Result, Ok, Err, ◌⊎◌}
use Rattle.std.specs.Option.{option_or}
use Rattle.net_base.specs.declared.net4.Net4.{Net4}
use Rattle.bgp_messages.specs.declared.attribute.Attribute.{Attribute}
use Rattle.bgp_messages.specs.declared.fault.Fault.{Fault}
use Rattle.bgp_messages.specs.declared.fault.Fault.TheVariants.{MalformedAttributeList, InvalidNetworkField, MissingWellKnownAttribute}
use Rattle.bgp_messages.specs.declared.fault.Refused.{Refused}
use Rattle.bgp_messages.specs.declared.fault.Refused.TheVariants as refused
use Rattle.bgp_messages.specs.declared.message.Update.{Update}
use Rattle.bgp_messages.specs.Numbers.{number_in}
use Rattle.bgp_messages.specs.Grammar.{Joined, Parsed}
use Rattle.bgp_messages.specs.Prefixes.{SpellsPrefixes}
use Rattle.bgp_messages.specs.Paths.{SpellsPath}
use Rattle.bgp_messages.specs.Attributes.{SpellsAttribute, attributes_fault, has_kind, value_of}

-- Withdrawn Routes Length, Withdrawn Routes, and what stands behind them
abbrev pub withdrawn_len : List ℕ → ℕ
withdrawn_len body = number_in 0 2 body

abbrev pub withdrawn_in : List ℕ → List ℕ
withdrawn_in body = take (withdrawn_len body) (drop 2 body)

abbrev pub behind_withdrawn : List ℕ → List ℕ
behind_withdrawn body = drop (withdrawn_len body) (drop 2 body)

-- Total Path Attribute Length, Path Attributes, and the Network Layer Reachability Information behind them
abbrev pub attributes_len : List ℕ → ℕ
attributes_len body = number_in 0 2 (behind_withdrawn body)

abbrev pub attributes_in : List ℕ → List ℕ
attributes_in body = take (attributes_len body) (drop 2 (behind_withdrawn body))

abbrev pub announced_in : List ℕ → List ℕ
announced_in body = drop (attributes_len body) (drop 2 (behind_withdrawn body))

-- both lengths end within the message
pub record Fits (body : List ℕ) : Type 0 where
  pub withdrawn : withdrawn_len body + 2 ≤ length (drop 2 body)
  pub attributes : attributes_len body ≤ length (drop 2 (behind_withdrawn body))

pub record SpellsAttributes (attributes : List Attribute) (body : List ℕ) : Type 0 where
  pub fits : Fits body
  pub joined : Joined SpellsAttribute attributes (attributes_in body)

-- the parts of an UPDATE all of whose lengths agree: prefixes, and the numbers of the AS_PATH, where
-- bytes spell any
pub record Parts (body : List ℕ) : Type 0 where
  pub attributes : List Attribute
  pub withdrawn : Option (List Net4)
  pub announced : Option (List Net4)
  pub path : Option (List ℕ)
  pub spelled : SpellsAttributes attributes body
  pub has_withdrawn : Parsed SpellsPrefixes (withdrawn_in body) withdrawn
  pub has_announced : Parsed SpellsPrefixes (announced_in body) announced
  pub has_path : Parsed SpellsPath (value_of 2 attributes) path

-- a route comes with ORIGIN, AS_PATH and NEXT_HOP
abbrev pub has_mandatory : List Attribute → Bool
has_mandatory attributes = has_kind 1 attributes && has_kind 2 attributes && has_kind 3 attributes

abbrev pub missing_fault : List Attribute → List Net4 → Option Fault
missing_fault attributes announced =
    if not (length announced == 0) && not (has_mandatory attributes) then Some MissingWellKnownAttribute else None

-- the first thing that is wrong: prefixes, the withdrawn ones first; attributes one by one; what is missing
abbrev pub parts_fault : List Attribute → (withdrawn announced : Option (List Net4)) → (path : Option (List ℕ)) → Option Fault
parts_fault attributes None announced path = Some InvalidNetworkField
parts_fault attributes (Some withdrawn) None path = Some InvalidNetworkField
parts_fault attributes (Some withdrawn) (Some announced) path =
    option_or (attributes_fault (is_some path) [] attributes) (missing_fault attributes announced)

abbrev pub list_or_none : {A : Type 0} → Option (List A) → List A
list_or_none None = []
list_or_none (Some list) = list

-- what an UPDATE with these parts says: no next hop is 0
abbrev pub update_with : List Attribute → (withdrawn announced : Option (List Net4)) → (path : Option (List ℕ)) → Update
update_with attributes withdrawn announced path = record {
  withdrawn = list_or_none withdrawn;
  path = list_or_none path;
  next_hop = record { 0 = number_in 0 4 (value_of 3 attributes) };
  announced = list_or_none announced;
}

pub record SpellsUpdate (update : Update) (body : List ℕ) : Type 0 where
  pub parts : Parts body
  pub sound : parts_fault parts.attributes parts.withdrawn parts.announced parts.path ≡ None
  pub value : update ≡ update_with parts.attributes parts.withdrawn parts.announced parts.path

pub record PartsFault (body : List ℕ) (fault : Fault) : Type 0 where
  pub parts : Parts body
  pub is : parts_fault parts.attributes parts.withdrawn parts.announced parts.path ≡ Some fault

-- lengths that disagree come before all else
abbrev pub HasNoAttributes : List ℕ → Type 0
HasNoAttributes body = (attributes : List Attribute) → SpellsAttributes attributes body → ⊥

abbrev pub UpdateFault : List ℕ → Fault → Type 0
UpdateFault body fault = (HasNoAttributes body × (fault ≡ MalformedAttributeList)) ⊎ PartsFault body fault

-- what the readers answer
pub record HasFields (body gone carried come : List ℕ) : Type 0 where
  pub fits : Fits body
  pub withdrawn : gone ≡ withdrawn_in body
  pub attributes : carried ≡ attributes_in body
  pub announced : come ≡ announced_in body

abbrev pub Judges : List Attribute → (withdrawn announced : Option (List Net4)) → (path : Option (List ℕ)) → Result Update Fault → Type 0
Judges attributes withdrawn announced path (Ok update) =
    (parts_fault attributes withdrawn announced path ≡ None) × (update ≡ update_with attributes withdrawn announced path)
Judges attributes withdrawn announced path (Err fault) = parts_fault attributes withdrawn announced path ≡ Some fault

abbrev pub ReadsUpdate : List ℕ → Result Update Refused → Type 0
ReadsUpdate body (Ok update) = SpellsUpdate update body
ReadsUpdate body (Err (refused.Fault fault)) = UpdateFault body fault
ReadsUpdate body (Err refused.Memory) = Unit {0}
