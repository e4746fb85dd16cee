-- OPEN (RFC 4271, 4.2), and what is wrong with one (6.2). Places count from the first byte behind the header.
use Rattle.std.specs.Prelude.{◌≡◌, ℕ, ◌+◌, ◌||◌, not, ◌==◌, Bool, true, false, if◌then◌else◌, List, length, take, drop, Option, Some, None, Result, Ok, Err}
use Rattle.std.specs.List.{list_all}
use Rattle.bgp_messages.specs.declared.fault.Fault.{Fault}
use Rattle.bgp_messages.specs.declared.fault.Fault.TheVariants.{OpenUnspecific, UnsupportedVersionNumber, BadPeerAs, BadBgpIdentifier, UnsupportedOptionalParameter, UnacceptableHoldTime}
use Rattle.bgp_messages.specs.declared.message.Open.{Open}
use Rattle.bgp_messages.specs.Numbers.{number_in}
use Rattle.bgp_messages.specs.Grammar.{Joined, Parsed}

-- version, My Autonomous System, Hold Time in seconds, BGP Identifier
abbrev pub version_in : List ℕ → ℕ
version_in body = number_in 0 1 body

abbrev pub open_in : List ℕ → Open
open_in body = record { sender_as = number_in 1 2 body; hold = number_in 3 2 body; id = number_in 5 4 body }

-- an optional parameter: its type, its length, its value
pub record Parameter : Type 0 where
  pub kind : ℕ
  pub content : List ℕ

pub record SpellsParameter (p : Parameter) (bytes : List ℕ) : Type 0 where
  pub kind : number_in 0 1 bytes ≡ p.kind
  pub len : number_in 1 1 bytes ≡ length p.content
  pub content : drop 2 bytes ≡ p.content
  pub size : length bytes ≡ 2 + length p.content

-- the optional parameters are all that stands behind their length
pub record SpellsParameters (parameters : List Parameter) (body : List ℕ) : Type 0 where
  pub len : number_in 9 1 body ≡ length (drop 10 body)
  pub joined : Joined SpellsParameter parameters (drop 10 body)

-- capabilities (RFC 5492, 4), which are passed over
abbrev pub is_capabilities : Parameter → Bool
is_capabilities p = p.kind == 2

-- of parameters, whether all are capabilities; nothing where lengths disagree
abbrev pub are_capabilities : Option (List Parameter) → Option Bool
are_capabilities None = None
are_capabilities (Some parameters) = Some (list_all is_capabilities parameters)

abbrev pub parameters_fault : Option Bool → (hold : ℕ) → Option Fault
parameters_fault None hold = Some OpenUnspecific
parameters_fault (Some false) hold = Some UnsupportedOptionalParameter
parameters_fault (Some true) hold = if hold == 1 || hold == 2 then Some UnacceptableHoldTime else None

-- the first thing that is wrong: the version, the AS, which has to be the peer's, the identifier, the
-- parameters, the hold time
abbrev pub open_fault : (peer : ℕ) → List ℕ → Option Bool → Option Fault
open_fault peer body capabilities =
    if not (version_in body == 4) then Some UnsupportedVersionNumber else (
    if not ((open_in body).sender_as == peer) then Some BadPeerAs else (
    if (open_in body).id == 0 then Some BadBgpIdentifier else parameters_fault capabilities (open_in body).hold))

-- what an OPEN says, and what is wrong with it, both with its parameters
pub record SpellsOpen (peer : ℕ) (open_ : Open) (body : List ℕ) : Type 0 where
  pub parameters : List Parameter
  pub spelled : SpellsParameters parameters body
  pub sound : open_fault peer body (are_capabilities (Some parameters)) ≡ None
  pub value : open_ ≡ open_in body

pub record OpenFault (peer : ℕ) (body : List ℕ) (fault : Fault) : Type 0 where
  pub parameters : Option (List Parameter)
  pub parsed : Parsed SpellsParameters body parameters
  pub is : open_fault peer body (are_capabilities parameters) ≡ Some fault

-- what a reader answers
abbrev pub ReadsOpen : (peer : ℕ) → List ℕ → Result Open Fault → Type 0
ReadsOpen peer body (Ok open_) = SpellsOpen peer open_ body
ReadsOpen peer body (Err fault) = OpenFault peer body fault

-- the parameter in the first n bytes
abbrev pub parameter_in : ℕ → List ℕ → Parameter
parameter_in n bytes = record { kind = number_in 0 1 bytes; content = drop 2 (take n bytes) }
