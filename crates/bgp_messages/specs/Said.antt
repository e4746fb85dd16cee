-- The messages that are said, in their one spelling (RFC 4271, 4).
use Rattle.std.specs.Prelude.{◌≡◌, ◌≢◌, ℕ, ◌+◌, ◌^◌, ◌<◌, List, [], ◌∷◌, ◌++◌, length, replicate}
use Rattle.bgp_messages.specs.declared.kind.Kind.{Kind}
use Rattle.bgp_messages.specs.declared.kind.Kind.TheVariants as kinds
use Rattle.bgp_messages.specs.declared.message.Open.{Open as Opening}
use Rattle.bgp_messages.specs.declared.message.Message.{Message}
use Rattle.bgp_messages.specs.declared.message.Message.TheVariants as heard
use Rattle.bgp_messages.specs.declared.said.Said.{Said}
use Rattle.bgp_messages.specs.declared.said.Said.TheVariants.{Open, KeepAlive, Notification}
use Rattle.bgp_messages.specs.Faults.{code_of, subcode_of}
use Rattle.bgp_messages.specs.Kinds.{number_of}
use Rattle.bgp_messages.specs.Numbers.{number}

abbrev pub marker : List ℕ
marker = replicate 16 255

abbrev pub framed : Kind → List ℕ → List ℕ
framed kind body = marker ++ number 2 (19 + length body) ++ number_of kind ∷ [] ++ body

-- OPEN (4.2): version 4, and no parameters
abbrev pub open_bytes : Opening → List ℕ
open_bytes o = 4 ∷ [] ++ number 2 o.sender_as ++ number 2 o.hold ++ number 4 o.id ++ 0 ∷ []

abbrev pub kind_said : Said → Kind
kind_said (Open o) = kinds.Open
kind_said KeepAlive = kinds.KeepAlive
kind_said (Notification fault) = kinds.Notification

-- NOTIFICATION (4.5): code and subcode, and no data
abbrev pub body_said : Said → List ℕ
body_said (Open o) = open_bytes o
body_said KeepAlive = []
body_said (Notification fault) = code_of fault ∷ subcode_of fault ∷ []

abbrev pub written : Said → List ℕ
written said = framed (kind_said said) (body_said said)

-- what a peer hears
abbrev pub message_of : Said → Message
message_of (Open o) = heard.Open o
message_of KeepAlive = heard.KeepAlive
message_of (Notification fault) = heard.Notification (record { code = code_of fault; subcode = subcode_of fault })

-- an OPEN that a peer takes: its numbers fit their bytes, the AS is the one that the peer expects, and
-- identifier and hold time may be said
pub record IsOpening (peer : ℕ) (o : Opening) : Type 0 where
  pub sender_as : o.sender_as ≡ peer
  pub as_fits : o.sender_as < 2 ^ 16
  pub hold_fits : o.hold < 2 ^ 16
  pub id_fits : o.id < 2 ^ 32
  pub id : o.id ≢ 0
  pub not_one : o.hold ≢ 1
  pub not_two : o.hold ≢ 2

abbrev pub MayBeSaid : (peer : ℕ) → Said → Type 0
MayBeSaid peer (Open o) = IsOpening peer o
MayBeSaid peer KeepAlive = Unit {0}
MayBeSaid peer (Notification fault) = Unit {0}
