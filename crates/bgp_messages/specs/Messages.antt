-- Messages (RFC 4271, 4): what bytes spell one, and what is wrong with bytes that spell none.
use Rattle.std.specs.Prelude.{◌≡◌, ℕ, ◌≤◌, List, length, drop, Result, Ok, Err}
use Rattle.bgp_messages.specs.declared.kind.Kind.{Kind}
use Rattle.bgp_messages.specs.declared.kind.Kind.TheVariants as kinds
use Rattle.bgp_messages.specs.declared.fault.Fault.{Fault}
use Rattle.bgp_messages.specs.declared.fault.Refused.{Refused}
use Rattle.bgp_messages.specs.declared.fault.Refused.TheVariants as refused
use Rattle.bgp_messages.specs.declared.message.Message.{Message}
use Rattle.bgp_messages.specs.declared.message.Message.TheVariants.{Open, Update, Notification, KeepAlive}
use Rattle.bgp_messages.specs.declared.message.Notification.{Notification as Told}
use Rattle.bgp_messages.specs.Numbers.{number_in}
use Rattle.bgp_messages.specs.Heads.{head_of}
use Rattle.bgp_messages.specs.Opens.{SpellsOpen, OpenFault}
use Rattle.bgp_messages.specs.Updates.{SpellsUpdate, UpdateFault}

abbrev pub kind_of_message : Message → Kind
kind_of_message (Open o) = kinds.Open
kind_of_message (Update u) = kinds.Update
kind_of_message (Notification n) = kinds.Notification
kind_of_message KeepAlive = kinds.KeepAlive

-- NOTIFICATION (4.5): code and subcode; the data behind them is passed over
abbrev pub told_in : List ℕ → Told
told_in body = record { code = number_in 0 1 body; subcode = number_in 1 1 body }

-- what stands behind the header, said by a peer of this AS
abbrev pub SpellsBody : (peer : ℕ) → Message → List ℕ → Type 0
SpellsBody peer (Open o) body = SpellsOpen peer o body
SpellsBody peer (Update u) body = SpellsUpdate u body
SpellsBody peer (Notification n) body = n ≡ told_in body
SpellsBody peer KeepAlive body = Unit {0}

-- what is wrong with a body of this type whose length is right
abbrev pub BodyFault : (peer : ℕ) → Kind → List ℕ → Fault → Type 0
BodyFault peer kinds.Open body fault = OpenFault peer body fault
BodyFault peer kinds.Update body fault = UpdateFault body fault
BodyFault peer kinds.Notification body fault = ⊥
BodyFault peer kinds.KeepAlive body fault = ⊥

-- what a call answers of a body of this type: a message that it spells, or what is wrong with it
abbrev pub Answers : (peer : ℕ) → Kind → List ℕ → Result Message Refused → Type 0
Answers peer kind body (Ok message) = (kind_of_message message ≡ kind) × SpellsBody peer message body
Answers peer kind body (Err (refused.Fault fault)) = BodyFault peer kind body fault
Answers peer kind body (Err refused.Memory) = Unit {0}

-- a whole message: its header, which tells its type and just its length, and its body
pub record Spells (peer : ℕ) (message : Message) (bytes : List ℕ) : Type 0 where
  pub header : 19 ≤ length bytes
  pub head : head_of bytes ≡ Ok (record { kind = kind_of_message message; len = length bytes })
  pub body : SpellsBody peer message (drop 19 bytes)
