-- Why connections are closed.
use Rattle.std.specs.Prelude.{◌≡◌, ◌⊎◌, ◌<◌, ℕ, ◌-◌, ◌==◌, ◌&&◌, nat_le, max, Bool, true, false, if◌then◌else◌, List, [], ◌∷◌, ◌++◌, Option, Some, None, is_ok}
use Rattle.std.specs.List.{AllByRecursion, fold, list_any}
use Rattle.std.specs.Option.{option_map}
use Rattle.net_base.specs.declared.numbers.DpId.{DpId}
use Rattle.fg_outside.specs.declared.hub.Happening.{Happening}
use Rattle.fg_outside.specs.declared.hub.Happening.TheVariants as happenings
use Rattle.of_match.specs.declared.action.Instr.{Instr}
use Rattle.of_match.specs.declared.action.Instr.TheVariants.{Goto, Apply}
use Rattle.of_match.specs.declared.entry.Entry.{Entry}
use Rattle.conf_types.specs.Configuration.{Configuration}
use Rattle.of13_codec.specs.declared.message.Message.{Message}
use Rattle.of13_codec.specs.declared.message.Message.TheVariants as messages
use Rattle.switch_session.specs.declared.closing.Closing.{Closing}
use Rattle.switch_session.specs.declared.closing.Closing.TheVariants.{WrongVersion, BadFrame, UnknownDp, TooFewTables, Auxiliary, Replaced, SwitchError, Silent}
use Rattle.switch_session.specs.Stages.{speaks}
use Rattle.ctl_world.specs.declared.said.Said.{Said}
use Rattle.ctl_world.specs.declared.said.Said.TheVariants as said
use Rattle.ctl_world.specs.Connections.{conn_of}
use Rattle.ctl_world.specs.World.{World}
use Rattle.ctl_core.specs.Hearing.{unfit}
use Rattle.ctl_core.specs.Reloading.{accepted}
use Rattle.law_lives.specs.Known.{moment_more, open_more}
use Rattle.law_lives.specs.Told.{Told}

-- ---- what a switch said

-- that it speaks no OpenFlow 1.3, that it can't do what it was told, or that it is a datapath that isn't to be served
abbrev pub IsOfMessage : Configuration → Message → Closing → Type 0
IsOfMessage conf (messages.Hello version bitmap) cause = (cause ≡ WrongVersion) × (speaks version bitmap ≡ false)
IsOfMessage conf (messages.Error kind code payload) cause = cause ≡ SwitchError kind code
IsOfMessage conf (messages.FeaturesReply reply) cause = unfit conf reply.dp reply.n_tables reply.auxiliary ≡ Some cause
IsOfMessage conf other cause = ⊥

-- or bytes that spell no message
abbrev pub IsOfFrame : Configuration → Option (Message × ℕ) → Closing → Type 0
IsOfFrame conf (Some heard) cause = IsOfMessage conf heard.0 cause
IsOfFrame conf None cause = cause ≡ BadFrame

-- the connection of this datapath has this number
abbrev pub IsOn : World → DpId → ℕ → Type 0
IsOn w dp number = option_map (λ c. c.number) (conn_of w.conns dp) ≡ Some number

-- it gives way to one whose switch says to be its datapath, and may be served
abbrev pub GivesWay : World → Message → (number : ℕ) → Type 0
GivesWay w (messages.FeaturesReply reply) number = (unfit w.conf reply.dp reply.n_tables reply.auxiliary ≡ None) × IsOn w reply.dp number
GivesWay w other number = ⊥

abbrev pub GivesWayTo : World → Option (Message × ℕ) → (number : ℕ) → Type 0
GivesWayTo w (Some heard) number = GivesWay w heard.0 number
GivesWayTo w None number = ⊥

-- why a connection is closed when a frame is heard on one
abbrev pub IsHeardCause : World → Option (Message × ℕ) → (on number : ℕ) → Closing → Type 0
IsHeardCause w heard on number cause = ((number ≡ on) × IsOfFrame w.conf heard cause) ⊎ ((cause ≡ Replaced) × GivesWayTo w heard number)

abbrev pub HasHeardCause : World → Option (Message × ℕ) → (on : ℕ) → Said → Type 0
HasHeardCause w heard on (said.Closing number cause) = IsHeardCause w heard on number cause
HasHeardCause w heard on other = Unit {0}

-- ---- silence

-- what is shown, whether a connection is opened, and when its last byte came or else it opened
pub record Ear : Type 0 where
  pub shown : ℕ
  pub opened : Bool
  pub heard : ℕ

-- an opening counts where the connection isn't opened, and a piece of no bytes doesn't
abbrev pub heard_more : (number : ℕ) → Ear → Happening → ℕ
heard_more number ear (happenings.Opened n) = if n == number then (if ear.opened then ear.heard else ear.shown) else ear.heard
heard_more number ear (happenings.Heard n []) = ear.heard
heard_more number ear (happenings.Heard n (byte ∷ piece)) = if n == number then ear.shown else ear.heard
heard_more number ear other = ear.heard

abbrev pub ear_more : (number : ℕ) → Ear → Told → Ear
ear_more number ear t = record {
  shown = moment_more ear.shown t.what;
  opened = open_more number ear.opened t;
  heard = heard_more number ear t.what;
}

abbrev pub ear_by : (number : ℕ) → List Told → Ear
ear_by number turns = fold (ear_more number) (record { shown = 0; opened = false; heard = 0 }) turns

-- it is opened, and at this moment no byte came for 60 seconds
abbrev pub is_silent_at : (moment : ℕ) → Ear → Bool
is_silent_at moment ear = ear.opened && nat_le 60000 (max ear.shown moment - ear.heard)

-- ---- in a turn

-- what a switch sends on a connection may be why that is closed
abbrev pub is_of_bytes : Closing → Bool
is_of_bytes WrongVersion = true
is_of_bytes BadFrame = true
is_of_bytes UnknownDp = true
is_of_bytes TooFewTables = true
is_of_bytes Auxiliary = true
is_of_bytes (SwitchError kind code) = true
is_of_bytes other = false

-- why a connection may be closed in a turn
abbrev pub IsCause : Happening → (number : ℕ) → Closing → Type 0
IsCause (happenings.Opened n) number cause = ⊥
IsCause (happenings.Heard n piece) number cause = ((number ≡ n) × (is_of_bytes cause ≡ true)) ⊎ (cause ≡ Replaced)
IsCause (happenings.Closed n ended) number cause = ⊥
IsCause (happenings.Moment moment) number cause = cause ≡ Silent
IsCause (happenings.Reload text) number cause = (cause ≡ UnknownDp) × (is_ok (accepted text) ≡ true)

abbrev pub HasCause : Happening → Said → Type 0
HasCause h (said.Closing number cause) = IsCause h number cause
HasCause h other = Unit {0}

abbrev pub closes : (number : ℕ) → Said → Bool
closes number (said.Closing n cause) = n == number
closes number other = false

-- at a moment exactly the silent are closed
abbrev pub ClosesTheSilent : (before : List Told) → Happening → List Said → Type 0
ClosesTheSilent before (happenings.Moment moment) told = (number : ℕ) → list_any (closes number) told ≡ is_silent_at moment (ear_by number before)
ClosesTheSilent before other told = Unit {0}

-- in each turn, where these were before it
abbrev pub HaveTheirCauses : (before : List Told) → List Told → Type 0
HaveTheirCauses before [] = Unit {0}
HaveTheirCauses before (t ∷ more) = AllByRecursion (HasCause t.what) t.said × ClosesTheSilent before t.what t.said × HaveTheirCauses (before ++ t ∷ []) more

-- ---- tables

-- an instruction that leads on leads to a table that there is
abbrev pub LeadsWithin : ℕ → Instr → Type 0
LeadsWithin n_tables (Goto table) = table < n_tables
LeadsWithin n_tables (Apply actions) = Unit {0}

-- a switch with so many tables has those that an entry names
pub record IsWithin (n_tables : ℕ) (e : Entry) : Type 0 where
  pub table : e.key.table < n_tables
  pub onward : AllByRecursion (LeadsWithin n_tables) e.instrs
