-- Which hosts are known, step by step.
pub use Rattle.ctl_packets.specs.Told.{told_at, told_by, told_in}
use Rattle.std.specs.Prelude.{◌≡◌, ◌⊎◌, ◌↔◌, ℕ, ◌&&◌, not, Bool, false, if◌then◌else◌, List, [], ◌∷◌, filter, Option, Some, None}
use Rattle.std.specs.Option.{option_and_then}
use Rattle.fg_outside.specs.declared.hub.Happening.{Happening}
use Rattle.fg_outside.specs.declared.hub.Happening.TheVariants as happenings
use Rattle.conf_types.specs.declared.state.HostRec.{HostRec}
use Rattle.conf_types.specs.State.{is_to_forget}
use Rattle.host_learn.specs.Learning.{is_heard, outcome}
use Rattle.of13_codec.specs.declared.message.Message.{Message}
use Rattle.of13_codec.specs.declared.message.Message.TheVariants as messages
use Rattle.of13_codec.specs.declared.packet_in.PacketIn.{PacketIn}
use Rattle.ctl_world.specs.declared.conns.Conn.{Conn}
use Rattle.ctl_world.specs.Connections.{conn_with}
use Rattle.ctl_world.specs.Ends.{stands}
use Rattle.ctl_world.specs.World.{World, running, runs, ups}
use Rattle.ctl_packets.specs.Changes.{is_change}
use Rattle.law_lives.specs.Steps.{Heard, Turn, behind_heard, behind_turn}

-- ---- sets of hosts

abbrev pub IsAmong : HostRec → List HostRec → Type 0
IsAmong h [] = ⊥
IsAmong h (k ∷ ks) = (k ≡ h) ⊎ IsAmong h ks

abbrev pub IsKnown : World → HostRec → Type 0
IsKnown w h = IsAmong h w.hosts.hosts

-- its datapath runs, and its port is up
abbrev pub stands_in : World → HostRec → Bool
stands_in w h = stands (running w) (ups w) h

-- ---- the host that a message tells of

-- on a connection whose tables are wiped
abbrev pub told_on : Message → World → Conn → Option HostRec
told_on (messages.PacketIn m) w c = if runs c.session.state.stage then option_and_then (λ dp. told_in m dp w) c.dp else None
told_on other w c = None

abbrev pub told : Option (Message × ℕ) → (on : ℕ) → World → Option HostRec
told (Some heard) on w = option_and_then (told_on heard.0 w) (conn_with w.conns on)
told None on w = None

-- it fits: a table of these hosts learns it, or moves or refreshes it
abbrev pub if_fit : World → HostRec → Option HostRec
if_fit w h = if is_change (outcome w.conf w.hosts h) then Some h else None

abbrev pub learned : Heard → Option HostRec
learned f = option_and_then (if_fit f.before) (told f.says f.on f.before)

-- ---- when a frame is heard

-- behind it those are known, in order, that were known before and stand still
abbrev pub KeepsTheStanding : (before behind : World) → Type 0
KeepsTheStanding before behind = behind.hosts.hosts ≡ filter (stands_in behind) before.hosts.hosts

-- where it lets a host learn: that one, and all that were known before but for the one with its group, VLAN and address
abbrev pub KnowsAnew : (before behind : World) → HostRec → Type 0
KnowsAnew before behind l = (h : HostRec) → IsKnown behind h ↔ ((l ≡ h) ⊎ (IsKnown before h × (is_heard before.conf l h ≡ false)))

abbrev pub KnowsBy : Option HostRec → (before behind : World) → Type 0
KnowsBy (Some l) before behind = KnowsAnew before behind l
KnowsBy None before behind = KeepsTheStanding before behind

abbrev pub KnowsTheHeard : Heard → Type 0
KnowsTheHeard f = KnowsBy (learned f) f.before (behind_heard f)

-- ---- in a turn in which nothing is heard

-- one that stands still, and isn't to be forgotten at the moment that is shown
abbrev pub is_young : World → (behind : World) → HostRec → Bool
is_young before behind h = stands_in behind h && not (is_to_forget before.conf behind.moment.0 h)

abbrev pub KnowsByWhat : Happening → (before behind : World) → Type 0
KnowsByWhat (happenings.Opened number) before behind = behind.hosts ≡ before.hosts
KnowsByWhat (happenings.Closed number cause) before behind = KeepsTheStanding before behind
KnowsByWhat (happenings.Moment moment) before behind = behind.hosts.hosts ≡ filter (is_young before behind) before.hosts.hosts
KnowsByWhat other before behind = Unit {0}

abbrev pub KnowsItsHosts : Turn → Type 0
KnowsItsHosts t = KnowsByWhat t.what t.before (behind_turn t)
