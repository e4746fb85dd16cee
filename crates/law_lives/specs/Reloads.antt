-- Which hosts stay over a reload, and why others don't.
use Rattle.std.specs.Prelude.{◌≡◌, ◌⊎◌, ◌&&◌, ℕ, Bool, true, false, List, ◌++◌, ◌∷◌, Result, Ok, Err}
use Rattle.std.specs.List.{AllByRecursion, list_any}
use Rattle.fg_outside.specs.declared.hub.Happening.{Happening}
use Rattle.fg_outside.specs.declared.hub.Happening.TheVariants as happenings
use Rattle.conf_types.specs.declared.state.HostRec.{HostRec}
use Rattle.conf_types.specs.Configuration.{Configuration}
use Rattle.host_learn.specs.Kept.{finds_room, may_stay}
use Rattle.host_learn.specs.Learning.{is_heard}
use Rattle.host_list.specs.Parts.{IsPartOf}
use Rattle.ctl_world.specs.World.{World, ups}
use Rattle.ctl_core.specs.Reloading.{accepted}
use Rattle.law_lives.specs.Hosts.{IsKnown, stands_in}
use Rattle.law_lives.specs.Steps.{Turn, behind_turn}

-- it may be learned where it stands, its port is up, and it isn't to be forgotten
abbrev pub may_stay_in : World → HostRec → Bool
may_stay_in w h = may_stay w.conf (ups w) w.moment.0 h

-- of those behind it one has its group, VLAN and address now, and may stay
abbrev pub is_followed : World → HostRec → List HostRec → Bool
is_followed w h more = list_any (λ k. is_heard w.conf h k && may_stay_in w k) more

-- those that are kept up to some place leave it no room: at its port, in its VLAN, in the table, or since a port keeps its first for good
abbrev pub HasNoRoom : World → HostRec → Type 0
HasNoRoom w h = (first more : List HostRec) × (w.hosts.hosts ≡ first ++ more) × (finds_room w.conf w.hosts.limit first h ≡ false)

-- why a host with these behind it isn't kept: its datapath runs no more or its port isn't up, it may not stay, a later one has its
-- place, or there is no room
abbrev pub HasCause : World → HostRec → List HostRec → Type 0
HasCause w h more = (stands_in w h ≡ false) ⊎ ((may_stay_in w h ≡ false) ⊎ ((is_followed w h more ≡ true) ⊎ HasNoRoom w h))

pub record IsKept (before behind : World) : Type 0 where
  -- a part of the hosts, in order, with the moments at which they were heard
  pub part : IsPartOf behind.hosts.hosts before.hosts.hosts
  -- each may stay
  pub allowed : AllByRecursion (λ h. may_stay_in behind h ≡ true) behind.hosts.hosts
  -- each other one has a cause
  pub causes : (first : List HostRec) (h : HostRec) (more : List HostRec) → before.hosts.hosts ≡ first ++ h ∷ more → IsKnown behind h ⊎ HasCause behind h more

-- a reload that is refused leaves all hosts
abbrev pub KeepsBy : Result Configuration (List ℕ) → (before behind : World) → Type 0
KeepsBy (Ok next) before behind = IsKept before behind
KeepsBy (Err cause) before behind = behind.hosts ≡ before.hosts

abbrev pub KeepsByWhat : Happening → (before behind : World) → Type 0
KeepsByWhat (happenings.Reload text) before behind = KeepsBy (accepted text) before behind
KeepsByWhat other before behind = Unit {0}

abbrev pub KeepsItsHosts : Turn → Type 0
KeepsItsHosts t = KeepsByWhat t.what t.before (behind_turn t)
