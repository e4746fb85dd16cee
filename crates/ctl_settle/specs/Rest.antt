-- When a settling has nothing to say, and until when.
use Rattle.std.specs.Prelude.{◌≡◌, ◌⊎◌, ◌≤◌, ◌<◌, ℕ, true, List, None, Some, is_some, min, not, filter, if◌then◌else◌}
use Rattle.std.specs.List.{AllByRecursion, fold}
use Rattle.net_base.specs.declared.numbers.DpId.{DpId}
use Rattle.of_match.specs.FlowTables.{IsInKeyOrder}
use Rattle.conf_types.specs.declared.state.HostRec.{HostRec}
use Rattle.conf_types.specs.declared.state.NeighRec.{NeighRec}
use Rattle.conf_types.specs.Configuration.{Configuration}
use Rattle.conf_types.specs.Lists.{EachBefore}
use Rattle.conf_types.specs.State.{forgotten_at, is_fresh, is_permanent, is_running, is_to_forget, stale_at}
use Rattle.neighbour_resolve.specs.Due.{never, due_said}
use Rattle.ctl_world.specs.declared.conns.Conn.{Conn}
use Rattle.ctl_world.specs.Connections.{conn_of}
use Rattle.ctl_world.specs.World.{World, running}
use Rattle.ctl_settle.specs.Settling.{wanted}

-- no neighbour is due, and each running datapath has a barrier outstanding or the entries that it is to have
pub record IsAtRest (w : World) : Type 0 where
  pub asks : due_said w.conf w.moment.0 w.neighbours.neighbours ≡ None
  pub batches : (dp : DpId) → is_running (running w) dp ≡ true → (c : Conn) → conn_of w.conns dp ≡ Some c
      → (is_some c.session.state.awaited ≡ true) ⊎ (c.sent ≡ wanted w dp)

-- the clock shows another moment
abbrev pub at_moment : ℕ → World → World
at_moment moment w = record w { moment = record { 0 = moment } }

-- at a moment no host's time is over
abbrev pub NoneIsOver : World → Type 0
NoneIsOver w = filter (λ h. not (is_to_forget w.conf w.moment.0 h)) w.hosts.hosts ≡ w.hosts.hosts

-- it stays so at each moment from now on and before this one
abbrev pub RestsUntil : (moment : ℕ) → World → Type 0
RestsUntil moment w = (m : ℕ) → w.moment.0 ≤ m → m < moment → IsAtRest (at_moment m w) × NoneIsOver (at_moment m w)

-- the moment at which a host turns stale, or of one that is stale the moment at which it is to be forgotten; of one that
-- stays for good the moment that never comes
abbrev pub host_until : Configuration → (moment : ℕ) → HostRec → ℕ
host_until conf moment h =
    if is_permanent conf h then never
    else if is_fresh conf moment h then stale_at conf h.dp h.learned.0
    else forgotten_at conf h.dp h.learned.0

-- the least of all of them
abbrev pub hosts_until : Configuration → (moment : ℕ) → List HostRec → ℕ
hosts_until conf moment hosts = fold (λ least h. min least (host_until conf moment h)) never hosts

-- the least moment at which a neighbour is due
abbrev pub neighbours_until : List NeighRec → ℕ
neighbours_until neighbours = fold (λ least n. min least n.due.0) never neighbours

-- the first moment at which a host turns stale or is to be forgotten, or a neighbour is due
abbrev pub rests_until : World → ℕ
rests_until w = min (hosts_until w.conf w.moment.0 w.hosts.hosts) (neighbours_until w.neighbours.neighbours)

-- ---- a bound of it

-- no host's moment comes before this one
abbrev pub AreBounded : (bound : ℕ) → World → Type 0
AreBounded bound w = AllByRecursion (λ h. bound ≤ host_until w.conf w.moment.0 h) w.hosts.hosts

-- it comes no later than that first moment; and it lies ahead, or is that moment
pub record IsBound (w : World) (until : ℕ) : Type 0 where
  pub least : until ≤ rests_until w
  pub ahead : (w.moment.0 < until) ⊎ (until ≡ rests_until w)

-- the connections stand by number, and what was noted of each is in key order
pub record AreInOrder (w : World) : Type 0 where
  pub numbers : EachBefore (λ a b. a.number < b.number) w.conns
  pub keys : AllByRecursion (λ c. IsInKeyOrder c.sent) w.conns
