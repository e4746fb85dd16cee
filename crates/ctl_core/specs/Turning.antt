-- The hosts that turn stale or fresh between two moments, or are to be forgotten then.
use Rattle.std.specs.Prelude.{ℕ, ◌||◌, Bool, Option, List, map, filter}
use Rattle.std.specs.Option.{option_map_or}
use Rattle.conf_types.specs.declared.state.HostRec.{HostRec}
use Rattle.conf_types.specs.Configuration.{Configuration}
use Rattle.conf_types.specs.State.{State, is_fresh, is_to_forget}
use Rattle.ctl_world.specs.World.{World, now}
use Rattle.conf_types.specs.declared.change.Change.{Change}
use Rattle.ctl_settle.specs.Names.{host, is_other}
use Rattle.ctl_core.specs.Behind.{behind}
use Rattle.ctl_core.specs.Turns.{age}

abbrev pub turns : Configuration → (before moment : ℕ) → HostRec → Bool
turns conf before moment h = is_other (is_fresh conf before h) (is_fresh conf moment h) || is_to_forget conf moment h

abbrev pub turned : (before : ℕ) → World → List Change
turned before w = map (host w.conf) (filter (turns w.conf before w.moment.0) w.hosts.hosts)

-- what differs once the hosts whose time is over are forgotten: from what was known, where that was kept since connections
-- fell silent; else the hosts that the moment turns
abbrev pub aged : (before : ℕ) → (kept : Option State) → World → List Change
aged before kept w = option_map_or (λ s. behind w.conf s (now (age w))) kept (turned before w)
