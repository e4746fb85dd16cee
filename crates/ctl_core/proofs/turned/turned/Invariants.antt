use Rattle.std.proofs.Common.{◌≡◌, ◌++◌, Some, filter, map}
use Rattle.std.specs.Option.{option_map}
use Rattle.ctl_settle.specs.Names.{host}
use Rattle.ctl_core.specs.Turning.{turned, turns}
use Rattle.ctl_core.proofs.turned.turned.Given as goal

-- those that were named, and those of the hosts that are left
abbrev pub invariant-loop-host : goal.invariant-loop-host
invariant-loop-host l =
    option_map (λ named. named ++ map (host l.world.conf) (filter (turns l.world.conf l.before.0 l.world.moment.0) l.host-iterator)) l.touched ≡ Some (turned l.before.0 l.world)
