-- A reload whose text has the configuration that is in force.
use Rattle.std.specs.Prelude.{◌≡◌, ◌<◌, Ok}
use Rattle.fg_outside.specs.declared.hub.Happening.{Happening}
use Rattle.fg_outside.specs.declared.hub.Happening.TheVariants as happenings
use Rattle.neighbour_resolve.specs.Due.{never}
use Rattle.ctl_world.specs.World.{World}
use Rattle.ctl_core.specs.Reloading.{accepted}
use Rattle.law_lives.specs.Steps.{Turn, behind_turn}

-- it keeps all hosts, in order, with their places and the moments at which they were heard, unless the greatest moment has come, at which
-- the time of each is over
abbrev pub KeepsAllBy : Happening → (before behind : World) → Type 0
KeepsAllBy (happenings.Reload text) before behind = accepted text ≡ Ok before.conf → before.moment.0 < never → behind.hosts ≡ before.hosts
KeepsAllBy other before behind = Unit {0}

abbrev pub KeepsAllHosts : Turn → Type 0
KeepsAllHosts t = KeepsAllBy t.what t.before (behind_turn t)
