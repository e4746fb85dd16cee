-- Which connections a reload closes.
use Rattle.std.specs.Prelude.{◌≡◌, ℕ, Bool, false, not, is_some, List, Result, Ok, Err}
use Rattle.std.specs.List.{list_any}
use Rattle.std.specs.Option.{option_map_or}
use Rattle.fg_outside.specs.declared.hub.Happening.{Happening}
use Rattle.fg_outside.specs.declared.hub.Happening.TheVariants as happenings
use Rattle.conf_types.specs.Configuration.{Configuration, dp_with}
use Rattle.ctl_world.specs.declared.conns.Conn.{Conn}
use Rattle.ctl_world.specs.declared.said.Said.{Said}
use Rattle.ctl_world.specs.Connections.{conn_with}
use Rattle.ctl_world.specs.World.{World}
use Rattle.ctl_core.specs.Reloading.{accepted}
use Rattle.law_lives.specs.Causes.{closes}
use Rattle.law_lives.specs.Steps.{Turn, behind_turn}

-- its switch is a datapath that this configuration hasn't
abbrev pub is_of_none : Configuration → Conn → Bool
is_of_none conf c = option_map_or (λ dp. not (is_some (dp_with conf.dps dp))) c.dp false

-- one that is accepted closes exactly the connections of such datapaths, and one that is refused none
abbrev pub ClosesBy : Result Configuration (List ℕ) → (before : World) → List Said → Type 0
ClosesBy (Ok next) before told = (number : ℕ) → list_any (closes number) told ≡ option_map_or (is_of_none next) (conn_with before.conns number) false
ClosesBy (Err cause) before told = (number : ℕ) → list_any (closes number) told ≡ false

abbrev pub ClosesByWhat : Happening → (before : World) → List Said → Type 0
ClosesByWhat (happenings.Reload text) before told = ClosesBy (accepted text) before told
ClosesByWhat other before told = Unit {0}

abbrev pub ClosesTheGone : Turn → Type 0
ClosesTheGone t = ClosesByWhat t.what t.before (behind_turn t).said
