-- Connections on which no byte came for too long.
use Rattle.std.specs.Prelude.{ℕ, ◌-◌, nat_le, max, Bool, true, false, List, [], ◌∷◌}
use Rattle.std.specs.Option.{option_map_or}
use Rattle.net_base.specs.declared.numbers.Moment.{Moment}
use Rattle.of13_codec.specs.declared.message.Message.TheVariants as messages
use Rattle.switch_session.specs.declared.closing.Closing.TheVariants.{Silent}
use Rattle.switch_session.specs.declared.quiet.Quiet.{Quiet}
use Rattle.switch_session.specs.declared.quiet.Quiet.TheVariants as quiet
use Rattle.switch_session.specs.Connections.{due_at}
use Rattle.ctl_world.specs.declared.conns.Conn.{Conn}
use Rattle.ctl_world.specs.Connections.{change, conn_with, with_looked}
use Rattle.ctl_world.specs.Ends.{close}
use Rattle.ctl_world.specs.Saying.{say}
use Rattle.ctl_world.specs.World.{World}

abbrev pub show : (moment : ℕ) → World → World
show moment w = record w { moment = record { 0 = max w.moment.0 moment } }

-- an echo is asked for, or the connection closed, where no byte came for too long
abbrev pub stir : Quiet → (number : ℕ) → World → World
stir quiet.Well number w = w
stir quiet.Echo number w = say number (messages.EchoRequest []) w
stir quiet.Silent number w = close Silent number w

abbrev pub look_on : World → Conn → World
look_on w c = stir (due_at c.session w.moment) c.number (record w { conns = change c.number (with_looked w.moment) w.conns })

abbrev pub look : (number : ℕ) → World → World
look number w = option_map_or (look_on w) (conn_with w.conns number) w

abbrev pub look_each : List ℕ → World → World
look_each [] w = w
look_each (number ∷ numbers) w = look_each numbers (look number w)

-- ---- which are closed

abbrev pub closes : Quiet → Bool
closes quiet.Well = false
closes quiet.Echo = false
closes quiet.Silent = true

-- no byte came for 60 seconds
abbrev pub is_silent : Moment → Conn → Bool
is_silent now c = nat_le 60000 (now.0 - c.session.heard.0)

abbrev pub falls_silent : World → (number : ℕ) → Bool
falls_silent w number = option_map_or (is_silent w.moment) (conn_with w.conns number) false
