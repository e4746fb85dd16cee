-- What is touched where the clock shows a moment.
use Rattle.std.specs.Prelude.{ℕ, max, List, [], ◌∷◌, ◌++◌, filter, map}
use Rattle.std.specs.Option.{option_map_or}
use Rattle.conf_types.specs.State.{is_fresh, is_to_forget}
use Rattle.switch_session.specs.declared.quiet.Quiet.{Quiet}
use Rattle.switch_session.specs.declared.quiet.Quiet.TheVariants as quiet
use Rattle.switch_session.specs.Connections.{due_at}
use Rattle.ctl_world.specs.declared.conns.Conn.{Conn}
use Rattle.ctl_world.specs.Connections.{change, conn_with, with_looked}
use Rattle.ctl_world.specs.World.{World}
use Rattle.ctl_life.specs.Silence.{look, look_each, show}
use Rattle.conf_types.specs.declared.change.Change.{Change}
use Rattle.law_units.specs.Reached.{is_other}
use Rattle.law_names.specs.Differing.{host}
use Rattle.law_names.specs.Ends.{by_end}

-- the hosts that are fresh at one of two moments alone
abbrev pub by_moment : (moment : ℕ) → World → List Change
by_moment moment w =
    map (host w.conf) (filter (λ h. is_other (is_fresh w.conf w.moment.0 h) (is_fresh w.conf (max w.moment.0 moment) h)) w.hosts.hosts)

-- a connection that fell silent
abbrev pub by_stir : Quiet → (number : ℕ) → World → List Change
by_stir quiet.Well number w = []
by_stir quiet.Echo number w = []
by_stir quiet.Silent number w = by_end number w

abbrev pub by_look_on : World → Conn → List Change
by_look_on w c = by_stir (due_at c.session w.moment) c.number (record w { conns = change c.number (with_looked w.moment) w.conns })

abbrev pub by_look : (number : ℕ) → World → List Change
by_look number w = option_map_or (by_look_on w) (conn_with w.conns number) []

abbrev pub by_looks : List ℕ → World → List Change
by_looks [] w = []
by_looks (number ∷ numbers) w = by_look number w ++ by_looks numbers (look number w)

-- the hosts whose time is over
abbrev pub by_age : World → List Change
by_age w = map (host w.conf) (filter (is_to_forget w.conf w.moment.0) w.hosts.hosts)

abbrev pub by_passing : World → List Change
by_passing w = let numbers = map (λ c. c.number) w.conns in by_looks numbers w ++ by_age (look_each numbers w)

abbrev pub by_clock : (moment : ℕ) → World → List Change
by_clock moment w = by_moment moment w ++ by_passing (show moment w)
