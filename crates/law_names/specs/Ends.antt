-- What the ends of connections touch, and other steps of a connection.
use Rattle.std.specs.Prelude.{ℕ, not, List, [], ◌∷◌, ◌++◌, filter, map}
use Rattle.std.specs.List.{filter_map, flat_map}
use Rattle.std.specs.Option.{option_map_or}
use Rattle.net_base.specs.declared.numbers.DpId.{DpId}
use Rattle.conf_types.specs.Configuration.{Configuration, dp_with}
use Rattle.ctl_world.specs.declared.conns.Conn.{Conn}
use Rattle.ctl_world.specs.Connections.{change as changed, conn_of, has_number, with_dp, without}
use Rattle.ctl_world.specs.Ends.{is_reached, stands}
use Rattle.ctl_world.specs.World.{World, running, ups}
use Rattle.conf_types.specs.declared.change.Change.{Change}
use Rattle.conf_types.specs.declared.change.Change.TheVariants as change
use Rattle.law_names.specs.Differing.{host, neighbour}

-- a datapath and its ports
abbrev pub place : Configuration → DpId → List Change
place conf dp = change.Dp dp ∷ map (λ p. change.Port dp p.no) (option_map_or (λ d. d.ports) (dp_with conf.dps dp) [])

abbrev pub places : Configuration → List DpId → List Change
places conf dps = flat_map (place conf) dps

-- the datapath of a connection, by its number
abbrev pub dps_on : ℕ → List Conn → List DpId
dps_on number conns = filter_map (λ c. c.dp) (filter (has_number number) conns)

-- what is forgotten, where it isn't at a port that is up, or its group doesn't run
abbrev pub lost : World → List Change
lost w =
    map (host w.conf) (filter (λ h. not (stands (running w) (ups w) h)) w.hosts.hosts)
    ++ map neighbour (filter (λ n. not (is_reached w.conf (running w) n)) w.neighbours.neighbours)

-- the connection goes, with what was known through it
abbrev pub by_end : (number : ℕ) → World → List Change
by_end number w = places w.conf (dps_on number w.conns) ++ lost (record w { conns = without number w.conns })

-- it takes a step, by which ports may have gone down
abbrev pub by_change : (number : ℕ) → (Conn → Conn) → World → List Change
by_change number f w = places w.conf (dps_on number w.conns) ++ lost (record w { conns = changed number f w.conns })

-- another one of the datapath gives way
abbrev pub by_replace : DpId → World → List Change
by_replace dp w = option_map_or (λ c. by_end c.number w) (conn_of w.conns dp) []

abbrev pub by_take : (number : ℕ) → DpId → World → List Change
by_take number dp w = places w.conf (dp ∷ dps_on number w.conns) ++ lost (record w { conns = changed number (with_dp dp) w.conns })
