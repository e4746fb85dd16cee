-- What a new configuration does.
use Rattle.std.specs.Prelude.{◌≡◌, ℕ, Bool, false, not, is_some, if◌then◌else◌, List, [], ◌∷◌, ◌++◌, codes, filter, map, Result, Ok, Err}
use Rattle.std.specs.Fmt.{decimal}
use Rattle.std.specs.Option.{option_map_or}
use Rattle.net_base.specs.declared.numbers.DpId.{DpId}
use Rattle.yaml_subset.specs.declared.fault.YamlFault.{YamlFault}
use Rattle.yaml_tree.specs.declared.tree.Tree.{Tree}
use Rattle.yaml_subset.specs.Fault.{cause_text}
use Rattle.yaml_subset.specs.Reading.{read_of}
use Rattle.conf_types.specs.Configuration.{Configuration, dp_with}
use Rattle.conf_types.specs.Groups.{group_of}
use Rattle.conf_shape.specs.declared.refused.ConfFault.{ConfFault}
use Rattle.conf_causes.specs.Causes.{fault_text}
use Rattle.conf_check.specs.Accepted.{conf_of}
use Rattle.host_learn.specs.Kept as hosts
use Rattle.neighbour_resolve.specs.Asks.{in_order}
use Rattle.neighbour_resolve.specs.Kept as neighbours
use Rattle.switch_session.specs.declared.closing.Closing.TheVariants.{UnknownDp}
use Rattle.ctl_world.specs.declared.conns.Conn.{Conn}
use Rattle.ctl_world.specs.declared.said.Said.TheVariants as said
use Rattle.ctl_world.specs.Connections.{is_open}
use Rattle.ctl_world.specs.Ends.{close}
use Rattle.ctl_world.specs.Saying.{add_said}
use Rattle.ctl_world.specs.World.{World, running, ups}
use Rattle.ctl_core.specs.declared.reloading.Read.{Read}
use Rattle.ctl_core.specs.declared.reloading.Read.TheVariants.{Accepted, Refused}
use Rattle.ctl_core.specs.Hearing.{want_in}

-- ---- the configuration of a text, or why it has none, as it stands in a line

abbrev pub of_tree : Result Configuration ConfFault → Result Configuration (List ℕ)
of_tree (Ok conf) = Ok conf
of_tree (Err fault) = Err (fault_text fault)

abbrev pub yaml_fault_text : YamlFault → List ℕ
yaml_fault_text fault = codes "line " ++ decimal fault.line ++ codes ": " ++ cause_text fault.cause

abbrev pub of_text : Result Tree YamlFault → Result Configuration (List ℕ)
of_text (Ok t) = of_tree (conf_of t)
of_text (Err fault) = Err (yaml_fault_text fault)

abbrev pub accepted : (text : List ℕ) → Result Configuration (List ℕ)
accepted text = of_text (read_of text)

-- what the code made of it
abbrev pub Gives : Read → Result Configuration (List ℕ) → Type 0
Gives (Accepted conf) read = read ≡ Ok conf
Gives (Refused cause) read = read ≡ Err cause

-- ---- connections of datapaths that the new configuration hasn't

abbrev pub is_gone : Configuration → DpId → Bool
is_gone next dp = not (is_some (dp_with next.dps dp))

abbrev pub is_stray : Configuration → Conn → Bool
is_stray next c = option_map_or (is_gone next) c.dp false

-- their numbers, in ascending order, in which connections stand
abbrev pub strays : Configuration → List Conn → List ℕ
strays next conns = map (λ c. c.number) (filter (is_stray next) conns)

abbrev pub close_stray : (number : ℕ) → World → World
close_stray number w = if is_open w.conns number then close UnknownDp number w else w

abbrev pub close_each : List ℕ → World → World
close_each [] w = w
close_each (number ∷ numbers) w = close_each numbers (close_stray number w)

-- ---- the new configuration

-- interfaces are up and datapaths run by the new configuration, and what may stay is kept
abbrev pub renew : Configuration → World → World
renew next w = (let v = record w { conf = next } in record v {
  hosts = hosts.kept next (ups v) w.moment.0 w.hosts;
  neighbours = neighbours.kept next (running v) w.neighbours;
})

abbrev pub want_each : List DpId → World → World
want_each [] w = w
want_each (group ∷ groups) w = want_each groups (want_in group w)

-- the gateways of the groups that run are wanted
abbrev pub want_all : World → World
want_all w = want_each (in_order (map (group_of w.conf) (running w))) w

abbrev pub reload : Result Configuration (List ℕ) → World → World
reload (Ok next) w = want_all (renew next (close_each (strays next w.conns) w))
reload (Err cause) w = add_said (said.Line (codes "reload: " ++ cause) ∷ []) w
