-- The parts of a state, by their names.
use Rattle.std.specs.Prelude.{List, ◌++◌, map}
use Rattle.conf_types.specs.Configuration.{Configuration}
use Rattle.conf_types.specs.Groups.{group_of}
use Rattle.conf_types.specs.State.{State}
use Rattle.conf_types.specs.declared.change.Change.{Change}
use Rattle.conf_types.specs.declared.change.Change.TheVariants as change

abbrev pub names : Configuration → State → List Change
names conf now =
    map (λ h. change.Host (group_of conf h.dp) h.vid h.mac) now.hosts
    ++ (map (λ up. change.Port up.dp up.port) now.ups ++ (map change.Dp now.running ++ map (λ n. change.Neighbour n.group n.vid n.ip) now.neighbours))
