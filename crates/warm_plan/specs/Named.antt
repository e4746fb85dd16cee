-- What changes name, beside the units that they reach.
use Rattle.std.specs.Prelude.{Bool, true, false}
use Rattle.std.specs.Option.{option_map_or}
use Rattle.conf_types.specs.Configuration.{Configuration, port_at}
use Rattle.conf_types.specs.Membership.{is_stack}
use Rattle.conf_types.specs.declared.change.Change.{Change}
use Rattle.conf_types.specs.declared.change.Change.TheVariants as change

-- a neighbour
abbrev pub names_neighbour : Change → Bool
names_neighbour (change.Host group vid mac) = false
names_neighbour (change.Port dp port) = false
names_neighbour (change.Dp dp) = false
names_neighbour (change.Neighbour group vid ip) = true

-- an end of a stack link
abbrev pub names_link : Configuration → Change → Bool
names_link conf (change.Host group vid mac) = false
names_link conf (change.Port dp port) = option_map_or is_stack (port_at conf dp port) false
names_link conf (change.Dp dp) = false
names_link conf (change.Neighbour group vid ip) = false
