-- What a table keeps where the configuration is replaced by a new one, in three steps.
use Rattle.std.specs.Prelude.{◌==◌, ◌&&◌, Bool, Option, List, [], ◌∷◌, filter, if◌then◌else◌}
use Rattle.std.specs.List.{list_any, filter_map}
use Rattle.std.specs.Option.{option_map}
use Rattle.net_base.specs.declared.numbers.DpId.{DpId}
use Rattle.conf_types.specs.declared.state.NeighRec.{NeighRec}
use Rattle.conf_types.specs.Configuration.{Configuration, dp_with}
use Rattle.conf_types.specs.Groups.{group_of}
use Rattle.conf_types.specs.Networks.{is_neighbour_address}
use Rattle.conf_types.specs.Routing.{vips_of}
use Rattle.neighbour_resolve.specs.Table.{Table, is_same}

-- first: a neighbour's datapath is the one whose identifier was the number of its group. The neighbour is of
-- that datapath's group, and goes where there is no such datapath any more
abbrev pub regrouped : Configuration → NeighRec → Option NeighRec
regrouped conf n = option_map (λ d. record n { group = group_of conf d.id }) (dp_with conf.dps n.group)

-- second: those whose address is still a neighbour's of their VLAN, where a datapath of their group runs
abbrev pub may_stay : Configuration → (running : List DpId) → NeighRec → Bool
may_stay conf running n = is_neighbour_address (vips_of conf n.vid) n.ip && list_any (λ dp. (group_of conf dp).0 == n.group.0) running

-- third: of several with one key the last
abbrev pub last_of_each : List NeighRec → List NeighRec
last_of_each [] = []
last_of_each (n ∷ more) = if list_any (is_same n) more then last_of_each more else n ∷ last_of_each more

abbrev pub kept_neighbours : Configuration → (running : List DpId) → List NeighRec → List NeighRec
kept_neighbours conf running neighbours = last_of_each (filter (may_stay conf running) (filter_map (regrouped conf) neighbours))

abbrev pub kept : Configuration → (running : List DpId) → Table → Table
kept conf running table = record table { neighbours = kept_neighbours conf running table.neighbours }
