-- Groups as the code has them while a table is kept: asked for once for each datapath.
use Rattle.std.specs.Prelude.{◌==◌, ◌&&◌, Bool, Option, List}
use Rattle.std.specs.List.{find, list_any}
use Rattle.std.specs.Option.{option_map}
use Rattle.net_base.specs.declared.numbers.DpId.{DpId}
use Rattle.conf_types.specs.declared.datapath.Dp.{Dp}
use Rattle.conf_types.specs.declared.state.NeighRec.{NeighRec}
use Rattle.conf_types.specs.Configuration.{Configuration}
use Rattle.conf_types.specs.Groups.{group_of}
use Rattle.conf_types.specs.Networks.{is_neighbour_address}
use Rattle.conf_types.specs.Routing.{vips_of}
use Rattle.neighbour_resolve.specs.declared.kept.GroupRow.{GroupRow}

abbrev pub group_row : Configuration → Dp → GroupRow
group_row conf d = record { dp = d.id; group = group_of conf d.id }

abbrev pub regrouped_by : List GroupRow → NeighRec → Option NeighRec
regrouped_by rows n = option_map (λ row. record n { group = row.group }) (find (λ row. row.dp.0 == n.group.0) rows)

-- the neighbour's group is among these
abbrev pub is_in : (groups : List DpId) → NeighRec → Bool
is_in groups n = list_any (λ group. group.0 == n.group.0) groups

-- the groups are those of the datapaths that run
abbrev pub may_stay_by : Configuration → (groups : List DpId) → NeighRec → Bool
may_stay_by conf groups n = is_neighbour_address (vips_of conf n.vid) n.ip && is_in groups n
