-- How interfaces belong to VLANs.
use Rattle.std.specs.Prelude.{ℕ, ◌==◌, ◌&&◌, ◌||◌, not, Bool, false, List, length, is_some, is_none, filter, if◌then◌else◌}
use Rattle.std.specs.List.{list_any}
use Rattle.std.specs.Option.{option_map_or}
use Rattle.net_base.specs.declared.numbers.DpId.{DpId}
use Rattle.conf_types.specs.declared.datapath.Dp.{Dp}
use Rattle.conf_types.specs.declared.datapath.Port.{Port}
use Rattle.conf_types.specs.declared.datapath.Member.{Member}
use Rattle.conf_types.specs.declared.datapath.Member.TheVariants.{Native, Tagged, Stack}
use Rattle.conf_types.specs.declared.datapath.Member.TheVariants as member_case
use Rattle.conf_types.specs.Configuration.{Configuration, port_at, vlan_with}
use Rattle.conf_types.specs.Lists.{is_among}

-- an edge port: an enabled interface that is no end of a stack link and mirrors no port
abbrev pub is_edge : Port → Bool
is_edge p = p.enabled && is_none p.stack && length p.mirror == 0

-- an enabled end of a stack link
abbrev pub is_stack : Port → Bool
is_stack p = p.enabled && is_some p.stack

-- an edge port that takes packets in
abbrev pub is_accepting : Port → Bool
is_accepting p = is_edge p && not p.output_only

-- packets of the VLAN have no tag there
abbrev pub is_native_in : Port → ℕ → Bool
is_native_in p vid = option_map_or (λ v. v == vid) p.native false

-- packets of the VLAN have a tag there
abbrev pub is_tagged_in : Port → ℕ → Bool
is_tagged_in p vid = is_among p.tagged vid

-- an edge port of the VLAN
abbrev pub is_edge_member : Port → ℕ → Bool
is_edge_member p vid = is_edge p && (is_native_in p vid || is_tagged_in p vid)

-- how an interface belongs to a VLAN: an enabled end of a stack link to every one
abbrev pub member_of : Port → ℕ → Member
member_of p vid =
    if is_stack p then Stack
    else if is_edge p && is_native_in p vid then Native
    else if is_edge p && is_tagged_in p vid then Tagged
    else member_case.None

-- the same of an interface and a VLAN of the configuration; any others don't belong together
abbrev pub member : Configuration → DpId → ℕ → ℕ → Member
member conf id number vid =
    if is_some (vlan_with conf.vlans vid) then option_map_or (λ p. member_of p vid) (port_at conf id number) member_case.None
    else member_case.None

-- the datapath has an edge port of the VLAN
abbrev pub has_edge_member : Dp → ℕ → Bool
has_edge_member d vid = list_any (λ p. is_edge_member p vid) d.ports

-- the interface copies what the port with this number takes in and sends
abbrev pub is_mirror_of : Port → ℕ → Bool
is_mirror_of m number = is_among m.mirror number

-- the enabled interfaces that get the copies
abbrev pub mirrors_of : Dp → ℕ → List Port
mirrors_of d number = filter (λ m. m.enabled && is_mirror_of m number) d.ports

-- some interface mirrors the port, enabled or not
abbrev pub is_mirrored : Dp → ℕ → Bool
is_mirrored d number = list_any (λ m. is_mirror_of m number) d.ports
