-- Which VLANs packets are routed between.
use Rattle.std.specs.Prelude.{ℕ, ◌==◌, not, if◌then◌else◌, Option, List, [], ◌∷◌, filter}
use Rattle.std.specs.List.{find, flat_map}
use Rattle.std.specs.Option.{option_map_or}
use Rattle.conf_types.specs.declared.address.Net.{Net}
use Rattle.conf_types.specs.declared.vlan.Route.{Route}
use Rattle.conf_types.specs.declared.vlan.Router.{Router}
use Rattle.conf_types.specs.declared.vlan.Vlan.{Vlan}
use Rattle.conf_types.specs.Configuration.{Configuration, vlan_with}
use Rattle.conf_types.specs.Lists.{is_among}
use Rattle.conf_types.specs.Networks.{is_link_local}

-- the router of a VLAN
abbrev pub router_with : List Router → ℕ → Option Router
router_with routers vid = find (λ router. is_among router.vlans vid) routers

-- the routing set of a VLAN: the VLANs of its router, or itself alone
abbrev pub routing_set : Configuration → ℕ → List ℕ
routing_set conf vid = option_map_or (λ router. router.vlans) (router_with conf.routers vid) (vid ∷ [])

-- the VIPs of a VLAN; of VLANs
abbrev pub vips_of : Configuration → ℕ → List Net
vips_of conf vid = option_map_or (λ vlan. vlan.vips) (vlan_with conf.vlans vid) []

abbrev pub vips_in : Configuration → List ℕ → List Net
vips_in conf vids = flat_map (vips_of conf) vids

-- the VIPs of a VLAN that packets of a VLAN are routed by: a link-local network is of one link, and so of its
-- own VLAN alone
abbrev pub vips_from : ℕ → Vlan → List Net
vips_from vid w = if w.vid == vid then w.vips else filter (λ vip. not (is_link_local vip)) w.vips

-- the routes of a VLAN; of VLANs
abbrev pub routes_of : Configuration → ℕ → List Route
routes_of conf vid = option_map_or (λ vlan. vlan.routes) (vlan_with conf.vlans vid) []

abbrev pub routes_in : Configuration → List ℕ → List Route
routes_in conf vids = flat_map (routes_of conf) vids
