-- The routes that were met so far, as a set of where they lead.
use Rattle.std.specs.Prelude.{◌≡◌, ℕ, ◌==◌, ◌&&◌, ◌||◌, Bool, List}
use Rattle.std.specs.List.{list_any}
use Rattle.std.specs.HashSet.{HashSet, contains}
use Rattle.conf_types.specs.declared.vlan.Route.{Route}
use Rattle.conf_types.specs.declared.vlan.Vlan.{Vlan}
use Rattle.conf_types.specs.Families.{ip_value, width_of, address_of, len_of}
use Rattle.conf_rules.specs.Routing.{is_same_route}
use Rattle.conf_limits.specs.declared.met_routes.Destination.{Destination}

abbrev pub is_same_destination : Destination → Destination → Bool
is_same_destination a b = a.vid == b.vid && (a.width == b.width && (a.value == b.value && a.len == b.len))

abbrev pub destination_of : ℕ → Route → Destination
destination_of vid route = let ip = address_of route.dst in record { vid = vid; width = width_of ip; value = ip_value ip; len = len_of route.dst }

-- a route of the VLAN to the same network was met
abbrev pub has_route : {S : Type 0} → HashSet Destination S → ℕ → Route → Bool
has_route met vid route = contains is_same_destination met (destination_of vid route)

-- a VLAN with the identifier has a route to the same network
abbrev pub has_same_route : List Vlan → ℕ → Route → Bool
has_same_route vlans n route = list_any (λ w. w.vid == n && list_any (λ other. is_same_route other route) w.routes) vlans

-- or one of these routes of the next VLAN is such
abbrev pub has_same_route_so_far : List Vlan → ℕ → List Route → ℕ → Route → Bool
has_same_route_so_far vlans vid routes n route = has_same_route vlans n route || (vid == n && list_any (λ other. is_same_route other route) routes)

-- the set has these routes, by VLAN and network, and no others
abbrev pub HasRoutes : {S : Type 0} → HashSet Destination S → (ℕ → Route → Bool) → Type 0
HasRoutes met say = (n : ℕ) (route : Route) → has_route met n route ≡ say n route
