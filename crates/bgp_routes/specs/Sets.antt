-- A set of routes: a list by network, no two of one network.
use Rattle.std.specs.Prelude.{◌≡◌, ℕ, suc, Bool, true, not, if◌then◌else◌, List, [], ◌∷◌, filter, insert, Option, Some, None}
use Rattle.std.specs.List.{AllByRecursion}
use Rattle.net_base.specs.declared.address.Ip4.{Ip4}
use Rattle.net_base.specs.declared.net4.Net4.{Net4}
use Rattle.bgp_routes.specs.declared.routes.BgpRoute.{BgpRoute}
use Rattle.bgp_routes.specs.Networks.{IsNetwork, is_before, is_same}

-- the next hop to a network, if there is one
abbrev pub via : Net4 → List BgpRoute → Option Ip4
via net [] = None
via net (r ∷ routes) = if is_same r.dst net then Some r.gw else via net routes

abbrev pub is_other : Net4 → BgpRoute → Bool
is_other net r = not (is_same r.dst net)

-- the routes to other networks
abbrev pub without : Net4 → List BgpRoute → List BgpRoute
without net routes = filter (is_other net) routes

-- how many routes in front stand before a network
abbrev pub place : Net4 → List BgpRoute → ℕ
place net [] = 0
place net (r ∷ routes) = if is_before r.dst net then suc (place net routes) else 0

-- a route in its place, instead of the one to its network
abbrev pub put : BgpRoute → List BgpRoute → List BgpRoute
put route routes = insert (without route.dst routes) (place route.dst (without route.dst routes)) route

abbrev pub AreAscending : List BgpRoute → Type 0
AreAscending [] = Unit {0}
AreAscending (r ∷ routes) = AllByRecursion (λ other. is_before r.dst other.dst ≡ true) routes × AreAscending routes

-- each route leads to a network, with no host bit set
abbrev pub LeadToNetworks : List BgpRoute → Type 0
LeadToNetworks routes = AllByRecursion (λ r. IsNetwork r.dst) routes
