-- What an UPDATE does to the routes (RFC 4271, 3.1 and 9).
use Rattle.std.specs.Prelude.{ℕ, Bool, ◌==◌, if◌then◌else◌, List, fold}
use Rattle.std.specs.List.{list_any}
use Rattle.net_base.specs.declared.address.Ip4.{Ip4}
use Rattle.net_base.specs.declared.net4.Net4.{Net4}
use Rattle.bgp_messages.specs.declared.message.Update.{Update}
use Rattle.bgp_routes.specs.declared.routes.BgpRoute.{BgpRoute}
use Rattle.bgp_routes.specs.Networks.{cleared, is_same}
use Rattle.bgp_routes.specs.Sets.{without, put}

-- our AS stands in the path (9.1.2)
abbrev pub is_looped : (our_as : ℕ) → Update → Bool
is_looped our_as update = list_any (λ number. number == our_as) update.path

-- networks go, one by one
abbrev pub gone : List BgpRoute → Net4 → List BgpRoute
gone routes net = without (cleared net) routes

abbrev pub withdrawn_from : List BgpRoute → List Net4 → List BgpRoute
withdrawn_from routes nets = fold gone routes nets

-- networks are set to the next hop, one by one
abbrev pub come : Ip4 → List BgpRoute → Net4 → List BgpRoute
come gw routes net = put (record { dst = cleared net; gw = gw }) routes

abbrev pub announced_in : Ip4 → List BgpRoute → List Net4 → List BgpRoute
announced_in gw routes nets = fold (come gw) routes nets

-- first the withdrawn networks go, then the announced ones come, or go where our AS stands in the path
abbrev pub after : (our_as : ℕ) → List BgpRoute → Update → List BgpRoute
after our_as routes update =
    let left = withdrawn_from routes update.withdrawn in
    if is_looped our_as update then withdrawn_from left update.announced else announced_in update.next_hop left update.announced

-- a network is among others, whatever their host bits
abbrev pub names : List Net4 → Net4 → Bool
names nets net = list_any (λ n. is_same (cleared n) net) nets
