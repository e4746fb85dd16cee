-- Routes worked out by hand.
use Rattle.std.specs.Prelude.{List, [], ◌∷◌}
use Rattle.net_base.specs.declared.address.Ip4.{Ip4}
use Rattle.net_base.specs.declared.net4.Net4.{Net4}
use Rattle.bgp_messages.specs.declared.message.Update.{Update}
use Rattle.bgp_routes.specs.declared.routes.BgpRoute.{BgpRoute}
use Rattle.bgp_routes.specs.Networks.{Fits}

-- 10.0.100.1
abbrev pub gateway : Ip4
gateway = record { 0 = 0x0a006401 }

-- 172.16.0.0/16, and 172.16.5.9/16, which is the same but for its host bits
abbrev pub net : Fits → Net4
net fits = record { ip = record { 0 = 0xac100000 }; len = 16; short = fits }

abbrev pub net_with_host : Fits → Net4
net_with_host fits = record { ip = record { 0 = 0xac100509 }; len = 16; short = fits }

abbrev pub office : Fits → Update
office fits = record { withdrawn = []; path = 65002 ∷ []; next_hop = gateway; announced = net_with_host fits ∷ [] }

abbrev pub office_withdrawn : Fits → Update
office_withdrawn fits = record { withdrawn = net_with_host fits ∷ []; path = []; next_hop = record { 0 = 0 }; announced = [] }

abbrev pub office_by_us : Fits → Update
office_by_us fits = record { withdrawn = []; path = 65002 ∷ 65001 ∷ []; next_hop = gateway; announced = net_with_host fits ∷ [] }

abbrev pub office_routes : Fits → List BgpRoute
office_routes fits = record { dst = net fits; gw = gateway } ∷ []
