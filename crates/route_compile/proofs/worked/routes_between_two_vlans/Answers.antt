use Rattle.std.proofs.Common.{refl}
use Rattle.packet_way.specs.Routes.{route_list}
use Rattle.route_compile.proofs.worked.routes_between_two_vlans.Goals as goal

pub returns : goal.returns
unfolding route_list
returns c = record { table_4 = λ fit. refl; table_5 = λ fit. refl }
