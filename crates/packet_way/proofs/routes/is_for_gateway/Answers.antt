use Rattle.std.proofs.Common.{◌∙◌}
use Rattle.std.specs.Cmp.Lexicographic.{texts_ties}
use Rattle.packet_way.proofs.routes.is_for_gateway.Goals as goal

pub returns : goal.returns
returns c = c.eq.ensures ∙ texts_ties c.args.packet.now.dst.0 c.args.vlan.now.mac.0
