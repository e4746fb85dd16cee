use Rattle.std.proofs.Common.{◌∙◌}
use Rattle.packet_way.proofs.Prefixes.{holds_as_item}
use Rattle.packet_way.proofs.routes.item_holds.Goals as goal

pub returns : goal.returns
returns c = c.holds.ensures ∙ holds_as_item c.args.item.now c.net.result c.net.ensures.ip c.net.ensures.len c.args.ip
