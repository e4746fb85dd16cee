use Rattle.std.proofs.Common.{◌∙◌}
use Rattle.conf_types.specs.Valid.{route_items}
use Rattle.conf_limits.proofs.Capped.{capped-terms}
use Rattle.conf_limits.proofs.sizes.all_route_items.Goals as goal

pub returns : goal.returns
returns c = c.add_route_items.ensures ∙ capped-terms c.args.cap (route_items c.args.conf.now) c.args.conf.now.vlans
