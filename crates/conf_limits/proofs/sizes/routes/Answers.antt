use Rattle.std.proofs.Common.{length, ◌∙◌}
use Rattle.conf_types.specs.declared.vlan.Vlan.{Vlan}
use Rattle.conf_limits.proofs.Capped.{capped-sum}
use Rattle.conf_limits.proofs.sizes.routes.Goals as goal

pub returns : goal.returns
returns c = c.add_routes.ensures ∙ capped-sum c.args.cap (λ (v : Vlan). length v.routes) c.args.conf.now.vlans
