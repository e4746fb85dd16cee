use Rattle.std.proofs.Common.{◌∙◌, ap}
use Rattle.net_base.specs.declared.numbers.DpId.{DpId}
use Rattle.conf_types.specs.State.{is_vlan_full}
use Rattle.vlan_compile.proofs.counted.Place.is_group_full.Goals as goal

pub returns : goal.returns
returns g c = c.is_vlan_full.ensures ∙ ap (λ (group : DpId). is_vlan_full c.args.self.now.conf.now (g.C.CountsHosts.hosts c.args.self.now.hosts.now) group c.args.vlan.now) c.args.self.now.right
