use Rattle.std.proofs.Common.{◌&&◌, ◌||◌, sym, ap, ◌∙◌}
use Rattle.conf_types.specs.declared.vlan.Vlan.{Vlan}
use Rattle.conf_types.specs.Membership.{is_edge_member, is_native_in, is_tagged_in}
use Rattle.conf_rules.proofs.Groups.{count-none}
use Rattle.conf_limits.proofs.members.Counted.edge_members.Goals as goal

pub returns-else-is_edge : goal.returns-else-is_edge
returns-else-is_edge c =
    sym (count-none (λ (v : Vlan). is_edge_member c.args.port.now v.vid) (λ v. ap (λ b. b && (is_native_in c.args.port.now v.vid || is_tagged_in c.args.port.now v.vid)) (sym c.is_edge.ensures ∙ c.if-is_edge.false)) c.args.self.now.vlans.now)
