use Rattle.std.proofs.Common.{sym, ap, false, ◌==◌}
use Rattle.std.specs.Option.{option_map_or}
use Rattle.conf_types.specs.declared.vlan.Vlan.{Vlan}
use Rattle.conf_types.specs.Membership.{is_native_in}
use Rattle.conf_rules.proofs.Groups.{count-none}
use Rattle.conf_limits.proofs.members.Counted.with_native.Goals as goal

pub returns-in-None : goal.returns-in-None
returns-in-None c =
    sym (count-none (λ (v : Vlan). is_native_in c.args.port.now v.vid) (λ v. ap (λ o. option_map_or (λ n. n == v.vid) o false) c.in-None.is) c.args.self.now.vlans.now)
