use Rattle.std.proofs.Common.{◌≡◌, min, take}
use Rattle.std.specs.Prelude.{sum_by}
use Rattle.conf_types.specs.Valid.{ports_named}
use Rattle.conf_limits.specs.Sizes.{cost}
use Rattle.conf_limits.proofs.acl_sizes.outputs_on_ports.Given as goal

-- those so far are added
abbrev pub invariant-loop-port : goal.invariant-loop-port
invariant-loop-port l = l.sum ≡ min l.cap (sum_by (λ p. cost (λ rules. sum_by (ports_named l.ports.dp.now) rules) l.acls p.acls) (take l.port-index l.ports.dp.now.ports))
