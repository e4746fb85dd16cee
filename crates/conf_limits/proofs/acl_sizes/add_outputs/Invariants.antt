use Rattle.std.proofs.Common.{◌≡◌, min, take}
use Rattle.std.specs.Prelude.{sum_by}
use Rattle.conf_types.specs.Valid.{ports_named}
use Rattle.conf_limits.proofs.acl_sizes.add_outputs.Given as goal

-- those so far are added
abbrev pub invariant-loop-rule : goal.invariant-loop-rule
invariant-loop-rule l = l.sum ≡ min l.cap (sum_by (ports_named l.ports.dp.now) (take l.rule-index l.rules))
