use Rattle.std.proofs.Common.{◌≡◌, min, take}
use Rattle.std.specs.Prelude.{sum_by}
use Rattle.conf_types.specs.Valid.{ports_named}
use Rattle.conf_limits.specs.Sizes.{named_rules}
use Rattle.conf_limits.proofs.acl_sizes.outputs.Given as goal

-- those so far are added
abbrev pub invariant-loop-name : goal.invariant-loop-name
invariant-loop-name l = l.sum ≡ min l.cap (sum_by (λ name. sum_by (ports_named l.ports.dp.now) (named_rules l.acls name)) (take l.name-index l.names))
