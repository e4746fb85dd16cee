use Rattle.std.proofs.Common.{rules, refl}
use Rattle.conf_types.specs.Valid.{ports_named}
use Rattle.conf_limits.proofs.Capped.{added_whole}
use Rattle.conf_limits.proofs.acl_sizes.add_outputs.Goals as goal

pub loop-rule-preserved : goal.loop-rule-preserved
loop-rule-preserved c =
    added_whole c.args.cap (ports_named c.args.ports.now.dp.now) c.args.rules.now _ c.loop-rule.rule-index c.rule-item.result _ _ _ refl c.loop-rule-test.true c.rule-item.is c.loop-rule.invariant c.in_ok-named.ensures (search rules)
