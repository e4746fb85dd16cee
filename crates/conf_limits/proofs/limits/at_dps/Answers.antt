use Rattle.std.proofs.Common.{ap, sym, ◌∙◌}
use Rattle.conf_types.specs.Configuration.{Configuration}
use Rattle.conf_rules.specs.Limits.{at_dp}
use Rattle.conf_rules.proofs.First.{walked_beside}
use Rattle.conf_limits.proofs.limits.at_dps.Goals as goal

pub returns-in-Some-2 : goal.returns-in-Some-2
returns-in-Some-2 c =
    (walked_beside (at_dp c.args.acls.now c.args.limit) c.args.ordered.now.dps _ c.args.acls.now.dps _ c.loop-i.i c.raw_dp-item.result c.in-Some.dp.now _ c.as_slice-raw_dp-items.ensures c.loop-i-test.true c.raw_dp-item.is (c.as_slice-dps.ensures ∙ c.dps.ensures ∙ ap (λ (k : Configuration). k.dps) c.conf.ensures) c.in-Some.ensures.lookup.3.0 c.in-Some.ensures.lookup.1 c.loop-i.invariant).1
    c.in-Some-2.found (sym c.in_ok-found.ensures ∙ c.in-Some-2.is)

pub loop-i-preserved : goal.loop-i-preserved
loop-i-preserved c =
    (walked_beside (at_dp c.args.acls.now c.args.limit) c.args.ordered.now.dps _ c.args.acls.now.dps _ c.loop-i.i c.raw_dp-item.result c.in-Some.dp.now _ c.as_slice-raw_dp-items.ensures c.loop-i-test.true c.raw_dp-item.is (c.as_slice-dps.ensures ∙ c.dps.ensures ∙ ap (λ (k : Configuration). k.dps) c.conf.ensures) c.in-Some.ensures.lookup.3.0 c.in-Some.ensures.lookup.1 c.loop-i.invariant).0
    (sym c.in_ok-found.ensures ∙ c.in_default-2.is)
