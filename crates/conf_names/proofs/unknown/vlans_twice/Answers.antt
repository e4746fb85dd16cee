use Rattle.std.proofs.Common.{sym, ◌∙◌}
use Rattle.conf_rules.specs.Names.{twice_of_dp}
use Rattle.conf_rules.proofs.First.{walked}
use Rattle.conf_names.proofs.unknown.vlans_twice.Goals as goal

pub returns-in-Some : goal.returns-in-Some
returns-in-Some c =
    (walked (twice_of_dp c.args.ordered.now) c.args.ordered.now.dps _ c.loop-dp.dp-index c.dp-item.result _ c.as_slice-dp-items.ensures c.loop-dp-test.true c.dp-item.is c.loop-dp.invariant).1
    c.in-Some.found (sym c.in_ok-found.ensures ∙ c.in-Some.is)

pub loop-dp-preserved : goal.loop-dp-preserved
loop-dp-preserved c =
    (walked (twice_of_dp c.args.ordered.now) c.args.ordered.now.dps _ c.loop-dp.dp-index c.dp-item.result _ c.as_slice-dp-items.ensures c.loop-dp-test.true c.dp-item.is c.loop-dp.invariant).0
    (sym c.in_ok-found.ensures ∙ c.in_default.is)
