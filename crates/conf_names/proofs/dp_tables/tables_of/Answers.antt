use Rattle.std.proofs.Common.{◌∙◌}
use Rattle.conf_names.specs.declared.dp_tables.DpTables.{DpTables}
use Rattle.conf_names.specs.Tables.{in_conf}
use Rattle.conf_names.proofs.Tables.{made_more}
use Rattle.conf_names.proofs.dp_tables.tables_of.Goals as goal

pub loop-dp-preserved : goal.loop-dp-preserved
loop-dp-preserved c =
    made_more (λ (t : DpTables). in_conf t.conf.now t.dp.now) (in_conf c.args.conf.now) c.loop-dp.tables.items _ c.in_ok-made.made c.args.conf.now.dps _ c.loop-dp.dp-index c.dp-item.result _
    (c.as_slice-dp-items.ensures ∙ c.dps.ensures) c.loop-dp-test.true c.dp-item.is c.in_ok-push.ensures.items c.in_ok-made.ensures c.loop-dp.invariant
