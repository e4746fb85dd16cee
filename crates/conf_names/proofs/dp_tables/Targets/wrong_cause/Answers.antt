use Rattle.std.proofs.Common.{ap, sym}
use Rattle.conf_types.specs.declared.datapath.Dp.{Dp}
use Rattle.conf_types.specs.Configuration.{Configuration}
use Rattle.conf_names.specs.declared.dp_tables.DpTables.{DpTables}
use Rattle.conf_rules.specs.Places.{first}
use Rattle.conf_rules.specs.Ports.{wrong_on}
use Rattle.conf_names.specs.Tables.{in_conf}
use Rattle.conf_rules.proofs.First.{walked}
use Rattle.conf_names.proofs.Tables.{joined_alike}
use Rattle.conf_names.proofs.dp_tables.Targets.wrong_cause.Goals as goal

pub loop-tables-init : goal.loop-tables-init
loop-tables-init c =
    let conf = c.args.self.now.conf.now in
    ap first (joined_alike (λ (p : Configuration × Dp). wrong_on p.0 c.args.acl.now.name c.args.name.now p.1) (λ (t : DpTables). in_conf t.conf.now t.dp.now) (in_conf conf) c.args.self.now.dps.items conf.dps c.args.self.now.right)

pub returns-in-Some : goal.returns-in-Some
returns-in-Some c =
    (walked (λ (t : DpTables). wrong_on t.conf.now c.args.acl.now.name c.args.name.now t.dp.now) c.args.self.now.dps.items _ c.loop-tables.tables-index c.tables-item.result _ c.as_slice-tables-items.ensures.value c.loop-tables-test.true c.tables-item.is c.loop-tables.invariant).1
    c.in-Some.cause (sym c.in-Some.ensures)

pub loop-tables-preserved : goal.loop-tables-preserved
loop-tables-preserved c =
    (walked (λ (t : DpTables). wrong_on t.conf.now c.args.acl.now.name c.args.name.now t.dp.now) c.args.self.now.dps.items _ c.loop-tables.tables-index c.tables-item.result _ c.as_slice-tables-items.ensures.value c.loop-tables-test.true c.tables-item.is c.loop-tables.invariant).0
    (sym c.in_default.ensures)
