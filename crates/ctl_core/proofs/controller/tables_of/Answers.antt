use Rattle.std.proofs.Common.{◌≡◌, ◌∙◌, Some, sym}
use Rattle.ctl_world.specs.Connections.{conn_of}
use Rattle.ctl_core.proofs.SaidTables.{plan_sent, tables_none, tables_some}
use Rattle.ctl_core.proofs.controller.tables_of.Goals as goal

pub returns-then-not-is_running : goal.returns-then-not-is_running
returns-then-not-is_running c = tables_none c.args.known.now.world c.args.dp (sym c.is_running.ensures ∙ c.if-not-is_running.true)

pub returns-in-Some : goal.returns-in-Some
returns-in-Some c =
    let k = c.args.known.now in
    let found : Some c.in-Some.conn.now ≡ conn_of k.world.conns c.args.dp = rw c.in-Some.is at c.of.ensures in
    let runs = sym c.is_running.ensures ∙ c.if-not-is_running.false in
    c.sent.ensures ∙ plan_sent k c.requires c.args.dp c.in-Some.conn.now runs (sym found) ∙ tables_some k.world c.args.dp runs
