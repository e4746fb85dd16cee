use Rattle.std.proofs.Common.{◌≡◌, sym, subst}
use Rattle.std.specs.Prelude.{IfOk}
use Rattle.packet_way.specs.Present.{state_of}
use Rattle.cold_start.proofs.Gathered.{tabled}
use Rattle.cold_start.proofs.Groups.{own_id}
use Rattle.cold_start.proofs.tables.cold.Goals as goal

pub plan_entries-requires-clause-dp : goal.plan_entries-requires-clause-dp
plan_entries-requires-clause-dp g c = own_id c.args.conf.now.dps c.args.dp c.in-Some.dp.now (sym c.in-Some.ensures.found)

pub returns-clause-tables : goal.returns-clause-tables
returns-clause-tables g c =
    let same = tabled c.args.conf.now (state_of c.args.now.now) c.args.dp c.in-Some.dp.now _ c.in-Some.ensures.found c.in_ok-all.ensures.entries in
    subst (λ l. IfOk c.add_all.result (λ made. made ≡ l)) same c.add_all.ensures
