use Rattle.std.proofs.Common.{sym}
use Rattle.warm_plan.proofs.Telling.{told_added}
use Rattle.warm_plan.proofs.touched.add_one.Goals as goal

pub returns-clause-told : goal.returns-clause-told
returns-clause-told c = rw c.in_ok-add.ensures.ok (told_added c.args.touched.now c.insert.new.self c.in_ok-key.key c.in_ok-insert.ensures.updates c.args.tables.now c.args.entry (sym c.in_ok-key.ensures))
