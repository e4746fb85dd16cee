use Rattle.warm_plan.proofs.Telling.{told_removed}
use Rattle.warm_plan.proofs.touched.remove_one.Goals as goal

pub returns-clause-told : goal.returns-clause-told
returns-clause-told c = rw c.remove.ensures (told_removed c.args.touched.now c.insert.new.self c.args.key c.in_ok-insert.ensures.updates c.args.tables.now)
