use Rattle.ctl_world.proofs.Noted.{put_keeps}
use Rattle.ctl_world.proofs.firsts.put.Goals as goal

pub returns-in-Ok-clause-kept : goal.returns-in-Ok-clause-kept
returns-in-Ok-clause-kept c = λ done. put_keeps c.args.numbers.now c.insert.new.self c.args.dp c.args.number c.in-Ok.ensures.updates c.requires
