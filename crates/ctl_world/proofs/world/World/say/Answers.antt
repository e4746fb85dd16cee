use Rattle.std.proofs.lemmas.Result.{on_ok_weaker}
use Rattle.ctl_world.specs.Connections.{with_said}
use Rattle.ctl_world.proofs.Says.{said_on, said_on_none}
use Rattle.ctl_world.proofs.world.World.say.Goals as goal

pub returns-in-Some : goal.returns-in-Some
returns-in-Some c = on_ok_weaker c.push.result (said_on with_said c.args.conn c.args.message c.args.self.now _ c.next_xid.ensures.noted c.in-Some.xid _ c.in-Some.ensures.xid) c.push.ensures.ok

pub returns-in-None : goal.returns-in-None
returns-in-None c = said_on_none with_said c.args.conn c.args.message c.args.self.now _ c.next_xid.ensures.noted c.in-None.ensures.xid
