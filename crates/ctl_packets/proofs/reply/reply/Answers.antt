use Rattle.std.proofs.Common.{sym, subst}
use Rattle.std.proofs.lemmas.Result.{on_ok_weaker}
use Rattle.ctl_world.specs.Alike.{IsAlike}
use Rattle.ctl_world.specs.World.{World}
use Rattle.ctl_world.proofs.Faces.{say_alike}
use Rattle.ctl_packets.proofs.reply.reply.Goals as goal

pub returns-in-Some-clause-alike : goal.returns-in-Some-clause-alike
returns-in-Some-clause-alike c =
    on_ok_weaker c.say.result (λ e. subst (λ (w : World). IsAlike w c.args.world.now) (sym e) (say_alike c.args.arrival.conn c.packet_out.result c.args.world.now)) c.say.ensures
