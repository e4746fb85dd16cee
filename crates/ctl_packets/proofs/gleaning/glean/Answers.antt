use Rattle.std.proofs.Common.{sym, ap, ◌∙◌}
use Rattle.std.proofs.lemmas.Result.{on_ok_weaker}
use Rattle.pkt_view.specs.Frame.{shown}
use Rattle.ctl_packets.specs.Packets.{glean_to}
use Rattle.ctl_packets.proofs.Gleaned.{gleaned_is}
use Rattle.ctl_packets.proofs.gleaning.glean.Goals as goal

pub returns-in-Some-clause-done : goal.returns-in-Some-clause-done
returns-in-Some-clause-done c =
    on_ok_weaker c.glean_to.result
    (λ e. e ∙ ap (λ group. glean_to group c.args.vid c.in-Some.ip c.args.world.now) c.group_number-group.ensures ∙ gleaned_is c.args.dp c.args.vid (shown c.args.frame.now) c.args.world.now c.in-Some.ip (sym c.in-Some.is ∙ c.gleaned.ensures))
    c.glean_to.ensures.done
