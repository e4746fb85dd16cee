use Rattle.std.proofs.Common.{◌∙◌, sym, ap}
use Rattle.pkt_view.specs.Frame.{shown_upper}
use Rattle.neighbour_resolve.specs.Hearing.{upper_sender}
use Rattle.neighbour_resolve.proofs.hearing.heard_sender.Goals as goal

pub returns-in-V6 : goal.returns-in-V6
returns-in-V6 c = c.nd_sender.ensures ∙ sym (ap (upper_sender c.args.conf.now c.args.vid c.args.frame.now.src) (ap shown_upper c.in-V6.is))
