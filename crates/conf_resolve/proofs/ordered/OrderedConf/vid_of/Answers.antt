use Rattle.std.proofs.Common.{◌∙◌, ap, sym}
use Rattle.conf_resolve.specs.Resolved.{vid_of}
use Rattle.conf_resolve.proofs.ordered.OrderedConf.vid_of.Goals as goal

pub returns-in-Name : goal.returns-in-Name
returns-in-Name c = c.vid_named.ensures ∙ ap (vid_of c.args.self.now.vlans) (sym c.in-Name.is)
