use Rattle.std.proofs.Common.{◌∙◌, ap}
use Rattle.recording.specs.Conns.{without}
use Rattle.recording.proofs.Ascending.{is_removed}
use Rattle.recording.proofs.conns.Conns.remove.Goals as goal

pub returns : goal.returns
returns c = c.remove.ensures.keys ∙ is_removed c.args.conn c.self.inside.conns.keys c.len-len.ensures.ordered ∙ ap (λ ks. without ks c.args.conn) c.self.view_is
