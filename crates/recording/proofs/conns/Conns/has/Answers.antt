use Rattle.std.proofs.Common.{◌∙◌, ap}
use Rattle.recording.specs.Conns.{is_among}
use Rattle.recording.proofs.Ascending.{is_found}
use Rattle.recording.proofs.conns.Conns.has.Goals as goal

pub returns : goal.returns
returns c = c.contains.ensures ∙ is_found c.self.inside.conns.keys c.args.conn ∙ ap (λ ks. is_among ks c.args.conn) c.self.view_is
