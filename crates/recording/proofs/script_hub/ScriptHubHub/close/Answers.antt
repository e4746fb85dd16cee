use Rattle.std.proofs.Common.{refl}
use Rattle.recording.proofs.Stepping.{closed_step, is_gone}
use Rattle.std.proofs.Common.{◌∙◌, ap}
use Rattle.recording.specs.Conns.{is_among}
use Rattle.recording.proofs.script_hub.ScriptHubHub.close.Goals as goal

pub returns-clause-step : goal.returns-clause-step
returns-clause-step g c = closed_step g.S.Source.left g.S.Source.may c.args.self.now _ c.args.conn c.remove.ensures refl refl refl

pub returns-clause-closed : goal.returns-clause-closed
returns-clause-closed g c = ap (λ l. is_among l c.args.conn) c.remove.ensures ∙ is_gone c.args.self.now.live c.args.conn
