use Rattle.std.proofs.Common.{sym, ◌∙◌}
use Rattle.recording.proofs.Stepping.{said_step, answer_spent, answer_live, answer_gone}
use Rattle.recording.proofs.script_hub.ScriptHubHub.say.Goals as goal

pub returns-then-self-clause-step : goal.returns-then-self-clause-step
returns-then-self-clause-step g c =
    said_step g.S.Source.left g.S.Source.may c.args.self.now c.args.conn c.args._piece.now _ (answer_spent c.args.self.now c.args.conn c.if-self.true)

pub returns-then-has-clause-step : goal.returns-then-has-clause-step
returns-then-has-clause-step g c =
    said_step g.S.Source.left g.S.Source.may c.args.self.now c.args.conn c.args._piece.now _ (answer_live c.args.self.now c.args.conn c.if-self.false (sym c.has.ensures ∙ c.if-has.true))

pub returns-else-has-clause-step : goal.returns-else-has-clause-step
returns-else-has-clause-step g c =
    said_step g.S.Source.left g.S.Source.may c.args.self.now c.args.conn c.args._piece.now _ (answer_gone c.args.self.now c.args.conn c.if-self.false (sym c.has.ensures ∙ c.if-has.false))
