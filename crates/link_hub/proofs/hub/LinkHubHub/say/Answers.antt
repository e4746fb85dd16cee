use Rattle.std.proofs.Common.{None, Some}
use Rattle.link_hub.proofs.HubLemmas.{is_some_of, says_from, ends_later}
use Rattle.link_hub.proofs.hub.LinkHubHub.say.Goals as goal

pub returns-in-Some-Ok-None-clause-step : goal.returns-in-Some-Ok-None-clause-step
returns-in-Some-Ok-None-clause-step g c =
    (c.if-self.false, says_from g.P.L.Link g.P.Poller c.args.conn c.args.piece.now c.args.self.now c.say_at.new.lives (c.say_at.ensures.some None (cc)))

pub returns-in-Some-Ok-None-clause-taken : goal.returns-in-Some-Ok-None-clause-taken
returns-in-Some-Ok-None-clause-taken g c = λ _.
    let said = c.say_at.ensures.some None (cc) in
    is_some_of _ said.is said.set.here

pub returns-in-Some-Ok-Some-clause-step : goal.returns-in-Some-Ok-Some-clause-step
returns-in-Some-Ok-Some-clause-step g c =
    ends_later g.P.L.Link g.P.Poller c.args.conn c.args.piece.now c.in-Some-Ok-Some.cause c.args.self.now c.say_at.new.lives c.end_later.result c.end_later.new.self c.if-self.false
    (c.say_at.ensures.some (Some c.in-Some-Ok-Some.cause) (cc)) c.end_later.ensures.goes
