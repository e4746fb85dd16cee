use Rattle.law_calls.proofs.HubCauses.{say_cause, turn_cause}
use Rattle.law_calls.proofs.laws.each_refusal_of_a_hub_has_its_cause.Goals as goal

pub returns-clause-turned : goal.returns-clause-turned
returns-clause-turned g c = λ old new turn is. turn_cause g.P.L.Link g.P.Poller old turn new is.step is.failed

pub returns-clause-said : goal.returns-clause-said
returns-clause-said g c = λ old new conn piece is. say_cause g.P.L.Link g.P.Poller old new conn piece is.step
