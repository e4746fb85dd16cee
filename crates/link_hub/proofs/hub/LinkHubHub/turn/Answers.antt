use Rattle.std.proofs.Common.{arith, refl, ap, ◌∙◌}
use Rattle.link_hub.specs.Hub.{spent, start, next}
use Rattle.link_hub.proofs.HubLemmas.{none_is, tells_turn, tells_same_poller, asked_from, empty_from}
use Rattle.link_hub.proofs.hub.LinkHubHub.turn.Goals as goal

pub returns-then-self-clause-step : goal.returns-then-self-clause-step
returns-then-self-clause-step g c = spent c.if-self.true

pub returns-in-Some-clause-step : goal.returns-in-Some-clause-step
returns-in-Some-clause-step g c =
    tells_turn g.P.L.Link g.P.Poller c.args.self.now c.in-Some.turn c.tell_end.new.self c.if-self.false (c.in-Some.ensures.some c.in-Some.turn refl)

pub returns-in-Some-clause-failed : goal.returns-in-Some-clause-failed
returns-in-Some-clause-failed g c = λ failed.
    absurd ((tells_same_poller g.P.L.Link g.P.Poller c.args.self.now c.in-Some.turn c.tell_end.new.self (c.in-Some.ensures.some c.in-Some.turn refl)).1 failed)

pub returns-in-Some-clause-no_fault : goal.returns-in-Some-clause-no_fault
returns-in-Some-clause-no_fault g c = λ _.
    ap (λ (poller : g.row.P.Denot). g.P.Poller.faults poller)
    (tells_same_poller g.P.L.Link g.P.Poller c.args.self.now c.in-Some.turn c.tell_end.new.self (c.in-Some.ensures.some c.in-Some.turn refl)).0

pub returns-in-Some-clause-faults : goal.returns-in-Some-clause-faults
returns-in-Some-clause-faults g c =
    omega (
      arith,
      ap (λ (poller : g.row.P.Denot). g.P.Poller.faults poller)
          (tells_same_poller g.P.L.Link g.P.Poller c.args.self.now c.in-Some.turn c.tell_end.new.self (c.in-Some.ensures.some c.in-Some.turn refl)).0,
    )

pub loop-asked-init : goal.loop-asked-init
loop-asked-init g c = record { passes = start; within = omega arith; faults = refl }

pub returns-in-Some-ask-clause-step : goal.returns-in-Some-ask-clause-step
returns-in-Some-ask-clause-step g c =
    asked_from g.P.L.Link g.P.Poller c.args.self.now c.tell_end.new.self c.loop-asked.self c.ask.new.self c.loop-asked.asked c.in-Some-ask.turn
    (c.in-None.ensures.none refl) c.if-self.false (omega arith) c.loop-asked.invariant.passes c.in-Some-ask.ensures.asks

pub loop-asked-preserved : goal.loop-asked-preserved
loop-asked-preserved g c = record {
  passes = next c.loop-asked.asked c.loop-asked.self c.ask.new.self c.loop-asked.invariant.passes c.in-None-ask.ensures.asks;
  within = omega arith;
  faults = c.in-None-ask.ensures.no_fault (λ e. none_is _ e) ∙ c.loop-asked.invariant.faults;
}

pub returns-clause-step : goal.returns-clause-step
returns-clause-step g c =
    empty_from g.P.L.Link g.P.Poller c.args.self.now c.tell_end.new.self c.loop-asked.self c.loop-asked.asked
    (c.in-None.ensures.none refl) c.if-self.false (omega arith) c.loop-asked.invariant.passes
