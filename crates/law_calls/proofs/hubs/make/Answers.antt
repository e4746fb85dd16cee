use Rattle.std.proofs.Common.{refl, sym, subst}
use Rattle.fg_outside.specs.HubStep.{turned, said, closed}
use Rattle.law_calls.specs.declared.hubs.HubCall.{HubCall}
use Rattle.law_calls.specs.Hubs.{IsMade}
use Rattle.law_calls.proofs.hubs.make.Goals as goal

pub returns-in-Turn : goal.returns-in-Turn
returns-in-Turn g c =
    let was = c.args.hub.now in
    let now = c.turn-turn.new.self in
    subst (λ (call : HubCall). IsMade g.H.Hub was call now) (sym c.in-Turn.is)
    (record {
      step = turned c.turn-turn.result;
      does = tt;
      is = record { step = c.turn-turn.ensures.step; failed = c.turn-turn.ensures.failed; no_fault = c.turn-turn.ensures.no_fault };
    })

pub returns-in-Say : goal.returns-in-Say
returns-in-Say g c =
    let was = c.args.hub.now in
    let now = c.say-said.new.self in
    subst (λ (call : HubCall). IsMade g.H.Hub was call now) (sym c.in-Say.is)
    (record {
      step = said c.in-Say.conn c.in-Say.piece.now c.say-said.result;
      does = (refl, refl);
      is = record { step = c.say-said.ensures.step; gone = c.say-said.ensures.gone; taken = c.say-said.ensures.taken; faults = c.say-said.ensures.faults };
    })

pub returns-in-Close : goal.returns-in-Close
returns-in-Close g c =
    let was = c.args.hub.now in
    let now = c.close.new.self in
    subst (λ (call : HubCall). IsMade g.H.Hub was call now) (sym c.in-Close.is)
    (record {
      step = closed c.in-Close.conn;
      does = refl;
      is = record { step = c.close.ensures.step; shut = c.close.ensures.closed; faults = c.close.ensures.faults };
    })
