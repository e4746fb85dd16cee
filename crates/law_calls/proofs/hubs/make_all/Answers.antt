use Rattle.std.proofs.Common.{◌<◌, List, length, take, get_or, sym, subst, arith}
use Rattle.std.proofs.lemmas.List.{take_more}
use Rattle.law_calls.specs.declared.hubs.HubCall.{HubCall}
use Rattle.law_calls.specs.declared.hubs.HubCall.TheVariants.{Turn}
use Rattle.law_calls.specs.Hubs.{IsMade}
use Rattle.law_calls.specs.Runs.{Run, start, next}
use Rattle.law_calls.proofs.hubs.make_all.Goals as goal

pub loop-call-init : goal.loop-call-init
loop-call-init g c = start

pub loop-call-preserved : goal.loop-call-preserved
loop-call-preserved g c =
    let calls = c.args.calls.now in
    let i = c.loop-call.call-index in
    let within : i < length calls = omega arith in
    subst (λ (list : List HubCall). Run (IsMade g.H.Hub) c.args.hub.now list c.make.new.hub) (sym (take_more calls i Turn within))
    (next (take i calls) c.loop-call.hub (get_or calls i Turn) c.make.new.hub c.loop-call.invariant c.make.ensures)
