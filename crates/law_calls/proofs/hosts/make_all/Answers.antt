use Rattle.std.proofs.Common.{◌<◌, List, [], ◌∷◌, ◌++◌, length, take, sym, ap, ◌∙◌, subst, arith}
use Rattle.std.proofs.lemmas.List.{take_more}
use Rattle.law_calls.specs.declared.hosts.HostCall.{HostCall}
use Rattle.law_calls.specs.Hosts.{IsMade}
use Rattle.law_calls.specs.Runs.{Run, start, next}
use Rattle.law_calls.proofs.hosts.make_all.Goals as goal

pub loop-call-init : goal.loop-call-init
loop-call-init c = start

pub loop-call-preserved : goal.loop-call-preserved
loop-call-preserved c =
    let calls = c.args.calls.now in
    let i = c.loop-call.call-index in
    let call = c.call-item.result in
    let within : i < length calls = omega arith in
    let front = take_more calls i call within ∙ ap (λ (one : HostCall). take i calls ++ one ∷ []) (sym c.call-item.is) in
    subst (λ (list : List HostCall). Run IsMade c.args.table.now list c.make-answer.new.table) (sym front)
    (next (take i calls) c.loop-call.table call c.make-answer.new.table c.loop-call.invariant (c.make-answer.result, c.make-answer.ensures))
