use Rattle.std.proofs.Common.{◌≡◌, ◌+◌, ◌-◌, length, drop, sym, ap, ◌∙◌}
use Rattle.std.proofs.lemmas.Result.{IfOk-weaker}
use Rattle.bgp_messages.proofs.Joining.{none_of}
use Rattle.bgp_peer.specs.Turns.{known, hear_next, hear_each}
use Rattle.bgp_peer.proofs.Steps.{nothing_more, one_more}
use Rattle.bgp_peer.proofs.peer.Peer.hear_all.Goals as goal

pub returns-in_default : goal.returns-in_default
returns-in_default c =
    let p = c.loop.self in
    let rest = c.loop.rest.now in
    let most = length c.args.unread.now in
    let taken = c.in_ok-taken.field-0 in
    let stays = none_of taken _ c.in_default.not-Some c.in_ok-taken.ensures.none in
    let same = none_of taken _ c.in_default.not-Some c.in_ok-taken.ensures.same in
    IfOk-weaker c.from_slice.result _ _
    (λ left is. ap (λ q. known q left) same ∙ ap (known p) is ∙ sym (nothing_more (most - c.loop.counter) (known p rest) stays) ∙ c.loop.invariant)
    c.from_slice.ensures

pub loop-preserved : goal.loop-preserved
loop-preserved c =
    let p = c.loop.self in
    let rest = c.loop.rest.now in
    let most = length c.args.unread.now in
    let next = c.hear_next.new.self in
    let heard : hear_next (known p rest) ≡ known next (drop c.in-Some.taken rest) = rw c.in-Some.is at c.in_ok-taken.ensures.heard in
    ap (λ l. hear_each (most - (c.loop.counter + 1)) (known next l)) c.split_at.ensures.back
    ∙ sym (one_more most c.loop.counter (known p rest) (known next (drop c.in-Some.taken rest)) c.loop-test.true heard) ∙ c.loop.invariant
