use Rattle.std.proofs.Common.{◌∙◌, ◌++◌, sym, ap, arith, append-nil}
use Rattle.packet_way.specs.Present.{state_of}
use Rattle.net_walk.specs.Arrivals.{arrivals}
use Rattle.net_walk.proofs.Steps.{arrivals_none, all_gone_through}
use Rattle.net_walk.proofs.walking.Walking.+push_arrivals.Goals as goal

pub returns-then-left-eq0-clause-arrivals : goal.returns-then-left-eq0-clause-arrivals
returns-then-left-eq0-clause-arrivals g t c =
    let conf = c.args.self.now.conf.now in
    let now = state_of c.args.self.now.learned.now in
    let none = ap (λ k. arrivals conf now k c.args.dp c.args.port c.args.packet.now) c.if-left-eq0.true ∙ arrivals_none conf now c.args.dp c.args.port c.args.packet.now in
    sym (ap (λ l. c.args.out.now ++ l) none ∙ append-nil c.args.out.now)

-- all sends have been gone through
pub returns-clause-arrivals : goal.returns-clause-arrivals
returns-clause-arrivals g t c =
    all_gone_through c.args.self.now.conf.now (state_of c.args.self.now.learned.now) c.args.left c.args.dp c.args.port c.args.packet.now c.args.out.now c.loop-sent.out c.loop-sent.sent-index c.as_slice-sent-items.result.now (omega (arith, c.if-left-eq0.false)) (c.as_slice-sent-items.ensures ∙ c.in_ok-sents.ensures.sents) c.loop-sent-test.false c.loop-sent.invariant.arrivals
