use Rattle.std.proofs.Common.{◌+◌, ◌-◌, sym, subst, ◌∙◌}
use Rattle.gauge_poll.specs.Monitoring.{hear_frames, hear_next}
use Rattle.gauge_poll.specs.StandsFor.{KeepsAll}
use Rattle.gauge_poll.proofs.Keeping.{OnWay, arrived, onward, set_out}
use Rattle.gauge_poll.proofs.Monitors.{all_left, heard_last, heard_on, none_left}
use Rattle.gauge_poll.proofs.hearing.hear_frames.Goals as goal

pub loop-init : goal.loop-init
loop-init c = λ m all.
    let k = c.args.kept.now in
    let rest = hear_frames (c.args.most - 0) c.args.conn in
    subst (OnWay KeepsAll k rest) (all_left c.args.most c.args.conn m) (set_out KeepsAll k m rest all)

pub returns-then-not-branch : goal.returns-then-not-branch
returns-then-not-branch c = λ m all.
    let k = c.loop.kept in
    let number = c.args.conn in
    let way = c.loop.invariant m all in
    let last = heard_last c.args.most c.loop.counter number c.loop-test.true k _ c.in_ok-hear_next.ensures.more c.if-not-branch.true way.so_far way.keeps in
    subst (KeepsAll c.hear_next.new.kept) (sym last ∙ way.leads) (c.in_ok-hear_next.ensures.heard way.so_far way.keeps)

pub loop-preserved : goal.loop-preserved
loop-preserved c = λ m all.
    let k = c.loop.kept in
    let number = c.args.conn in
    onward KeepsAll k c.hear_next.new.kept (hear_frames (c.args.most - c.loop.counter) number) (hear_frames (c.args.most - (c.loop.counter + 1)) number) (hear_next number) (hear_frames c.args.most number m)
    (heard_on c.args.most c.loop.counter number c.loop-test.true k _ c.in_ok-hear_next.ensures.more c.if-not-branch.false) c.in_ok-hear_next.ensures.heard (c.loop.invariant m all)

pub returns : goal.returns
returns c = λ m all.
    arrived KeepsAll c.loop.kept (hear_frames (c.args.most - c.loop.counter) c.args.conn) (hear_frames c.args.most c.args.conn m)
    (λ t kept. none_left c.args.most c.loop.counter c.args.conn c.loop-test.false t) (c.loop.invariant m all)
