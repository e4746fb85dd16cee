use Rattle.std.proofs.Common.{List, get_or, set, sym, ap, ◌∙◌, arith}
use Rattle.std.proofs.lemmas.List.Edits.{map_over_more}
use Rattle.std.proofs.lemmas.List.Sums.{sum_by_more, sum_by_more_le}
use Rattle.packet_way.specs.Present.{state_of}
use Rattle.ctl_settle.specs.declared.plans.Held.{Held}
use Rattle.ctl_settle.specs.Counted.{again}
use Rattle.ctl_settle.specs.Plans.{renewed}
use Rattle.ctl_settle.proofs.Apart.{numbers_set}
use Rattle.ctl_settle.proofs.Counting.{still_at}
use Rattle.ctl_settle.proofs.plans.renew_each.Goals as goal

pub loop-one-preserved : goal.loop-one-preserved
loop-one-preserved g c =
    let f = renewed c.args.conf.now (state_of c.args.now.now) in
    let cost = λ (h : Held). again c.args.conf.now (state_of c.args.now.now) c.args.touched.now h.plan in
    let first = c.args.held.now in
    let held = c.loop-one.held in
    let i = c.loop-one.one-index in
    let one = c.one-item.result in
    let step = map_over_more f first held i one (omega arith) c.loop-one.invariant.renewed c.one-item.is in
    let here = ap cost (ap (λ (hs : List Held). get_or hs i one) c.loop-one.invariant.renewed ∙ still_at f first i one (omega arith)) in
    let sum = sum_by_more cost first i one (omega arith) in
    record {
      renewed = ap (set held i) (c.in_ok-renew.ensures.renewed ∙ ap f (sym c.one-item.is)) ∙ step;
      numbers = numbers_set held i c.renew.new.held one c.renew.ensures.conn (omega arith) ∙ c.loop-one.invariant.numbers;
      most = omega (arith, c.renew.ensures.most, c.loop-one.invariant.most, here, sum);
    }

pub returns-in_err-renew-clause-numbers : goal.returns-in_err-renew-clause-numbers
returns-in_err-renew-clause-numbers g c =
    numbers_set c.loop-one.held c.loop-one.one-index c.renew.new.held c.one-item.result c.renew.ensures.conn (omega arith) ∙ c.loop-one.invariant.numbers

pub returns-in_err-renew-clause-most : goal.returns-in_err-renew-clause-most
returns-in_err-renew-clause-most g c =
    let f = renewed c.args.conf.now (state_of c.args.now.now) in
    let cost = λ (h : Held). again c.args.conf.now (state_of c.args.now.now) c.args.touched.now h.plan in
    let first = c.args.held.now in
    let i = c.loop-one.one-index in
    let one = c.one-item.result in
    let here = ap cost (ap (λ (hs : List Held). get_or hs i one) c.loop-one.invariant.renewed ∙ still_at f first i one (omega arith)) in
    let sum = sum_by_more_le cost first i one (omega arith) in
    omega (arith, c.renew.ensures.most, c.loop-one.invariant.most, here, sum)
