use Rattle.std.proofs.Common.{◌<◌, List, not, filter, length, sym, ap, ◌∙◌, subst}
use Rattle.host_list.specs.Addresses.{Entry}
use Rattle.host_list.specs.Order.{is_other}
use Rattle.host_list.proofs.Leaving.{fewer, left, none_left}
use Rattle.host_list.proofs.moving.leave_others.Goals as goal

pub loop-other-smaller : goal.loop-other-smaller
loop-other-smaller c =
    let test = is_other c.args.conf.now c.args.heard.now c.args.place in
    let order = c.loop-other.order in
    subst (λ (es : List Entry). length es < length order) (sym c.remove.ensures.left)
    (fewer test c.in-Some.other order c.other_place.ensures.rising (sym c.other_place.ensures.value ∙ c.in-Some.is))

pub loop-other-preserved : goal.loop-other-preserved
loop-other-preserved c =
    let test = is_other c.args.conf.now c.args.heard.now c.args.place in
    let order = c.loop-other.order in
    ap (filter (λ (e : Entry). not (test e))) c.remove.ensures.left
    ∙ left test c.in-Some.other order c.other_place.ensures.rising (sym c.other_place.ensures.value ∙ c.in-Some.is) ∙ c.loop-other.invariant

pub returns : goal.returns
returns c =
    let test = is_other c.args.conf.now c.args.heard.now c.args.place in
    sym (none_left test c.loop-other.order (sym c.other_place.ensures.value ∙ c.in_default.is)) ∙ c.loop-other.invariant
