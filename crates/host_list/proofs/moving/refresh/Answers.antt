use Rattle.std.proofs.Common.{◌<◌, List, count_by, sym, ap, ◌∙◌, subst}
use Rattle.host_list.specs.Addresses.{Entry}
use Rattle.host_list.specs.Hosts.{refreshed}
use Rattle.host_list.specs.Order.{hosts_of, is_old}
use Rattle.host_list.proofs.Leaving.{all_heard, fewer_old, still_first}
use Rattle.host_list.proofs.moving.refresh.Goals as goal

pub loop-place-smaller : goal.loop-place-smaller
loop-place-smaller c =
    let heard = c.args.heard.now in
    let order = c.loop-place.order in
    subst (λ (es : List Entry). count_by (is_old heard) es < count_by (is_old heard) order) (sym c.refresh.ensures)
    (fewer_old heard c.in-Some.place order c.old_place.ensures.rising (sym c.old_place.ensures.value ∙ c.in-Some.is))

pub loop-place-preserved : goal.loop-place-preserved
loop-place-preserved c =
    let heard = c.args.heard.now in
    let order = c.loop-place.order in
    ap (λ (es : List Entry). refreshed heard (hosts_of es)) c.refresh.ensures
    ∙ still_first heard c.in-Some.place order c.old_place.ensures.rising (sym c.old_place.ensures.value ∙ c.in-Some.is) ∙ c.loop-place.invariant

pub returns : goal.returns
returns c =
    all_heard c.args.heard.now c.loop-place.order (sym c.old_place.ensures.value ∙ c.in_default.is) ∙ c.loop-place.invariant
