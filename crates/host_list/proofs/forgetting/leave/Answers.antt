use Rattle.std.proofs.Common.{◌<◌, List, not, filter, length, refl, sym, ap, ◌∙◌, subst}
use Rattle.host_list.specs.Addresses.{Entry}
use Rattle.host_list.specs.Leaving.{from_place, leaves}
use Rattle.host_list.specs.Order.{first_place}
use Rattle.host_list.proofs.Leaving.{fewer, from_first, left, looked_on, none_left, place_is_entry}
use Rattle.host_list.proofs.forgetting.leave.Goals as goal

pub loop-place-init : goal.loop-place-init
loop-place-init c = (refl, ap (first_place (leaves c.args.leaving.now)) (from_first c.args.order.now))

pub loop-place-smaller : goal.loop-place-smaller
loop-place-smaller c =
    let test = leaves c.args.leaving.now in
    let order = c.loop-place.order in
    let first = sym c.loop-place.invariant.1 ∙ sym c.first_leaving.ensures.value ∙ c.in-Some.is in
    subst (λ (es : List Entry). length es < length order) (sym c.remove.ensures.left)
    (fewer (λ (e : Entry). test e.1) c.in-Some.place order c.first_leaving.ensures.rising (sym (place_is_entry test order) ∙ first))

pub loop-place-preserved : goal.loop-place-preserved
loop-place-preserved c =
    let test = leaves c.args.leaving.now in
    let order = c.loop-place.order in
    let n = c.in-Some.place in
    let first = sym c.loop-place.invariant.1 ∙ sym c.first_leaving.ensures.value ∙ c.in-Some.is in (
      ap (filter (λ (e : Entry). not (test e.1))) c.remove.ensures.left
          ∙ left (λ (e : Entry). test e.1) n order c.first_leaving.ensures.rising (sym (place_is_entry test order) ∙ first) ∙ c.loop-place.invariant.0,
      ap (λ (es : List Entry). first_place test (from_place n es)) c.remove.ensures.left
          ∙ looked_on test n order c.first_leaving.ensures.rising first ∙ sym (ap (first_place test) c.remove.ensures.left),
    )

pub returns : goal.returns
returns c =
    let test = leaves c.args.leaving.now in
    let order = c.loop-place.order in
    let none = sym c.loop-place.invariant.1 ∙ sym c.first_leaving.ensures.value ∙ c.in_default.is in
    sym (none_left (λ (e : Entry). test e.1) order (sym (place_is_entry test order) ∙ none)) ∙ c.loop-place.invariant.0
