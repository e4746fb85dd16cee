use Rattle.std.proofs.Common.{◌<◌, List, not, filter, length, refl, sym, ap, ◌∙◌, subst}
use Rattle.conf_types.specs.State.{is_to_forget}
use Rattle.host_list.specs.declared.ageing.Passed.{Passed}
use Rattle.host_list.specs.Addresses.{Entry}
use Rattle.host_list.specs.Leaving.{from_place}
use Rattle.host_list.specs.Order.{first_place}
use Rattle.host_list.proofs.Leaving.{fewer, from_first, left, looked_on, none_left, place_is_entry}
use Rattle.host_list.proofs.ageing.leave_due.Goals as goal

pub loop-place-init : goal.loop-place-init
loop-place-init c =
    let test = is_to_forget c.args.conf.now c.args.now.0 in
    let order = c.args.order.now in
    (refl, ap (λ (p : Passed). first_place test (from_place p.front order)) c.none-passed.ensures ∙ ap (first_place test) (from_first order))

pub loop-place-smaller : goal.loop-place-smaller
loop-place-smaller c =
    let test = is_to_forget c.args.conf.now c.args.now.0 in
    let order = c.loop-place.order in
    let first = sym c.loop-place.invariant.1 ∙ sym c.next_due.ensures.place ∙ c.in-Some.is in
    subst (λ (es : List Entry). length es < length order) (sym c.remove.ensures.left)
    (fewer (λ (e : Entry). test e.1) c.in-Some.place order c.next_due.ensures.rising (sym (place_is_entry test order) ∙ first))

pub loop-place-preserved : goal.loop-place-preserved
loop-place-preserved c =
    let test = is_to_forget c.args.conf.now c.args.now.0 in
    let order = c.loop-place.order in
    let n = c.in-Some.place in
    let first = sym c.loop-place.invariant.1 ∙ sym c.next_due.ensures.place ∙ c.in-Some.is in (
      ap (filter (λ (e : Entry). not (test e.1))) c.remove.ensures.left
          ∙ left (λ (e : Entry). test e.1) n order c.next_due.ensures.rising (sym (place_is_entry test order) ∙ first) ∙ c.loop-place.invariant.0,
      ap (λ (es : List Entry). first_place test (from_place n es)) c.remove.ensures.left
          ∙ looked_on test n order c.next_due.ensures.rising first ∙ sym (ap (first_place test) c.remove.ensures.left),
    )

pub returns : goal.returns
returns c =
    let test = is_to_forget c.args.conf.now c.args.now.0 in
    let order = c.loop-place.order in
    let none = sym c.loop-place.invariant.1 ∙ sym c.next_due.ensures.place ∙ c.in_default.is in
    sym (none_left (λ (e : Entry). test e.1) order (sym (place_is_entry test order) ∙ none)) ∙ c.loop-place.invariant.0
