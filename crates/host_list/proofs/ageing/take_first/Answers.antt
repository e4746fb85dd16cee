use Rattle.std.proofs.Common.{◌≤◌, List, length, sym, ap, ◌∙◌, subst, arith}
use Rattle.net_base.specs.declared.numbers.Moment.{Moment}
use Rattle.conf_types.specs.State.{is_to_forget}
use Rattle.host_list.specs.declared.ageing.Passed.{Passed}
use Rattle.host_list.specs.Addresses.{Entry, off_place}
use Rattle.host_list.specs.Leaving.{from_place}
use Rattle.host_list.specs.Order.{hosts_of}
use Rattle.host_list.specs.Passed.{ArePassed, least_until}
use Rattle.host_list.proofs.Leaving.{fewer, first_found, first_left, no_first, place_is_entry}
use Rattle.host_list.proofs.Passed.{fewer_are, looked, none_are, started}
use Rattle.host_list.proofs.ageing.take_first.Goals as goal

pub returns-in-Some-default-clause-found : goal.returns-in-Some-default-clause-found
returns-in-Some-default-clause-found c =
    let conf = c.args.conf.now in
    let moment = c.args.now.0 in
    let order = c.args.order.now in
    let start = started conf moment c.args.passed.now c.start_from-start.result c.shelves.result.now order c.start_from-start.ensures c.requires c.shelves.ensures.each in
    c.remove.ensures.found ∙ first_found (is_to_forget conf moment) c.in-Some-default.front order c.next_due.ensures.rising (sym start.1 ∙ sym c.next_due.ensures.place ∙ c.in-Some-default.is-0)

pub returns-in-Some-default-clause-left : goal.returns-in-Some-default-clause-left
returns-in-Some-default-clause-left c =
    let conf = c.args.conf.now in
    let moment = c.args.now.0 in
    let order = c.args.order.now in
    let start = started conf moment c.args.passed.now c.start_from-start.result c.shelves.result.now order c.start_from-start.ensures c.requires c.shelves.ensures.each in
    ap hosts_of c.remove.ensures.left ∙ first_left (is_to_forget conf moment) c.in-Some-default.front order c.next_due.ensures.rising (sym start.1 ∙ sym c.next_due.ensures.place ∙ c.in-Some-default.is-0)

pub returns-in-Some-default-clause-fewer : goal.returns-in-Some-default-clause-fewer
returns-in-Some-default-clause-fewer c =
    let conf = c.args.conf.now in
    let moment = c.args.now.0 in
    let order = c.args.order.now in
    let test = is_to_forget conf moment in
    let n = c.in-Some-default.front in
    let start = started conf moment c.args.passed.now c.start_from-start.result c.shelves.result.now order c.start_from-start.ensures c.requires c.shelves.ensures.each in
    let less = fewer (λ (e : Entry). test e.1) n order c.next_due.ensures.rising (sym (place_is_entry test order) ∙ sym start.1 ∙ sym c.next_due.ensures.place ∙ c.in-Some-default.is-0) in
    let within : length (off_place n order) ≤ length order = omega (arith, less) in
    subst (λ (es : List Entry). length es ≤ length order) (sym c.remove.ensures.left) within

pub returns-in-Some-default-clause-passed : goal.returns-in-Some-default-clause-passed
returns-in-Some-default-clause-passed c =
    let conf = c.args.conf.now in
    let moment = c.args.now.0 in
    let order = c.args.order.now in
    let test = is_to_forget conf moment in
    let n = c.in-Some-default.front in
    let from = c.start_from-start.result in
    let start = started conf moment c.args.passed.now from c.shelves.result.now order c.start_from-start.ensures c.requires c.shelves.ensures.each in
    let after : Passed = record { front = n; least = least_until test from.least (from_place from.front order) } in
    let are = fewer_are after n order (looked test from n order c.next_due.ensures.rising start.0 (sym c.next_due.ensures.place ∙ c.in-Some-default.is-0)) in
    subst (λ (m : Moment). ArePassed (record { front = n; least = m }) c.remove.new.self) (sym c.next_due.ensures.least)
    (subst (ArePassed after) (sym c.remove.ensures.left) are)

pub returns-in-None-default-clause-found : goal.returns-in-None-default-clause-found
returns-in-None-default-clause-found c =
    let conf = c.args.conf.now in
    let moment = c.args.now.0 in
    let order = c.args.order.now in
    let start = started conf moment c.args.passed.now c.start_from-start.result c.shelves.result.now order c.start_from-start.ensures c.requires c.shelves.ensures.each in
    sym (no_first (is_to_forget conf moment) order (sym start.1 ∙ sym c.next_due.ensures.place ∙ c.in-None-default.is-0)).0

pub returns-in-None-default-clause-left : goal.returns-in-None-default-clause-left
returns-in-None-default-clause-left c =
    let conf = c.args.conf.now in
    let moment = c.args.now.0 in
    let order = c.args.order.now in
    let start = started conf moment c.args.passed.now c.start_from-start.result c.shelves.result.now order c.start_from-start.ensures c.requires c.shelves.ensures.each in
    ap hosts_of c.tighten.ensures ∙ sym (no_first (is_to_forget conf moment) order (sym start.1 ∙ sym c.next_due.ensures.place ∙ c.in-None-default.is-0)).1

pub returns-in-None-default-clause-passed : goal.returns-in-None-default-clause-passed
returns-in-None-default-clause-passed c = none_are c.none.result c.none.ensures c.tighten.new.self
