use Rattle.std.proofs.Common.{◌≡◌, ◌∙◌, Some, None, sym, ap, arith, length}
use Rattle.std.specs.List.{position}
use Rattle.conf_types.specs.State.{is_to_forget}
use Rattle.test_hosts.proofs.Places.{found, left, none_found, none_left}
use Rattle.test_hosts.proofs.plain.take_due.Goals as goal

pub returns-in-Some-clause-found : goal.returns-in-Some-clause-found
returns-in-Some-clause-found c =
    let test = is_to_forget c.args.conf.now c.args.now.0 in
    let place : Some c.in-Some.at ≡ position test c.args.hosts.now.items = sym c.in-Some.is ∙ c.due_place.ensures.place ∙ ap (position test) c.as_slice.ensures.value in
    found test c.args.hosts.now.items c.in-Some.at c.remove.result place (omega (arith, c.in-Some.ensures.within, ap length c.as_slice.ensures.value)) c.remove.ensures.value

pub returns-in-Some-clause-left : goal.returns-in-Some-clause-left
returns-in-Some-clause-left c =
    let test = is_to_forget c.args.conf.now c.args.now.0 in
    let place : Some c.in-Some.at ≡ position test c.args.hosts.now.items = sym c.in-Some.is ∙ c.due_place.ensures.place ∙ ap (position test) c.as_slice.ensures.value in
    c.remove.ensures.items ∙ left test c.args.hosts.now.items c.in-Some.at place

pub returns-in-None-clause-found : goal.returns-in-None-clause-found
returns-in-None-clause-found c =
    let test = is_to_forget c.args.conf.now c.args.now.0 in
    let place : None ≡ position test c.args.hosts.now.items = sym c.in-None.is ∙ c.due_place.ensures.place ∙ ap (position test) c.as_slice.ensures.value in
    none_found test c.args.hosts.now.items place

pub returns-in-None-clause-left : goal.returns-in-None-clause-left
returns-in-None-clause-left c =
    let test = is_to_forget c.args.conf.now c.args.now.0 in
    let place : None ≡ position test c.args.hosts.now.items = sym c.in-None.is ∙ c.due_place.ensures.place ∙ ap (position test) c.as_slice.ensures.value in
    none_left test c.args.hosts.now.items place
