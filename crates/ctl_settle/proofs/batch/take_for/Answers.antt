use Rattle.std.proofs.Common.{◌≡◌, ◌<◌, IfSome, Option, None, Some, length, set, ap, ◌∙◌, arith}
use Rattle.std.proofs.lemmas.List.{get_or-set_same}
use Rattle.ctl_settle.specs.declared.plans.Held.{Held}
use Rattle.ctl_settle.specs.Plans.{took}
use Rattle.ctl_settle.proofs.Apart.{apart_by, numbers_set}
use Rattle.ctl_settle.proofs.PlanPlaces.{is_there, none_set, none_there, set_there}
use Rattle.ctl_settle.proofs.batch.take_for.Goals as goal

when_none : {A : Type 0} (o : Option A) (P : A → Type 0) → o ≡ None → IfSome o P
when_none None P is = tt
when_none (Some x) P is = absurd (cc)

when_some : {A : Type 0} (o : Option A) (P : A → Type 0) (x : A) → o ≡ Some x → P x → IfSome o P
when_some o P x is holds = rw is holds

pub returns-in_default-clause-batch : goal.returns-in_default-clause-batch
returns-in_default-clause-batch c = when_none _ _ (none_there _ _ _ _ c.as_slice.ensures.value c.plans.view_is c.in_default.ensures.place)

pub returns-in_default-clause-taken : goal.returns-in_default-clause-taken
returns-in_default-clause-taken c = none_set _ _ _ _ c.as_slice.ensures.value c.plans.view_is c.in_default.ensures.place

pub returns-clause-batch : goal.returns-clause-batch
returns-clause-batch c =
    let there = is_there _ _ _ _ c.as_slice.ensures.value c.plans.view_is _ _ c.in-Some.ensures.place c.in-Some.ensures.within c.index_mut.ensures.value in
    let items = c.plans.inside.held.items in
    let at = c.in-Some.at in
    let within : at < length items = omega (arith, c.in-Some.ensures.within, ap length c.as_slice.ensures.value) in
    let held : c.index.result.now ≡ took c.index_mut.result.now = c.index.ensures ∙ get_or-set_same items at c.take.new.held c.index.result.now within ∙ c.in_ok-commands.ensures.taken in
    when_some _ _ _ there (c.in_ok-commands.ensures.batch, c.of-entries.ensures ∙ c.sent.ensures ∙ ap (λ (h : Held). h.plan.sent) held)

pub returns-clause-taken : goal.returns-clause-taken
returns-clause-taken c =
    ap (set c.plans.inside.held.items c.in-Some.at) c.in_ok-commands.ensures.taken
    ∙ set_there _ _ _ _ c.as_slice.ensures.value c.plans.view_is _ _ c.in-Some.ensures.place c.in-Some.ensures.within c.index_mut.ensures.value

pub invariant_of-plans : goal.invariant_of-plans
invariant_of-plans c =
    let items = c.plans.inside.held.items in
    let within : c.in-Some.at < length items = omega (arith, c.in-Some.ensures.within, ap length c.as_slice.ensures.value) in
    apart_by _ items (numbers_set items c.in-Some.at c.take.new.held c.index_mut.result.now (c.take.ensures.conn ∙ ap (λ (h : Held). h.conn) c.index_mut.ensures.value) within) c.plans.invariant

pub invariant_of-plans-2 : goal.invariant_of-plans-2
invariant_of-plans-2 c =
    let items = c.plans.inside.held.items in
    let within : c.in-Some.at < length items = omega (arith, c.in-Some.ensures.within, ap length c.as_slice.ensures.value) in
    apart_by _ items (numbers_set items c.in-Some.at c.take.new.held c.index_mut.result.now (c.take.ensures.conn ∙ ap (λ (h : Held). h.conn) c.index_mut.ensures.value) within) c.plans.invariant
