use Rattle.std.proofs.Common.{◌≡◌, ◌++◌, ◌∙◌, List, [], ◌∷◌, ap, sym, subst, append-nil, append_assoc}
use Rattle.std.specs.Prelude.{Contains}
use Rattle.std.specs.List.{AllByRecursion}
use Rattle.of_match.specs.declared.entry.Entry.{Entry}
use Rattle.plan_base.proofs.Each.{all_append, all_from}
use Rattle.warm_plan.proofs.Telling.{kept_in, new_in}
use Rattle.warm_plan.proofs.touched.all_touched.Goals as goal

pub loop-entry-init : goal.loop-entry-init
loop-entry-init c = ([], c.into_iter-entry-iterator.ensures.into_iter_gives ∙ c.iter-entry-items.ensures.items, tt)

pub loop-entry-preserved : goal.loop-entry-preserved
loop-entry-preserved c =
    let s = c.loop-entry.touched in
    let n = c.insert.new.self in
    let up = c.in_ok-insert.ensures.updates in
    let done = c.loop-entry.invariant.0 in
    let e = c.in-Some.entry.now in
    let parts = append_assoc done (e ∷ []) c.next.new.self ∙ ap (λ (es : List Entry). done ++ es) (sym c.in-Some.ensures.steps) ∙ c.loop-entry.invariant.1 in
    let before = all_from {P = λ (f : Entry). Contains s.keys f.key} {Q = λ (f : Entry). Contains n.keys f.key} (λ f here. kept_in s n c.in_ok-key.key up f.key here) done c.loop-entry.invariant.2 in
    (done ++ e ∷ [], parts, all_append (λ (f : Entry). Contains n.keys f.key) done (e ∷ []) before (subst (Contains n.keys) c.in_ok-key.ensures (new_in s n c.in_ok-key.key up), tt))

pub returns : goal.returns
returns c =
    let done = c.loop-entry.invariant.0 in
    let all : done ≡ c.args.tables.now = sym (append-nil done) ∙ ap (λ (es : List Entry). done ++ es) (sym c.in-None.ensures.steps.0) ∙ c.loop-entry.invariant.1 in
    subst (AllByRecursion (λ (e : Entry). Contains (c.loop-entry.touched).keys e.key)) all c.loop-entry.invariant.2
