use Rattle.std.proofs.Common.{◌∙◌, ◌++◌, List, [], ◌∷◌, sym, ap, subst, if◌then◌else◌}
use Rattle.std.specs.Ordering.{is_gt}
use Rattle.std.proofs.lemmas.List.{append_assoc}
use Rattle.of_match.specs.declared.entry.Command.{Command}
use Rattle.of_match.specs.declared.entry.Command.TheVariants.{Add}
use Rattle.of_match.specs.declared.entry.Entry.{Entry}
use Rattle.of_match.specs.KeyOrder.{key_cmp}
use Rattle.of_match.specs.FlowTables.{IsInKeyOrder, below, above}
use Rattle.plan_difference.specs.Difference.{deletes, has, difference}
use Rattle.plan_difference.proofs.Order.{kept_order}
use Rattle.plan_difference.proofs.merge.difference.Goals as goal

pub loop-entry-preserved : goal.loop-entry-preserved
loop-entry-preserved c =
    let e = c.in-Some.entry.now in
    let rest = c.loop-entry.rest in
    let to = c.next.new.self in
    let batch = c.loop-entry.batch in
    let own = if has rest e then [] else Add e ∷ [] in
    let more = difference (above e.key rest) to in
    record {
      ordered = subst IsInKeyOrder (sym c.in_ok-push_for.ensures.left) (kept_order (λ f. is_gt (key_cmp f.key e.key)) rest c.loop-entry.invariant.ordered);
      made =
          ap (λ (es : List Entry). c.push_for.new.batch ++ difference es to) c.in_ok-push_for.ensures.left ∙ ap (λ (cs : List Command). cs ++ more) c.in_ok-push_for.ensures.batch
          ∙ append_assoc batch (deletes (below e.key rest) ++ own) more ∙ ap (λ (cs : List Command). batch ++ cs) (append_assoc (deletes (below e.key rest)) own more)
          ∙ ap (λ (es : List Entry). batch ++ difference rest es) (sym c.in-Some.ensures.steps) ∙ c.loop-entry.invariant.made;
    }
