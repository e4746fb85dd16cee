use Rattle.std.proofs.Common.{◌≡◌, ◌∙◌, ◌-◌, ◌++◌, ℕ, List, [], ap, sym, append_assoc, arith, take}
use Rattle.std.specs.Prelude.{Option}
use Rattle.std.specs.List.{cons_option}
use Rattle.of_match.specs.declared.entry.Entry.{Entry}
use Rattle.acl_compile.specs.Rows.{rule_entry}
use Rattle.acl_compile.specs.Slices.{entries_from}
use Rattle.acl_compile.proofs.Numbered.{entries_more}
use Rattle.acl_compile.proofs.rules.push_rules.Goals as goal

pub loop-rule-preserved : goal.loop-rule-preserved
loop-rule-preserved c =
    let place = c.args.place.now in
    let dp = c.args.dp.now in
    let so_far = entries_from place dp c.args.first (take c.loop-rule.rule-index c.args.rules.now) in
    record {
      entries = c.in_ok-push_some.ensures
          ∙ ap (λ (o : Option Entry). c.loop-rule.out ++ cons_option o []) (c.in_ok-make_rule.ensures ∙ ap (λ (p : ℕ). rule_entry place dp p c.rule-item.result) c.loop-rule.invariant.priority)
          ∙ ap (λ (es : List Entry). es ++ cons_option (rule_entry place dp (c.args.first - c.loop-rule.rule-index) c.rule-item.result) []) c.loop-rule.invariant.entries
          ∙ append_assoc c.args.out.now so_far (cons_option (rule_entry place dp (c.args.first - c.loop-rule.rule-index) c.rule-item.result) [])
          ∙ ap (λ (es : List Entry). c.args.out.now ++ es) (sym (entries_more place dp c.args.first c.loop-rule.rule-index c.rule-item.result c.args.rules.now c.loop-rule-test.true c.rule-item.is));
      priority = omega (arith, c.saturating_sub-priority.ensures, c.loop-rule.invariant.priority);
    }
