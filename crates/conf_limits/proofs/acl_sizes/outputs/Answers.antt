use Rattle.std.proofs.Common.{rules, ℕ, List, min, refl, sym, ap, ◌∙◌}
use Rattle.std.specs.Prelude.{sum_by}
use Rattle.std.proofs.lemmas.List.{take_all}
use Rattle.conf_types.specs.declared.acl.Rule.{Rule}
use Rattle.conf_types.specs.Valid.{ports_named}
use Rattle.conf_limits.specs.Sizes.{named_rules}
use Rattle.conf_limits.proofs.Capped.{added_more, cost-named}
use Rattle.conf_limits.proofs.acl_sizes.outputs.Goals as goal

pub loop-name-preserved : goal.loop-name-preserved
loop-name-preserved c =
    let cost = ports_named c.args.ports.now.dp.now in
    let named = named_rules c.args.acls.now in
    added_more c.args.cap (λ (name : List ℕ). sum_by cost (named name)) c.args.names.now _ c.loop-name.name-index c.name-item.result _ _ _ refl c.loop-name-test.true c.name-item.is c.loop-name.invariant
    (c.in_ok-named.ensures ∙ ap (λ (rules : List Rule). min c.args.cap (sum_by cost rules)) c.named_rules.ensures) (search rules)

pub returns : goal.returns
returns c =
    let each = λ (name : List ℕ). sum_by (ports_named c.args.ports.now.dp.now) (named_rules c.args.acls.now name) in
    c.loop-name.invariant
    ∙ ap (λ (names : List (List ℕ)). min c.args.cap (sum_by each names)) (take_all c.loop-name.name-index c.args.names.now c.loop-name-test.false)
    ∙ sym (ap (min c.args.cap) (cost-named (ports_named c.args.ports.now.dp.now) c.args.acls.now c.args.names.now))
