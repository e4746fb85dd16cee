use Rattle.std.proofs.Common.{◌≡◌, ◌∙◌, ◌-◌, ◌+◌, ◌++◌, ◌∷◌, ℕ, List, [], length, ap, sym, arith, take, take_all, length-append}
use Rattle.std.specs.Option.{option_map_or}
use Rattle.conf_types.specs.declared.acl.Rule.{Rule}
use Rattle.conf_types.specs.Attached.{acl_named, rules_of}
use Rattle.of_match.specs.declared.entry.Entry.{Entry}
use Rattle.acl_compile.specs.Rows.{denial}
use Rattle.acl_compile.specs.Slices.{entries_from}
use Rattle.acl_compile.proofs.Numbered.{entries-append, entries_by_number, flat_more}
use Rattle.acl_compile.proofs.slices.make_acl_entries.Goals as goal

pub loop-name-preserved : goal.loop-name-preserved
loop-name-preserved c =
    let place = c.args.place.now in
    let dp = c.args.dp.now in
    let names = c.as_slice-name-items.result.now in
    let rules = λ (name : List ℕ). option_map_or (λ acl. acl.rules) (acl_named c.args.conf.now.acls name) [] in
    let before = rules_of c.args.conf.now (take c.loop-name.name-index names) in
    let more = rules c.name-item.result in
    let joined : rules_of c.args.conf.now (take (c.loop-name.name-index + 1) names) ≡ before ++ more =
    flat_more rules names c.loop-name.name-index c.name-item.result c.loop-name-test.true c.name-item.is in
    record {
      entries = c.in_ok-priority.ensures.entries
          ∙ ap (λ (p : ℕ). c.loop-name.made ++ entries_from place dp p more) c.loop-name.invariant.priority
          ∙ ap (λ (es : List Entry). es ++ entries_from place dp (10000 - length before) more) c.loop-name.invariant.entries
          ∙ sym (entries-append place dp 10000 before more)
          ∙ ap (λ (rules : List Rule). entries_from place dp 10000 rules) (sym joined);
      priority =
          let here = c.in_ok-priority.ensures.next in
          let known = c.loop-name.invariant.priority in
          let all : length (rules_of c.args.conf.now (take (c.loop-name.name-index + 1) names)) ≡ length before + length more = ap length joined ∙ length-append before more in
          omega (arith, here, known, all);
    }

pub returns : goal.returns
returns c =
    let place = c.args.place.now in
    let dp = c.args.dp.now in
    let names = c.as_slice-name-items.result.now in
    let whole : take c.loop-name.name-index names ≡ c.args.acls.now = take_all _ _ c.loop-name-test.false ∙ c.as_slice-name-items.ensures in
    let rules = rules_of c.args.conf.now c.args.acls.now in
    c.in_ok-push.ensures.ok
    ∙ ap (λ (e : Entry). c.loop-name.made ++ e ∷ []) c.in_ok-make_denial.ensures
    ∙ ap (λ (es : List Entry). es ++ denial place ∷ [])
    (c.loop-name.invariant.entries ∙ ap (λ (names : List (List ℕ)). entries_from place dp 10000 (rules_of c.args.conf.now names)) whole ∙ entries_by_number place dp rules)
