use Rattle.std.proofs.Common.{◌≡◌, Some, sym, ap, ◌∙◌}
use Rattle.std.proofs.lemmas.Option.{same_Some}
use Rattle.of_match.specs.declared.entry.Entry.{Entry}
use Rattle.law_runs.specs.Members.{of_all}
use Rattle.plan_units.specs.Units.{entries}
use Rattle.law_units.specs.Owner.{owner}
use Rattle.law_units.proofs.laws.two_units_have_no_key_in_common.Goals as goal

pub returns : goal.returns
returns c = λ conf next now later d other addresses further u w apart e f ce cf same.
    let first : owner e.key ≡ Some u = of_all (λ (x : Entry). owner x.key ≡ Some u) (entries conf now d u) (c.each_entry_of_a_unit_is_owned_by_it.ensures conf now d addresses u) e ce in
    let second : owner f.key ≡ Some w = of_all (λ (x : Entry). owner x.key ≡ Some w) (entries next later other w) (c.each_entry_of_a_unit_is_owned_by_it.ensures next later other further w) f cf in
    apart (same_Some u w (sym first ∙ ap owner same ∙ second))
