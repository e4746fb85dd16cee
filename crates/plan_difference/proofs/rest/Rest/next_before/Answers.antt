use Rattle.std.proofs.Common.{rules, ◌≡◌, [], ◌∷◌, ◌∙◌, false, ap, subst}
use Rattle.std.specs.Ordering.{is_lt}
use Rattle.of_match.specs.FlowTables.{IsInKeyOrder, below}
use Rattle.of_match.specs.KeyOrder.{key_cmp}
use Rattle.plan_difference.proofs.Split.{none_before}
use Rattle.plan_difference.proofs.rest.Rest.next_before.Goals as goal
use Rattle.plan_difference.proofs.rest.Rest.next_before.Goals.{in_default-via-in-Some+else-is_lt, in_default-via-in_default}

pub returns-in_default-clause-ended : goal.returns-in_default-clause-ended
returns-in_default-clause-ended c =
    let k = c.args.key.now in
    elim c.in_default.branch [
      | in_default-via-in-Some+else-is_lt w ↦
          let is : c.args.self.now ≡ w.in-Some.first.now ∷ c.self.inside.others = search rules in
          let not_before : is_lt (key_cmp w.in-Some.first.now.key k) ≡ false = search rules in
          ap (below k) is ∙ none_before k w.in-Some.first.now c.self.inside.others (subst IsInKeyOrder is c.requires) not_before
      | in_default-via-in_default w ↦
          let is : c.args.self.now ≡ [] = search rules in
          ap (below k) is
    ]
