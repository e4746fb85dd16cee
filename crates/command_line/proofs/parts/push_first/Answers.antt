use Rattle.std.proofs.Common.{◌≡◌, ◌∷◌, ◌∙◌, Some, None, rules, ap}
use Rattle.command_line.specs.Parts.{option_in, parted}
use Rattle.command_line.specs.Parting.{joined}
use Rattle.command_line.proofs.Words.{adds_plain, adds_joined, adds_apart, parted_wrong, parted_cut, front_of, none_of}
use Rattle.command_line.proofs.parts.push_first.Goals as goal

pub returns-then-is_plain-clause-goes_on : goal.returns-then-is_plain-clause-goes_on
returns-then-is_plain-clause-goes_on c = adds_plain c.args.parts.now _ c.args.first.now c.args.behind.now (search rules) (search rules)

pub returns-in_default-clause-goes_on : goal.returns-in_default-clause-goes_on
returns-in_default-clause-goes_on c = parted_wrong c.args.first.now c.args.behind.now (search rules) (search rules)

pub returns-in-Some-value-clause-goes_on : goal.returns-in-Some-value-clause-goes_on
returns-in-Some-value-clause-goes_on c =
    let found : option_in c.args.first.now ≡ Some (c.in-Some.name.now, Some c.in-Some-value.value.now) = rw (← c.as_str-2.ensures) (rw c.in-Some-value.is at c.in-Some.ensures) in
    adds_joined c.args.parts.now c.push_option.new.options c.args.first.now _ _ c.args.behind.now (search rules) found c.in_ok-push_option.ensures

pub returns-in_default-behind-clause-goes_on : goal.returns-in_default-behind-clause-goes_on
returns-in_default-behind-clause-goes_on c =
    let found : option_in c.args.first.now ≡ Some (c.in-Some.name.now, None) = rw (← c.as_str-2.ensures) (rw c.in_default-value.is at c.in-Some.ensures) in
    let none = none_of c.args.behind.now c.in_default-behind.len_below in
    rw none (parted_cut c.args.first.now _ (search rules) found)

pub returns-clause-goes_on : goal.returns-clause-goes_on
returns-clause-goes_on c =
    let found : option_in c.args.first.now ≡ Some (c.in-Some.name.now, None) = rw (← c.as_str-2.ensures) (rw c.in_default-value.is at c.in-Some.ensures) in
    let front = front_of c.args.behind.now _ c.in-len1-up.len_at_least c.value-item.is in
    ap (λ words. joined c.args.parts.now (parted None (c.args.first.now ∷ words))) front
    ∙ adds_apart c.args.parts.now c.push_option-2.new.options c.args.first.now c.in-Some.name.now c.value-item.result _ (search rules) found (search rules)
