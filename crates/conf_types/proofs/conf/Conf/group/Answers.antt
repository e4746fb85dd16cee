use Rattle.std.proofs.Common.{◌≡◌, ◌∙◌, ◌<◌, List, length, get_or, ap, subst}
use Rattle.conf_types.specs.declared.datapath.Dp.{Dp}
use Rattle.conf_types.specs.Groups.{IsDp, group_of}
use Rattle.conf_types.proofs.Marks.{some_item, dp_at}
use Rattle.conf_types.proofs.conf.Conf.group.Goals as goal

pub group_of_place-requires : goal.group_of_place-requires
group_of_place-requires c =
    let is = c.as_slice-dps.ensures ∙ c.dps.ensures.lists in
    subst (λ (xs : List Dp). c.in-Some.at < length xs) is c.in-Some.ensures.within

-- the identifier at the place is the one that is asked for
pub returns-in-Some-clause-number : goal.returns-in-Some-clause-number
returns-in-Some-clause-number c =
    let is = c.as_slice-dps.ensures ∙ c.dps.ensures.lists in
    let d : Dp = some_item c.as_slice-dps.result.now c.in-Some.at c.in-Some.ensures.within in
    c.group_of_place.ensures d ∙ ap (group_of c.args.self.now) (subst (λ (xs : List Dp). (get_or xs c.in-Some.at d).id ≡ c.args.dp) is (c.in-Some.ensures.found d))

pub returns-in-Some-clause-found : goal.returns-in-Some-clause-found
returns-in-Some-clause-found c =
    let conf = c.args.self.now in
    let is = c.as_slice-dps.ensures ∙ c.dps.ensures.lists in
    let d : Dp = some_item c.as_slice-dps.result.now c.in-Some.at c.in-Some.ensures.within in
    let within : c.in-Some.at < length conf.dps = subst (λ (xs : List Dp). c.in-Some.at < length xs) is c.in-Some.ensures.within in
    subst (λ x. IsDp conf x) (subst (λ (xs : List Dp). (get_or xs c.in-Some.at d).id ≡ c.args.dp) is (c.in-Some.ensures.found d)) (dp_at conf c.in-Some.at c.in-Some.at d within)
