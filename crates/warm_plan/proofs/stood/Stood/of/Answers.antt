use Rattle.std.proofs.Common.{◌≡◌, ◌∙◌, ap}
use Rattle.std.proofs.lemmas.Option.{same_Some}
use Rattle.conf_types.specs.declared.datapath.Dp.{Dp}
use Rattle.conf_types.specs.State.{is_table_full}
use Rattle.packet_way.specs.Present.{state_of}
use Rattle.warm_plan.specs.Places.{kept_places, places_of, all_renewed}
use Rattle.warm_plan.proofs.Standing.{made_places}
use Rattle.warm_plan.proofs.stood.Stood.of.Goals as goal

pub returns : goal.returns
returns c = λ other is.
    let conf = c.args.conf.now in
    let state = state_of c.args.now.now in
    let d = c.in-Some.dp.now in
    let same : d ≡ other = same_Some d other (c.in-Some.ensures.found ∙ is) in
    let units = c.as_slice.ensures ∙ c.in_ok-all.ensures in
    let made : kept_places c.renew_all.new.self ≡ places_of conf d state.hosts =
    c.in_ok-renew_all.ensures
    ∙ (λ i. record (all_renewed conf d state.hosts (units i) (c.new-stood.ensures i)) { is_table_full = is_table_full state.hosts })
    ∙ made_places conf state d in
    made ∙ ap (λ (e : Dp). places_of conf e state.hosts) same
