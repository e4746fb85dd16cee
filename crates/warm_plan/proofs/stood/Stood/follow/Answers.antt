use Rattle.std.proofs.Common.{◌≡◌, ◌∙◌, sym, ap}
use Rattle.std.proofs.lemmas.Option.{same_Some}
use Rattle.conf_types.specs.declared.datapath.Dp.{Dp}
use Rattle.conf_types.specs.State.{is_table_full}
use Rattle.packet_way.specs.Present.{state_of}
use Rattle.warm_plan.specs.Places.{kept_places, places_of, all_renewed}
use Rattle.warm_plan.proofs.Settings.{setting_of}
use Rattle.warm_plan.proofs.Standing.{next_places}
use Rattle.warm_plan.proofs.stood.Stood.follow.Goals as goal

pub returns : goal.returns
returns c = λ before sound sound_now named places other is.
    let conf = c.args.conf.now in
    let state = state_of c.args.now.now in
    let d = c.in-Some.dp.now in
    let found = sym c.in-Some.ensures.found in
    let same : d ≡ other = same_Some d other (c.in-Some.ensures.found ∙ is) in
    let units = c.as_slice.ensures ∙ c.in_ok-moved.ensures in
    let made : kept_places c.renew_all.new.self ≡ places_of conf d state.hosts =
    c.in_ok-renew_all.ensures
    ∙ (λ i. record (all_renewed conf d state.hosts (units i) (places d found i)) { is_table_full = is_table_full state.hosts })
    ∙ next_places conf before state d c.args.changes.now (setting_of conf before c.args.dp d found sound) (setting_of conf state c.args.dp d found sound_now) named in
    made ∙ ap (λ (e : Dp). places_of conf e state.hosts) same
