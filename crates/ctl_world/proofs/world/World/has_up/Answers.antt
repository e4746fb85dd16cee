use Rattle.std.proofs.Common.{[], false, sym, ap, ◌∙◌}
use Rattle.std.specs.Option.{option_map_or}
use Rattle.conf_types.specs.Links.{is_up}
use Rattle.ctl_world.specs.World.{ups_by, ups_on}
use Rattle.ctl_world.proofs.Present.{up_of, ups_at}
use Rattle.ctl_world.proofs.world.World.has_up.Goals as goal

-- src/now.rt:164:13
pub returns-in_default : goal.returns-in_default
returns-in_default c =
    let w = c.args.self.now in
    sym (ups_at w.conns c.args.dp c.args.port w.conf.dps c.a_configuration_is_valid.ensures.datapaths.ids ∙ ap (λ o. option_map_or (λ d. is_up (ups_on w.conns d) c.args.dp c.args.port) o false) (sym c.in_default.ensures.found))

-- src/now.rt:159:5
pub returns-in-Some-of : goal.returns-in-Some-of
returns-in-Some-of c =
    let w = c.args.self.now in
    let d = c.in-Some.found.now in
    c.has_up.ensures ∙ sym (up_of w.conns c.args.dp c.args.port w.conf.dps d c.a_configuration_is_valid.ensures.datapaths.ids (sym c.in-Some.ensures.found)
    ∙ ap (λ o. is_up (option_map_or (ups_by d) o []) d.id c.args.port) (sym c.in-Some-of.ensures))

-- src/now.rt:159:5
pub returns-in-None : goal.returns-in-None
returns-in-None c =
    let w = c.args.self.now in
    let d = c.in-Some.found.now in
    sym (up_of w.conns c.args.dp c.args.port w.conf.dps d c.a_configuration_is_valid.ensures.datapaths.ids (sym c.in-Some.ensures.found)
    ∙ ap (λ o. is_up (option_map_or (ups_by d) o []) d.id c.args.port) (sym c.in-None.ensures))
