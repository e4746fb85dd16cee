use Rattle.std.proofs.Common.{◌∙◌, ◌<◌, length, get_or, sym, ap, subst, arith}
use Rattle.conf_types.specs.Configuration.{Configuration}
use Rattle.conf_types.specs.Groups.{group_of}
use Rattle.conf_types.proofs.Reached.{group_by_dps}
use Rattle.conf_types.proofs.conf.Conf.group_of_place.Goals as goal

-- a configuration has at most as many datapaths as there are places
pub offset_bounds-groups-at : goal.offset_bounds-groups-at
offset_bounds-groups-at c =
    let within : c.args.at < length c.self.inside.dps = subst (λ (k : Configuration). c.args.at < length k.dps) (sym c.self.view_is) c.requires in
    omega (arith, within, c.self.invariant.0.limits.dps)

pub returns : goal.returns
returns c = λ d.
    let o = c.self.inside in
    let conf : Configuration = record { dps = o.dps; vlans = o.vlans; acls = o.acls; routers = o.routers } in
    let within : c.args.at < length conf.dps = subst (λ (k : Configuration). c.args.at < length k.dps) (sym c.self.view_is) c.requires in
    c.self.invariant.1 c.args.at d (record { 0 = 0 }) within ∙ group_by_dps conf (get_or conf.dps c.args.at d).id
    ∙ ap (λ (k : Configuration). group_of k (get_or k.dps c.args.at d).id) c.self.view_is
