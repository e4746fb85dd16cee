use Rattle.std.proofs.Common.{◌||◌, sym, ap, ◌∙◌}
use Rattle.std.specs.List.{list_any}
use Rattle.conf_rules.specs.Routing.{overlap, clash}
use Rattle.conf_limits.proofs.MetVips.{met_earlier}
use Rattle.conf_limits.proofs.routing.overlaps_earlier.Goals as goal

pub returns-then-clashes_met : goal.returns-then-clashes_met
returns-then-clashes_met c =
    let earlier = met_earlier c.args.met.now c.args.conf.now c.args.vids.now c.args.earlier.now c.args.vlan.now.vid (λ other. clash other c.args.vip.now) c.requires.met c.requires.vids in
    c.if-clashes_met.true
    ∙ ap (λ b. b || list_any (λ other. overlap other c.args.vip.now) c.args.vips.now) (sym c.if-clashes_met.true ∙ c.clashes_met.ensures ∙ earlier)

pub returns-else-clashes_met : goal.returns-else-clashes_met
returns-else-clashes_met c =
    let earlier = met_earlier c.args.met.now c.args.conf.now c.args.vids.now c.args.earlier.now c.args.vlan.now.vid (λ other. clash other c.args.vip.now) c.requires.met c.requires.vids in
    c.overlaps_some.ensures
    ∙ ap (λ b. b || list_any (λ other. overlap other c.args.vip.now) c.args.vips.now) (sym c.if-clashes_met.false ∙ c.clashes_met.ensures ∙ earlier)
