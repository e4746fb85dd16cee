use Rattle.std.proofs.Common.{◌≡◌, eqb-true, subst}
use Rattle.std.specs.Prelude.{IfOk}
use Rattle.conf_types.specs.Families.{width_of}
use Rattle.plan_base.proofs.Families.{by_width}
use Rattle.route_compile.specs.Routes.{item_entry}
use Rattle.route_compile.proofs.routes.make_entry_of.Goals as goal

pub returns : goal.returns
returns c =
    let item = c.args.item.now in
    let same = by_width c.args.family c.requires.one item.ip (eqb-true (width_of item.ip) c.args.family.width c.requires.own) in
    subst (λ f. IfOk c.make_item_entry.result (λ made. made ≡ item_entry f c.args.vlan.now item)) same c.make_item_entry.ensures
