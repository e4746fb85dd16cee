use Rattle.std.proofs.Common.{sym, ap, ◌∙◌, arith}
use Rattle.conf_types.specs.declared.vlan.Router.{Router}
use Rattle.conf_limits.proofs.FirstRouters.{no_routers, routers_more}
use Rattle.conf_limits.proofs.numbered.routers_of.Goals as goal

pub loop-i-init : goal.loop-i-init
loop-i-init c = no_routers c.args.routers.now

pub loop-i-preserved : goal.loop-i-preserved
loop-i-preserved c = λ n lt.
    routers_more c.args.routers.now c.loop-i.i _ n _ _ c.index-routers-i.result _ (omega arith) (omega arith) c.index-routers-i.is (c.as_slice.ensures ∙ ap (λ (r : Router). r.vlans) (sym c.index-routers-i.is)) (c.lead_to.ensures n lt) (c.loop-i.invariant n lt)
