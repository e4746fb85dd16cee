use Rattle.std.proofs.Common.{rules, ℕ, List, min, ap, ◌∙◌}
use Rattle.std.specs.Prelude.{sum_by}
use Rattle.conf_types.specs.declared.acl.Rule.{Rule}
use Rattle.conf_types.specs.declared.datapath.Dp.{Dp}
use Rattle.conf_types.specs.declared.datapath.Port.{Port}
use Rattle.conf_types.specs.Valid.{ports_named}
use Rattle.conf_limits.specs.Sizes.{cost}
use Rattle.conf_limits.proofs.Capped.{added_more}
use Rattle.conf_limits.proofs.acl_sizes.outputs_on_ports.Goals as goal

pub loop-port-preserved : goal.loop-port-preserved
loop-port-preserved c =
    let d = c.args.ports.now.dp.now in
    let of = (λ (names : List (List ℕ)). cost (λ (rules : List Rule). sum_by (ports_named d) rules) c.args.acls.now names) in
    added_more c.args.cap (λ (p : Port). of p.acls) d.ports _ c.loop-port.port-index c.port-item.result _ _ _
    (c.as_slice-port-items.ensures ∙ ap (λ (e : Dp). e.ports) c.dp.ensures) c.loop-port-test.true c.port-item.is c.loop-port.invariant
    (c.in_ok-named.ensures ∙ ap (λ (names : List (List ℕ)). min c.args.cap (of names)) c.as_slice.ensures) (search rules)
