use Rattle.std.proofs.Common.{◌≡◌, ◌+◌, ◌==◌, Bool, cond, drop, ap, ◌∙◌, arith}
use Rattle.std.specs.Prelude.{count_by}
use Rattle.conf_types.specs.declared.datapath.Dp.{Dp}
use Rattle.conf_types.specs.Groups.{group_of, of_dps}
use Rattle.conf_rules.proofs.Groups.{counted}
use Rattle.conf_limits.proofs.limits.groups.Goals as goal
use Rattle.conf_limits.proofs.limits.groups.Goals.{then-names_group, else-names_group}

pub loop-i-preserved : goal.loop-i-preserved
loop-i-preserved c =
    let dps = c.args.dps.now in
    let names = λ (d : Dp). (group_of (of_dps dps) d.id).0 == d.id.0 in
    let further = count_by names (drop (c.loop-i.i + 1) dps) in
    let step : count_by names (drop c.loop-i.i dps) ≡ cond c.names_group.result 1 0 + further =
    counted names dps c.loop-i.i c.names_group.result c.loop-i-test.true c.names_group.ensures in
    elim c.if-names_group.branch [
      | then-names_group w ↦
          let one : count_by names (drop c.loop-i.i dps) ≡ 1 + further = step ∙ ap (λ (b : Bool). cond b 1 0 + further) w.if-names_group.true in
          (omega arith, omega arith)
      | else-names_group w ↦
          let none : count_by names (drop c.loop-i.i dps) ≡ 0 + further = step ∙ ap (λ (b : Bool). cond b 1 0 + further) w.if-names_group.false in
          (omega arith, omega arith)
    ]
