use Rattle.std.proofs.Common.{◌==◌, length, ap, ◌∙◌, arith}
use Rattle.std.specs.BTreeMap.{is_at}
use Rattle.std.specs.Map.{lookup}
use Rattle.std.specs.Option.{option_map}
use Rattle.std.specs.Ordering.{nat_cmp}
use Rattle.conf_types.specs.declared.datapath.Dp.{Dp}
use Rattle.conf_rules.proofs.FirstPlaces.{none_found, found_more}
use Rattle.conf_names.proofs.numbered_ports.dps_of.Goals as goal

pub loop-i-init : goal.loop-i-init
loop-i-init c = λ n.
    ap (λ es. option_map (λ t. t.dp.now) (lookup (is_at (nat_cmp n)) es)) c.new-made.ensures.empty ∙ none_found (λ (d : Dp). d.id.0 == n) c.args.dps.now (length c.args.dps.now) (omega arith)

pub loop-i-preserved : goal.loop-i-preserved
loop-i-preserved c = λ n.
    found_more (λ (d : Dp). d.id.0 == n) c.args.dps.now c.loop-i.i _ c.index-dps-i.result _ _ (omega arith) (omega arith) c.index-dps-i.is (c.loop-i.invariant n) (c.in_ok-add_dp.ensures n)
