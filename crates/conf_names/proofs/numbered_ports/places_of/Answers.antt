use Rattle.std.proofs.Common.{◌==◌, length, option_and_then, ap, ◌∙◌, arith}
use Rattle.std.specs.BTreeMap.{is_at}
use Rattle.std.specs.List.{slice_get}
use Rattle.std.specs.Map.{lookup}
use Rattle.std.specs.Ordering.{nat_cmp}
use Rattle.conf_types.specs.declared.datapath.Port.{Port}
use Rattle.conf_rules.proofs.FirstPlaces.{none_found, placed_more}
use Rattle.conf_names.proofs.numbered_ports.places_of.Goals as goal

pub loop-i-init : goal.loop-i-init
loop-i-init c = λ n.
    ap (λ es. option_and_then (slice_get c.args.ports.now) (lookup (is_at (nat_cmp n)) es)) c.new-places.ensures.empty ∙ none_found (λ (p : Port). p.no == n) c.args.ports.now (length c.args.ports.now) (omega arith)

pub loop-i-preserved : goal.loop-i-preserved
loop-i-preserved c = λ n.
    placed_more (λ (p : Port). p.no == n) c.args.ports.now c.loop-i.i _ c.index-ports-i.result _ _ (omega arith) (omega arith) c.index-ports-i.is (c.loop-i.invariant n) (c.in_ok-add_port.ensures n)
