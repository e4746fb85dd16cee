-- A block has what counts alone.
use Rattle.std.proofs.Common.{◌≡◌, ◌*◌, ◌++◌, nat_lt, Bool, true, false, List, codes, length, map, refl, ap, if◌then◌else◌}
use Rattle.conf_types.specs.declared.datapath.Dp.{Dp}
use Rattle.of13_codec.specs.declared.ports.PortStats.{PortStats}
use Rattle.flow_stats.specs.declared.flow.Flow.{Flow}
use Rattle.prom_text.specs.Blocks.{flow_block, flow_metric_names, flow_row, metrics, port_block, port_metric_names, port_row}
use Rattle.prom_text.specs.Counted.{counted_flows, counted_ports, most_flows, most_ports}
use Rattle.gauge_poll.specs.Lines.{few_flows, few_ports}

ports_by : (d : Dp) (a b : List PortStats) → counted_ports a ≡ counted_ports b → port_block d a ≡ port_block d b
unfolding port_block
ports_by d a b same = ap (λ items. metrics port_metric_names (codes "counter") 0 (map (port_row d) items)) same

flows_by : (d : Dp) (a b : List Flow) → counted_flows a ≡ counted_flows b → flow_block d a ≡ flow_block d b
unfolding flow_block
flows_by d a b same = ap (λ items. metrics flow_metric_names (codes "counter") 0 (map (flow_row d) items)) same

pub same_port_block : ((xs ys : List PortStats) → counted_ports (counted_ports xs ++ ys) ≡ counted_ports (xs ++ ys)) → (d : Dp) (xs ys : List PortStats) → port_block d (few_ports xs ++ ys) ≡ port_block d (xs ++ ys)
same_port_block again d xs ys = by (nat_lt (2 * most_ports) (length xs))
  where
    by : (b : Bool) → port_block d ((if b then counted_ports xs else xs) ++ ys) ≡ port_block d (xs ++ ys)
    by true = ports_by d (counted_ports xs ++ ys) (xs ++ ys) (again xs ys)
    by false = refl

pub same_flow_block : ((xs ys : List Flow) → counted_flows (counted_flows xs ++ ys) ≡ counted_flows (xs ++ ys)) → (d : Dp) (xs ys : List Flow) → flow_block d (few_flows xs ++ ys) ≡ flow_block d (xs ++ ys)
same_flow_block again d xs ys = by (nat_lt (2 * most_flows) (length xs))
  where
    by : (b : Bool) → flow_block d ((if b then counted_flows xs else xs) ++ ys) ≡ flow_block d (xs ++ ys)
    by true = flows_by d (counted_flows xs ++ ys) (xs ++ ys) (again xs ys)
    by false = refl
