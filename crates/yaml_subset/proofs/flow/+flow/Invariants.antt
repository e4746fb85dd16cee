use Rattle.std.proofs.Common.{◌≡◌, ◌+◌, ◌*◌, [], length}
use Rattle.yaml_subset.specs.Flow.{list_from, map_from, flow_value}
use Rattle.yaml_subset.proofs.flow.+flow.Given as goal

abbrev pub invariant-flow_list-loop-left : goal.invariant-flow_list-loop-left
invariant-flow_list-loop-left l = list_from (flow_value l.levels) l.left l.items l.rest ≡ list_from (flow_value l.levels) (length l.text) [] l.text

abbrev pub invariant-flow_map-loop-left : goal.invariant-flow_map-loop-left
invariant-flow_map-loop-left l = map_from (flow_value l.levels) l.left l.pairs l.rest ≡ map_from (flow_value l.levels) (length l.text) [] l.text

abbrev pub decreases-flow_list-loop-left : goal.decreases-flow_list-loop-left
decreases-flow_list-loop-left l = l.left

abbrev pub decreases-flow_map-loop-left : goal.decreases-flow_map-loop-left
decreases-flow_map-loop-left l = l.left

abbrev pub decreases-flow_value : goal.decreases-flow_value
decreases-flow_value l = 4 * l.levels

abbrev pub decreases-entry_value : goal.decreases-entry_value
decreases-entry_value l = 4 * l.levels + 1

abbrev pub decreases-list_step : goal.decreases-list_step
decreases-list_step l = 4 * l.levels + 2

abbrev pub decreases-map_step : goal.decreases-map_step
decreases-map_step l = 4 * l.levels + 2

abbrev pub decreases-flow_list : goal.decreases-flow_list
decreases-flow_list l = 4 * l.levels + 3

abbrev pub decreases-flow_map : goal.decreases-flow_map
decreases-flow_map l = 4 * l.levels + 3
