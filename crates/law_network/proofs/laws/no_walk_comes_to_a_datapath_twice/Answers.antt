use Rattle.law_network.proofs.Results.{visited_from}
use Rattle.law_network.proofs.laws.no_walk_comes_to_a_datapath_twice.Goals as goal

pub returns : goal.returns
returns c = λ conf now d i p w y cm k enough t. visited_from c.a_cold_start_sends_each_packet_as_described.ensures c.table_1_admits_as_described.ensures c.tables_4_to_6_route_as_described.ensures conf now d i p w y cm k enough t
