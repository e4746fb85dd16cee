use Rattle.law_network.proofs.Results.{walk_ends}
use Rattle.law_network.proofs.laws.a_walk_is_whole_with_64_datapaths_in_a_row.Goals as goal

pub returns : goal.returns
returns c = λ conf now d i p w y cm k enough. walk_ends c.a_cold_start_sends_each_packet_as_described.ensures c.table_1_admits_as_described.ensures c.tables_4_to_6_route_as_described.ensures conf now d i p w y cm k enough
