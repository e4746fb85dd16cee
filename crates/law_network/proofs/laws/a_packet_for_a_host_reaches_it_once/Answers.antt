use Rattle.law_network.proofs.Results.{host_packet_from, host_once_from, host_back_from, host_elsewhere_from}
use Rattle.law_network.proofs.laws.a_packet_for_a_host_reaches_it_once.Goals as goal

pub returns-clause-once : goal.returns-clause-once
returns-clause-once c = λ conf now d i p w y h cm for k enough e q at same number other. host_once_from c.a_cold_start_sends_each_packet_as_described.ensures c.table_1_admits_as_described.ensures c.tables_4_to_6_route_as_described.ensures conf now d i p w y cm k enough e q at h for same number other

pub returns-clause-back : goal.returns-clause-back
returns-clause-back c = λ conf now d i p w y h cm for k enough e q at same number. host_back_from c.a_cold_start_sends_each_packet_as_described.ensures c.table_1_admits_as_described.ensures c.tables_4_to_6_route_as_described.ensures conf now d i p w y cm k enough e q at h for same number

pub returns-clause-elsewhere : goal.returns-clause-elsewhere
returns-clause-elsewhere c = λ conf now d i p w y h cm for k enough e q at other. host_elsewhere_from c.a_cold_start_sends_each_packet_as_described.ensures c.table_1_admits_as_described.ensures c.tables_4_to_6_route_as_described.ensures conf now d i p w y cm k enough e q at h for other

pub returns-clause-packet : goal.returns-clause-packet
returns-clause-packet c = λ conf now d i p w y h cm for k enough e q at test passes same number other. host_packet_from c.a_cold_start_sends_each_packet_as_described.ensures c.table_1_admits_as_described.ensures c.tables_4_to_6_route_as_described.ensures conf now d i p w y cm k enough e q at test passes h for same number other
