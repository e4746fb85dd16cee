use Rattle.law_network.proofs.Results.{packet_from, once_from, back_from, outside_from, elsewhere_from}
use Rattle.law_network.proofs.laws.a_flood_reaches_each_member_once.Goals as goal

pub returns-clause-once : goal.returns-clause-once
returns-clause-once c = λ conf now d i p w y cm everywhere k enough e q at joined member may other. once_from c.a_cold_start_sends_each_packet_as_described.ensures c.table_1_admits_as_described.ensures c.tables_4_to_6_route_as_described.ensures conf now d i p w y cm k enough e q at everywhere joined member may other

pub returns-clause-back : goal.returns-clause-back
returns-clause-back c = λ conf now d i p w y cm everywhere k enough e q at same number. back_from c.a_cold_start_sends_each_packet_as_described.ensures c.table_1_admits_as_described.ensures c.tables_4_to_6_route_as_described.ensures conf now d i p w y cm k enough e q at everywhere same number

pub returns-clause-outside : goal.returns-clause-outside
returns-clause-outside c = λ conf now d i p w y cm everywhere k enough e q at no_member. outside_from c.a_cold_start_sends_each_packet_as_described.ensures c.table_1_admits_as_described.ensures c.tables_4_to_6_route_as_described.ensures conf now d i p w y cm k enough e q at everywhere no_member

pub returns-clause-elsewhere : goal.returns-clause-elsewhere
returns-clause-elsewhere c = λ conf now d i p w y cm everywhere k enough e q at apart. elsewhere_from c.a_cold_start_sends_each_packet_as_described.ensures c.table_1_admits_as_described.ensures c.tables_4_to_6_route_as_described.ensures conf now d i p w y cm k enough e q at everywhere apart

pub returns-clause-packet : goal.returns-clause-packet
returns-clause-packet c = λ conf now d i p w y cm everywhere k enough e q at test passes joined member may other. packet_from c.a_cold_start_sends_each_packet_as_described.ensures c.table_1_admits_as_described.ensures c.tables_4_to_6_route_as_described.ensures conf now d i p w y cm k enough e q at test passes everywhere joined member may other
