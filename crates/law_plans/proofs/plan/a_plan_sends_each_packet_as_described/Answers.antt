use Rattle.law_plans.proofs.plan.a_plan_sends_each_packet_as_described.Goals as goal

pub returns : goal.returns
returns c = λ conf now d setting port p fits shaped.
    c.tables_that_do_as_said_send_as_described.ensures conf now d setting (record {
      ports = c.table_0_does_as_the_ports_say.ensures conf now d setting;
      admission = c.table_1_admits_as_described.ensures conf now d setting;
      vlan_acls = c.table_2_does_as_the_acls_of_vlans_say.ensures conf now d setting;
      sources = c.table_3_does_as_the_source_says.ensures conf now d setting;
      routing = c.tables_4_to_6_route_as_described.ensures conf now d setting;
      destinations = c.table_7_sends_where_the_destination_is.ensures conf now d setting;
      floods = c.table_8_floods_as_described.ensures conf now d setting;
    }) port p fits shaped
