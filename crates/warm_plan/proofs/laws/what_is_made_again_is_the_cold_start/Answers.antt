use Rattle.warm_plan.proofs.Remade.{again_cold, again_parts}
use Rattle.warm_plan.proofs.Reaching.{stays}
use Rattle.warm_plan.proofs.laws.what_is_made_again_is_the_cold_start.Goals as goal

pub returns-clause-wanted : goal.returns-clause-wanted
returns-clause-wanted c = λ conf old new d changes parts gone again so sn named are out into.
    again_cold c.each_entry_of_a_unit_is_owned_by_it.ensures c.the_units_of_a_datapath_make_its_cold_start.ensures.listed c.a_plan_is_that_of_its_units.ensures.whole
    c.a_cold_start_is_the_plan_in_key_order.ensures.same c.the_keys_of_a_plan_are_distinct.ensures c.a_cold_start_is_the_plan_in_key_order.ensures.order conf old new d changes so sn
    (stays c.what_is_out_of_reach_stays.ensures.units c.what_is_out_of_reach_stays.ensures.routes c.the_reach_is_told_by_a_test.ensures conf old new d changes so sn named) parts are gone again out into

pub returns-clause-parts : goal.returns-clause-parts
returns-clause-parts c = λ conf old new d changes parts gone again so sn named are out into.
    again_parts c.each_entry_of_a_unit_is_owned_by_it.ensures c.the_units_of_a_datapath_make_its_cold_start.ensures.listed c.a_plan_is_that_of_its_units.ensures.whole
    c.a_cold_start_is_the_plan_in_key_order.ensures.same c.the_keys_of_a_plan_are_distinct.ensures c.a_cold_start_is_the_plan_in_key_order.ensures.order conf old new d changes so sn
    (stays c.what_is_out_of_reach_stays.ensures.units c.what_is_out_of_reach_stays.ensures.routes c.the_reach_is_told_by_a_test.ensures conf old new d changes so sn named) parts are gone again out into
