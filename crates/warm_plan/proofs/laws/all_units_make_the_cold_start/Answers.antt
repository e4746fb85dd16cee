use Rattle.warm_plan.proofs.Made.{all_made, all_parts}
use Rattle.warm_plan.proofs.laws.all_units_make_the_cold_start.Goals as goal

pub returns-clause-wanted : goal.returns-clause-wanted
returns-clause-wanted c = λ conf now d setting.
    all_made c.each_entry_of_a_unit_is_owned_by_it.ensures c.the_units_of_a_datapath_make_its_cold_start.ensures.listed c.a_plan_is_that_of_its_units.ensures.whole
    c.a_cold_start_is_the_plan_in_key_order.ensures.same conf now d setting

pub returns-clause-parts : goal.returns-clause-parts
returns-clause-parts c = λ conf now d setting.
    all_parts c.each_entry_of_a_unit_is_owned_by_it.ensures c.the_units_of_a_datapath_make_its_cold_start.ensures.listed c.a_plan_is_that_of_its_units.ensures.whole
    c.a_cold_start_is_the_plan_in_key_order.ensures.same conf now d setting
