use Rattle.std.proofs.Common.{subst}
use Rattle.std.specs.Prelude.{IsPermutation}
use Rattle.cold_start.specs.Cold.{cold}
use Rattle.law_units.proofs.Listed.{once, listed}
use Rattle.law_units.proofs.laws.the_units_of_a_datapath_make_its_cold_start.Goals as goal

pub returns-clause-once : goal.returns-clause-once
returns-clause-once c = λ conf now d setting. once conf now d setting

pub returns-clause-whole : goal.returns-clause-whole
returns-clause-whole c = λ conf now d setting.
    subst (λ es. IsPermutation es (cold conf now d)) (c.a_plan_is_that_of_its_units.ensures.whole conf now d setting) (c.a_cold_start_is_the_plan_in_key_order.ensures.same conf now d setting)

pub returns-clause-listed : goal.returns-clause-listed
returns-clause-listed c = λ conf now d u e here. listed conf now d u e here
