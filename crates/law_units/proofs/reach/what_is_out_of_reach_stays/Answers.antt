use Rattle.law_units.proofs.Routes.{route_entries}
use Rattle.law_units.proofs.Stays.{stays}
use Rattle.law_units.proofs.reach.what_is_out_of_reach_stays.Goals as goal

pub returns-clause-units : goal.returns-clause-units
returns-clause-units c = λ conf old new d changes so sn named u out other.
    stays c.a_group_has_the_least_identifier_that_is_joined.ensures c.paths_depend_on_their_own_part_alone.ensures.hop c.paths_depend_on_their_own_part_alone.ensures.tree conf old new d changes so sn named
    (λ ups l here. c.each_link_that_is_up_is_listed_once.ensures.up conf ups l so.valid here) u out other

pub returns-clause-routes : goal.returns-clause-routes
returns-clause-routes c = λ conf old new d changes so sn named vid out. route_entries conf old new d changes so sn named vid out
