use Rattle.conf_types.proofs.LinksUp.{listed_is_up, up_is_listed, listed_begins_at_the_lesser, listed_once}
use Rattle.conf_types.proofs.laws.each_link_that_is_up_is_listed_once.Goals as goal

pub returns-clause-up : goal.returns-clause-up
returns-clause-up c = λ conf ups l valid listed. listed_is_up conf ups valid l listed

pub returns-clause-listed : goal.returns-clause-listed
returns-clause-listed c = λ conf ups l valid up. up_is_listed conf ups valid l up

pub returns-clause-direction : goal.returns-clause-direction
returns-clause-direction c = λ conf ups l valid listed. listed_begins_at_the_lesser conf ups valid l listed

pub returns-clause-once : goal.returns-clause-once
returns-clause-once c = λ conf ups valid. listed_once conf ups valid
