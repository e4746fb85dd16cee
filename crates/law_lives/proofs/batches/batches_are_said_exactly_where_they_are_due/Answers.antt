use Rattle.law_lives.proofs.Exactly.{story_exactly}
use Rattle.law_lives.proofs.Outside.{story_outside}
use Rattle.law_lives.proofs.batches.batches_are_said_exactly_where_they_are_due.Goals as goal

pub returns : goal.returns
returns c =
    let laws = c.what_the_laws_rest_on.ensures in
    record { settlings = story_exactly laws c.equal_plans_have_no_difference.ensures; outside = story_outside laws }
