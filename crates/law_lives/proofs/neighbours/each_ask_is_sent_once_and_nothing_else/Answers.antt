use Rattle.ctl_world.specs.Saying.{say}
use Rattle.law_lives.proofs.Told.{story_asks}
use Rattle.law_lives.proofs.neighbours.each_ask_is_sent_once_and_nothing_else.Goals as goal

pub returns : goal.returns
returns c =
    story_asks c.what_the_laws_rest_on.ensures (λ number m w. c.alike_worlds_run_alike.ensures.running (say number m w) w (c.what_is_said_is_alike.ensures.say number m w))
