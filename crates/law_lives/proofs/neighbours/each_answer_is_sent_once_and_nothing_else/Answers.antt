use Rattle.ctl_world.specs.World.{first}
use Rattle.law_stories.proofs.StorySound.{StandsSound, first_stands, keeps_sound}
use Rattle.law_lives.proofs.Each.{each_frame}
use Rattle.law_lives.specs.Outs.{AnswersTheHeard}
use Rattle.law_lives.proofs.Answered.{frame_answers}
use Rattle.law_lives.proofs.neighbours.each_answer_is_sent_once_and_nothing_else.Goals as goal

pub returns : goal.returns
returns c =
    let laws = c.what_the_laws_rest_on.ensures in
    λ conf story valid.
    each_frame StandsSound (keeps_sound laws) AnswersTheHeard (λ f before behind. frame_answers f.before before.1 f.on f.says) (first conf) story (first_stands laws conf valid)
