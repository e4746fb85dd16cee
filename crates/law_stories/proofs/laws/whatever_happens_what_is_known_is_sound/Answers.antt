use Rattle.law_stories.proofs.StorySound.{story_sound}
use Rattle.law_stories.proofs.laws.whatever_happens_what_is_known_is_sound.Goals as goal

pub returns : goal.returns
returns c =
    let holds = story_sound c.what_the_laws_rest_on.ensures in
    record { valid = λ conf story valid. (holds conf story valid).0; sound = λ conf story valid. (holds conf story valid).1 }
