-- Where what came is bytes, a story is described, and each frame of its log is spelled.
use Rattle.std.proofs.Common.{List, subst}
use Rattle.std.specs.List.{AllByRecursion}
use Rattle.fg_outside.specs.declared.hub.Happening.{Happening}
use Rattle.conf_types.specs.Configuration.{Configuration}
use Rattle.hub_drive.specs.Driving.{IsFront}
use Rattle.law_stories.specs.Right.{IsOfBytes, IsRight}
use Rattle.law_answers.specs.Whole.{HasItsLives, IsDescribedThrough}
use Rattle.law_answers.proofs.Bytes.{all_first}
use Rattle.law_answers.proofs.Spelled.{lives_spelled}

pub described : (conf : Configuration) (story : List Happening) → ((front : List Happening) → IsRight conf front) → ((front : List Happening) → HasItsLives conf front) → AllByRecursion IsOfBytes story
    → IsDescribedThrough conf story
described conf story right lives all front is =
    let bytes : AllByRecursion IsOfBytes front = all_first IsOfBytes front is.rest (subst (AllByRecursion IsOfBytes) is.parts all) in
    record { bytes = bytes; described = (right front).description bytes; spelled = lives_spelled conf front bytes (lives front) }
