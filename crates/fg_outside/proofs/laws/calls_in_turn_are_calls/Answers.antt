use Rattle.fg_outside.proofs.StepLemmas.{Went-append}
use Rattle.fg_outside.proofs.laws.calls_in_turn_are_calls.Goals as goal

pub returns : goal.returns
returns g c = λ from mid to first second. Went-append g.S.Source.may from mid first to second
